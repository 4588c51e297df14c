-- Maps with weakened slots are as wide, and of fine cells.
use Rattle.std.proofs.Common.{◌≡◌, ℕ, zero, suc, ◌+◌, ◌*◌, ◌≤◌, List, ◌++◌, sym, ◌∙◌, arith}
use Rattle.cell_laws.specs.Elements.{Element, places, width, AllFine}
use Rattle.cell_laws.specs.Cells.{Ops}
use Rattle.cell_laws.specs.Laws.{FineLaws, OrderLaws, JoinLaws, PartLaws}
use Rattle.cell_laws.specs.Join.{joined_cell}
use Rattle.cell_laws.specs.Access.{take_bits, drop_bits, copied}
use Rattle.cell_laws.proofs.Cuts.{width-append}
use Rattle.cell_laws.proofs.Joins.{IsAbove, AllFine-append, joined_above, joined_cell_laws}
use Rattle.cell_laws.proofs.Parts.{width-copied, width-take, width-drop, fine_copied, fine_take, fine_drop}
use Rattle.run_slots.specs.Slots.{weak_slot, weak_slots, slots_weakened}

module _ {C H : Type 0} (o : Ops C H) (Fine : ℕ → C → Type 0) (n : FineLaws o Fine) (l : OrderLaws o Fine) (j : JoinLaws o Fine) (q : PartLaws o Fine)
    (m es : List (Element C)) (k gap : ℕ) (f : AllFine Fine m) (g : AllFine Fine es) (w : width es ≡ k) where
  above : (at : ℕ) → at + k ≤ width m → IsAbove o Fine (places (copied o m at k)) (places es) (width es) (weak_slot o es m at k)
  unfolding weak_slot
  above at h =
      joined_above o Fine (joined_cell o) n l j (joined_cell_laws o Fine n l j) (copied o m at k) es (record { first = fine_copied o Fine q m at k f; second = g }) (width-copied o m at k h ∙ sym w)

  slots_width : (i at : ℕ) → at + i * (k + gap) ≤ width m → width (weak_slots o k gap es m at i) ≡ i * (k + gap)
  unfolding weak_slots width
  slots_width zero at h = omega arith
  slots_width (suc i) at h =
      let s : suc i * (k + gap) ≡ k + gap + i * (k + gap) = omega arith in
      let one = weak_slot o es m at k in
      let two = copied o m (at + k) gap in
      let three = weak_slots o k gap es m (at + (k + gap)) i in
      let a = width-append one (two ++ three) in
      let b = width-append two three in
      let c = (above at (omega arith)).wide in
      let d = width-copied o m (at + k) gap (omega arith) in
      let r = slots_width i (at + (k + gap)) (omega arith) in
      omega arith

  slots_fine : (i at : ℕ) → at + i * (k + gap) ≤ width m → AllFine Fine (weak_slots o k gap es m at i)
  unfolding weak_slots
  slots_fine zero at h = tt
  slots_fine (suc i) at h =
      let s : suc i * (k + gap) ≡ k + gap + i * (k + gap) = omega arith in
      AllFine-append Fine (weak_slot o es m at k) (copied o m (at + k) gap ++ weak_slots o k gap es m (at + (k + gap)) i) (above at (omega arith)).fine
      (AllFine-append Fine (copied o m (at + k) gap) (weak_slots o k gap es m (at + (k + gap)) i) (fine_copied o Fine q m (at + k) gap f) (slots_fine i (at + (k + gap)) (omega arith)))

  pub weakened_width : (at i : ℕ) → at + i * (k + gap) + k ≤ width m → width (slots_weakened o m at k gap i es) ≡ width m
  unfolding slots_weakened
  weakened_width at i h =
      let last = at + i * (k + gap) in
      let front = take_bits o m at in
      let mid = weak_slots o k gap es m at i in
      let one = weak_slot o es m last k in
      let rest = drop_bits o m (last + k) in
      let a = width-append front (mid ++ (one ++ rest)) in
      let b = width-append mid (one ++ rest) in
      let c = width-append one rest in
      let d = width-take o m at (omega arith) in
      let e = slots_width i at (omega arith) in
      let x = (above last (omega arith)).wide in
      let y = width-drop o m (last + k) (omega arith) in
      omega arith

  pub weakened_fine : (at i : ℕ) → at + i * (k + gap) + k ≤ width m → AllFine Fine (slots_weakened o m at k gap i es)
  unfolding slots_weakened
  weakened_fine at i h =
      let last = at + i * (k + gap) in
      let mid = weak_slots o k gap es m at i in
      let one = weak_slot o es m last k in
      let rest = drop_bits o m (last + k) in
      AllFine-append Fine (take_bits o m at) (mid ++ (one ++ rest)) (fine_take o Fine q m at f)
      (AllFine-append Fine mid (one ++ rest) (slots_fine i at (omega arith))
      (AllFine-append Fine one rest (above last (omega arith)).fine (fine_drop o Fine q m (last + k) f)))
