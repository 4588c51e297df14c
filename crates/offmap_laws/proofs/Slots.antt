-- What a weak store to slots describes.
use Rattle.std.proofs.Common.{◌≡◌, ℕ, zero, suc, ◌+◌, ◌*◌, ◌<◌, ◌≤◌, Bool, List, [], ◌∷◌, ◌++◌, length, take, drop, sym, ap, ◌∙◌, subst, arith, inl, inr, length-take, length-drop, append_assoc}
use Rattle.std.proofs.lemmas.List.{take-append-drop, drop-drop}
use Rattle.cell_laws.specs.Elements.{Element, places, width, AllFine}
use Rattle.cell_laws.specs.Cells.{Ops}
use Rattle.cell_laws.specs.Laws.{FineLaws, OrderLaws, JoinLaws, MeaningLaws, PartLaws, AccessLaws}
use Rattle.cell_laws.specs.Join.{joined, joined_cell}
use Rattle.cell_laws.specs.Meaning.{Describes}
use Rattle.cell_laws.specs.Access.{take_bits, drop_bits, copied, put, glued, loaded, loaded_all, IsSize}
use Rattle.cell_laws.proofs.Joins.{AreFine, IsAbove, joined_above, joined_left, joined_right, joined_cell_laws}
use Rattle.cell_laws.proofs.Parts.{width-copied, width-take, fine_copied, copied_describes, take_describes, drop_describes, describes-append}
use Rattle.cell_laws.proofs.Accesses.{width-put, fine_put, put_describes, loaded_gives}
use Rattle.cell_laws.proofs.Soundness.{included_describes}
use Rattle.run_slots.specs.Slots.{weak_slot, weak_slots, slots_weakened}
use Rattle.run_slots.specs.Offsets.{HasPart, Represent}
use Rattle.offmap_laws.specs.Slots.{MayBeStored, AllMayBeStored}

module _ {C H K : Type 0} (o : Ops C H) (Fine : ℕ → C → Type 0) (Tint : H → K → Type 0) (Bare : K → Type 0) (Sure : Bool → K → Type 0) (Allows Gives : ℕ → C → List K → Type 0)
    (nl : FineLaws o Fine) (ol : OrderLaws o Fine) (jl : JoinLaws o Fine) (ml : MeaningLaws o Fine Tint Bare Sure Allows) (pl : PartLaws o Fine) (al : AccessLaws o Fine Allows Gives)
    (m : List (Element C)) (k gap : ℕ) (c : C) (ks js : List K) (s : IsSize k) (f : AllFine Fine m) (d : Describes Allows m ks) (wk : length ks ≡ width m) (wj : length js ≡ width m) where
  both_fine : (at : ℕ) → AreFine Fine (copied o m at k) (put o k c)
  both_fine at = record { first = fine_copied o Fine pl m at k f; second = fine_put o Fine pl k c s }

  even : (at : ℕ) → at + k ≤ width m → width (copied o m at k) ≡ width (put o k c)
  even at h = width-copied o m at k h ∙ sym (width-put o k c)

  above : (at : ℕ) → at + k ≤ width m → IsAbove o Fine (places (copied o m at k)) (places (put o k c)) (width (put o k c)) (joined o (joined_cell o) (copied o m at k) (put o k c))
  above at h = joined_above o Fine (joined_cell o) nl ol jl (joined_cell_laws o Fine nl ol jl) (copied o m at k) (put o k c) (both_fine at) (even at h)

  slot_width : (at : ℕ) → at + k ≤ width m → width (weak_slot o (put o k c) m at k) ≡ k
  unfolding weak_slot
  slot_width at h = (above at h).wide ∙ width-put o k c

  slot_old : (at : ℕ) → at + k ≤ width m → Describes Allows (weak_slot o (put o k c) m at k) (take k (drop at ks))
  unfolding weak_slot
  slot_old at h =
      included_describes o Fine Tint Bare Sure Allows ml (copied o m at k) (joined o (joined_cell o) (copied o m at k) (put o k c)) (take k (drop at ks)) (both_fine at).first (above at h).fine
      (even at h ∙ sym (above at h).wide)
      (joined_left o Fine (joined_cell o) nl ol jl (joined_cell_laws o Fine nl ol jl) (copied o m at k) (put o k c) (both_fine at) (even at h))
      (copied_describes o Fine Allows Gives pl al m at k ks f d)

  slot_new : (at : ℕ) (cs : List K) → at + k ≤ width m → Allows k c cs → Describes Allows (weak_slot o (put o k c) m at k) cs
  unfolding weak_slot
  slot_new at cs h a =
      included_describes o Fine Tint Bare Sure Allows ml (put o k c) (joined o (joined_cell o) (copied o m at k) (put o k c)) cs (both_fine at).second (above at h).fine
      (sym (above at h).wide)
      (joined_right o Fine (joined_cell o) nl ol jl (joined_cell_laws o Fine nl ol jl) (copied o m at k) (put o k c) (both_fine at) (even at h))
      (put_describes o Fine Allows Gives pl al k c cs s (ml.allows_length k c cs a) a)

  slot_describes : (at : ℕ) → at + k ≤ width m → MayBeStored Allows k gap c ks js at → Describes Allows (weak_slot o (put o k c) m at k) (take k (drop at js))
  slot_describes at h (inl e) = subst (λ (x : List K). Describes Allows (weak_slot o (put o k c) m at k) x) (sym e) (slot_old at h)
  slot_describes at h (inr a) = slot_new at (take k (drop at js)) h a

  abbrev Rest : ℕ → ℕ → List (Element C)
  Rest at n = weak_slots o k gap (put o k c) m at n ++ (weak_slot o (put o k c) m (at + n * (k + gap)) k ++ drop_bits o m (at + n * (k + gap) + k))

  slot_and : (at : ℕ) (es : List (Element C)) → at + k ≤ width m → MayBeStored Allows k gap c ks js at → Describes Allows es (drop (at + k) js) →
      Describes Allows (weak_slot o (put o k c) m at k ++ es) (drop at js)
  slot_and at es h a r =
      let w : length (take k (drop at js)) ≡ width (weak_slot o (put o k c) m at k) = simp (length-take, length-drop) (let v = slot_width at h in omega arith) in
      let e : take k (drop at js) ++ drop (at + k) js ≡ drop at js = ap (λ (x : List K). take k (drop at js) ++ x) (sym (drop-drop k at js)) ∙ take-append-drop k (drop at js) in
      subst (Describes Allows (weak_slot o (put o k c) m at k ++ es)) e
      (describes-append Allows (weak_slot o (put o k c) m at k) es (take k (drop at js)) (drop (at + k) js) w (slot_describes at h a) r)

  gap_and : (at : ℕ) (es : List (Element C)) → at + gap ≤ width m → take gap (drop at js) ≡ take gap (drop at ks) → Describes Allows es (drop (at + gap) js) → Describes Allows (copied o m at gap ++ es) (drop at js)
  gap_and at es h a r =
      let w : length (take gap (drop at js)) ≡ width (copied o m at gap) = simp (length-take, length-drop) (let v = width-copied o m at gap h in omega arith) in
      let e : take gap (drop at js) ++ drop (at + gap) js ≡ drop at js = ap (λ (x : List K). take gap (drop at js) ++ x) (sym (drop-drop gap at js)) ∙ take-append-drop gap (drop at js) in
      let old = subst (Describes Allows (copied o m at gap)) (sym a) (copied_describes o Fine Allows Gives pl al m at gap ks f d) in
      subst (Describes Allows (copied o m at gap ++ es)) e (describes-append Allows (copied o m at gap) es (take gap (drop at js)) (drop (at + gap) js) w old r)

  rest_describes : (n at : ℕ) → at + n * (k + gap) + k ≤ width m → AllMayBeStored Allows k gap c ks js n at → Describes Allows (Rest at n) (drop at js)
  unfolding weak_slots
  rest_describes zero at h a =
      let z : at ≡ at + zero * (k + gap) = omega arith in
      let r : Describes Allows (drop_bits o m (at + k)) (drop (at + k) js) = subst (Describes Allows (drop_bits o m (at + k))) (sym a.1) (drop_describes o Fine Allows Gives pl al m (at + k) ks f d) in
      subst (λ (x : ℕ). Describes Allows (weak_slot o (put o k c) m x k ++ drop_bits o m (x + k)) (drop at js)) z (slot_and at (drop_bits o m (at + k)) (omega arith) a.0 r)
  rest_describes (suc n) at h a =
      let i : at + (k + gap) + n * (k + gap) ≡ at + suc n * (k + gap) = omega arith in
      let l : at + (k + gap) ≡ at + k + gap = omega arith in
      let last = weak_slot o (put o k c) m (at + suc n * (k + gap)) k ++ drop_bits o m (at + suc n * (k + gap) + k) in
      let more = weak_slots o k gap (put o k c) m (at + (k + gap)) n in
      let r0 = rest_describes n (at + (k + gap)) (omega arith) a.2 in
      let r1 : Describes Allows (more ++ last) (drop (at + (k + gap)) js) =
      subst (λ (x : ℕ). Describes Allows (more ++ (weak_slot o (put o k c) m x k ++ drop_bits o m (x + k))) (drop (at + (k + gap)) js)) i r0 in
      let r2 = subst (λ (x : ℕ). Describes Allows (more ++ last) (drop x js)) l r1 in
      let g = gap_and (at + k) (more ++ last) (omega arith) a.1 r2 in
      let t = slot_and at (copied o m (at + k) gap ++ (more ++ last)) (omega arith) a.0 g in
      let e : weak_slot o (put o k c) m at k ++ (copied o m (at + k) gap ++ (more ++ last)) ≡ (weak_slot o (put o k c) m at k ++ (copied o m (at + k) gap ++ more)) ++ last =
      sym (append_assoc (weak_slot o (put o k c) m at k) (copied o m (at + k) gap ++ more) last ∙ ap (λ (x : List (Element C)). weak_slot o (put o k c) m at k ++ x) (append_assoc (copied o m (at + k) gap) more last)) in
      subst (λ (x : List (Element C)). Describes Allows x (drop at js)) e t

  pub slots_describe : (n at : ℕ) → at + n * (k + gap) + k ≤ width m → take at js ≡ take at ks → AllMayBeStored Allows k gap c ks js n at → Describes Allows (slots_weakened o m at k gap n (put o k c)) js
  unfolding slots_weakened
  slots_describe n at h e a =
      let w : length (take at js) ≡ width (take_bits o m at) = simp length-take (let v = width-take o m at (omega arith) in omega arith) in
      let front : Describes Allows (take_bits o m at) (take at js) = subst (Describes Allows (take_bits o m at)) (sym e) (take_describes o Fine Allows Gives pl al m at ks f d) in
      subst (Describes Allows (take_bits o m at ++ Rest at n)) (take-append-drop at js)
      (describes-append Allows (take_bits o m at) (Rest at n) (take at js) (drop at js) w front (rest_describes n at h a))

-- a cell of all parts gives what stands at each
module _ {C H K : Type 0} (o : Ops C H) (Fine : ℕ → C → Type 0) (Allows Gives : ℕ → C → List K → Type 0) (nl : FineLaws o Fine) (pl : PartLaws o Fine) (al : AccessLaws o Fine Allows Gives) where
  part_gives : (m : List (Element C)) (k : ℕ) (offsets : List ℕ) (part : List (Element C)) (v : List K) → HasPart o m k offsets part → Gives k (glued o part) v → Gives k (loaded_all o m offsets k) v
  unfolding loaded loaded_all
  part_gives m k [] part v h g = absurd h
  part_gives m k (b ∷ bs) part v (inl e) g = al.join_gives_left k (glued o (copied o m b k)) (loaded_all o m bs k) v (subst (λ (x : List (Element C)). Gives k (glued o x) v) e g)
  part_gives m k (b ∷ bs) part v (inr h) g = al.join_gives_right k (glued o (copied o m b k)) (loaded_all o m bs k) v (part_gives m k bs part v h g)

  pub steps_give : (m : List (Element C)) (k at step count i : ℕ) (offsets : List ℕ) (ks : List K) → IsSize k → AllFine Fine m → at + i * step + k ≤ width m → length ks ≡ width m → Describes Allows m ks →
      Represent o m k at step count offsets → i < count → Gives k (loaded_all o m offsets k) (take k (drop (at + i * step) ks))
  unfolding loaded
  steps_give m k at step count i offsets ks s f h w d r l =
      part_gives m k offsets (copied o m (at + i * step) k) (take k (drop (at + i * step) ks)) (r.each i l) (loaded_gives o Fine Allows Gives pl al m (at + i * step) k ks nl s f h w d)
