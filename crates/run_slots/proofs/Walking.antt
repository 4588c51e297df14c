-- Bits of runs by their number.
use Rattle.std.proofs.Common.{◌≡◌, ℕ, zero, suc, ◌+◌, ◌-◌, ◌*◌, ◌<◌, ◌≤◌, List, [], ◌∷◌, ◌++◌, length, take, drop, refl, sym, ap, ◌∙◌, subst, arith, inl, inr, get_or}
use Rattle.std.specs.Prelude.{replicate}
use Rattle.std.proofs.lemmas.List.{take-append-drop, take_more}
use Rattle.std.proofs.lemmas.Bool.{cases_lt}
use Rattle.cell_laws.specs.Elements.{Element, width}
use Rattle.cell_laws.specs.Cells.{Ops}
use Rattle.cell_laws.specs.Access.{take_bits, drop_bits, copied}
use Rattle.cell_laws.proofs.Cuts.{width-append}
use Rattle.cell_laws.proofs.Parts.{drop_second}
use Rattle.cell_laws.proofs.Stretches.{width-replicate}
use Rattle.cell_runs.specs.declared.runs.Run.{Run}
use Rattle.cell_runs.specs.Runs.{element_of, elements, AllSome}
use Rattle.cell_runs.proofs.Pushing.{elements-append, elements-one}
use Rattle.cell_runs.proofs.Taking.{at_run, bits_of, none_past, some_drop, fine_drop_runs, width-drop-le, width-none}
use Rattle.run_places.specs.declared.spots.Spot.{Spot}
use Rattle.run_places.specs.Spots.{AreRuns, HasBit, IsSpot}
use Rattle.run_slots.specs.Walks.{bits_before, IsAt}

-- a walk so far
pub record WalksOn {C : Type 0} (rs : List (Run C)) (end i left : ℕ) : Type 0 where
  pub before : width (elements (take i rs)) + left ≡ end
  pub index : i ≤ length rs
  pub inside : left ≤ width (elements (drop i rs))

module _ {C : Type 0} where
  pub split_runs : (rs : List (Run C)) (i : ℕ) → elements rs ≡ elements (take i rs) ++ elements (drop i rs)
  split_runs rs i = ap elements (sym (take-append-drop i rs)) ∙ elements-append (take i rs) (drop i rs)

  pub split_width : (rs : List (Run C)) (i : ℕ) → width (elements rs) ≡ width (elements (take i rs)) + width (elements (drop i rs))
  split_width rs i = ap width (split_runs rs i) ∙ width-append (elements (take i rs)) (elements (drop i rs))

  some_take : (n : ℕ) (rs : List (Run C)) → AllSome rs → AllSome (take n rs)
  some_take zero rs s = tt
  some_take (suc n) [] s = tt
  some_take (suc n) (r ∷ rs) s = (s.0, s.1, some_take n rs s.2)

  pub before_is : (rs : List (Run C)) (s : Spot) → bits_before rs s ≡ width (elements (take s.index rs)) + s.skip
  unfolding bits_before
  before_is rs s = refl

  pub walk_begin : (rs : List (Run C)) (s : Spot) (n : ℕ) → IsAt rs (bits_before rs s) s → bits_before rs s + n ≤ width (elements rs) → WalksOn rs (bits_before rs s + n) s.index (s.skip + n)
  walk_begin rs s n a h =
      let b = before_is rs s in
      let w = split_width rs s.index in
      record { before = omega arith; index = a.index; inside = omega arith }

  more_width : (rs : List (Run C)) (i : ℕ) (r : Run C) → i < length rs → r ≡ get_or rs i r → width (elements (take (i + 1) rs)) ≡ width (elements (take i rs)) + r.bits * r.count
  more_width rs i r h e =
      let g : elements (take (i + 1) rs) ≡ elements (take i rs) ++ replicate r.count (element_of r) =
      ap elements (take_more rs i r h ∙ ap (λ (y : Run C). take i rs ++ y ∷ []) (sym e)) ∙ elements-append (take i rs) (r ∷ []) ∙ ap (λ (y : List (Element C)). elements (take i rs) ++ y) (elements-one r) in
      let w = ap width g ∙ width-append (elements (take i rs)) (replicate r.count (element_of r)) in
      let v : width (replicate r.count (element_of r)) ≡ r.count * r.bits = width-replicate r.count (element_of r) in
      let t : r.count * r.bits ≡ r.bits * r.count = omega arith in
      omega arith

  pub walk_step : (rs : List (Run C)) (end i left : ℕ) (r : Run C) → i < length rs → r ≡ get_or rs i r → r.bits * r.count ≤ left → WalksOn rs end i left → WalksOn rs end (i + 1) (left - r.bits * r.count)
  walk_step rs end i left r h e l p =
      let m = more_width rs i r h e in
      let a = split_width rs i in
      let b = split_width rs (i + 1) in
      let q = p.before in
      let n = p.inside in
      record { before = omega arith; index = omega arith; inside = omega arith }

  pub walk_found : (rs : List (Run C)) (end i left : ℕ) (r : Run C) → i < length rs → r ≡ get_or rs i r → left < r.bits * r.count → WalksOn rs end i left → IsAt rs end (record { index = i; skip = left })
  unfolding bits_before
  walk_found rs end i left r h e l p =
      record { before = p.before; index = p.index; spot = subst (λ (x : List (Run C)). HasBit x left) (sym (at_run rs i r h e)) l }

  pub walk_end : (rs : List (Run C)) (end i left : ℕ) → length rs ≤ i → WalksOn rs end i left → IsAt rs end (record { index = i; skip = left })
  unfolding bits_before
  walk_end rs end i left h p =
      let d = none_past rs i h in
      let w : width (elements (drop i rs)) ≡ 0 = ap (λ (x : List (Run C)). width (elements x)) d ∙ width-none C in
      let q = p.inside in
      let z : left ≡ 0 = omega arith in
      record { before = p.before; index = p.index; spot = subst (λ (x : List (Run C)). HasBit x left) (sym d) z }

  -- what stands before a spot is told by its number
  pub at_before : (rs : List (Run C)) (at : ℕ) (s : Spot) → IsAt rs at s → IsAt rs (bits_before rs s) s
  at_before rs at s a = record { before = refl; index = a.index; spot = a.spot }

  pub at_along : (rs : List (Run C)) (at bt : ℕ) (s : Spot) → at ≡ bt → IsAt rs at s → IsAt rs bt s
  at_along rs at bt s e a = subst (λ (n : ℕ). IsAt rs n s) e a

  pub first_at : (rs : List (Run C)) → IsSpot rs (record { index = 0; skip = 0 }) → IsAt rs 0 (record { index = 0; skip = 0 })
  unfolding bits_before
  first_at rs s = record { before = ap (λ (n : ℕ). n + 0) (width-none C); index = omega arith; spot = s }

  pub rest_fits : (rs : List (Run C)) (at n : ℕ) (s : Spot) → IsAt rs at s → at + n ≤ width (elements rs) → s.skip + n ≤ width (elements (drop s.index rs))
  rest_fits rs at n s a h =
      let b = before_is rs s in
      let w = split_width rs s.index in
      let q = a.before in
      omega arith

  pub has_run : (rs : List (Run C)) (at : ℕ) (s : Spot) → IsAt rs at s → at < width (elements rs) → s.index < length rs
  has_run rs at s a h =
      elim (cases_lt s.index (length rs)) [
        | inl l ↦ l
        | inr l ↦
            let w : width (elements (drop s.index rs)) ≡ 0 = ap (λ (x : List (Run C)). width (elements x)) (none_past rs s.index l) ∙ width-none C in
            let v = split_width rs s.index in
            let b = before_is rs s in
            let q = a.before in
            absurd (omega arith)
      ]

module _ {C H : Type 0} (o : Ops C H) where
  -- bits from a spot on are those from its number on
  pub dropped_at : (rs : List (Run C)) (at n : ℕ) (s : Spot) → AllSome rs → IsAt rs at s → drop_bits o (elements rs) (at + n) ≡ drop_bits o (elements (drop s.index rs)) (s.skip + n)
  dropped_at rs at n s some a =
      let b = before_is rs s in
      let q = a.before in
      let i : at + n - width (elements (take s.index rs)) ≡ s.skip + n = omega arith in
      ap (λ (x : List (Element C)). drop_bits o x (at + n)) (split_runs rs s.index)
      ∙ drop_second o (elements (take s.index rs)) (elements (drop s.index rs)) (at + n) (bits_of (take s.index rs) (some_take s.index rs some)) (omega arith)
      ∙ ap (drop_bits o (elements (drop s.index rs))) i

  pub copied_at : (rs : List (Run C)) (at n : ℕ) (s : Spot) → AllSome rs → IsAt rs at s → copied o (elements (drop s.index rs)) s.skip n ≡ copied o (elements rs) at n
  unfolding copied
  copied_at rs at n s some a =
      let z : at + 0 ≡ at = omega arith in
      let y : s.skip + 0 ≡ s.skip = omega arith in
      ap (λ (x : List (Element C)). take_bits o x n)
      (ap (drop_bits o (elements (drop s.index rs))) (sym y) ∙ sym (dropped_at rs at 0 s some a) ∙ ap (drop_bits o (elements rs)) z)

-- the runs from a spot on, as code passes them
module _ {C : Type 0} (Fine : ℕ → C → Type 0) where
  pub tail_runs : (rs tail : List (Run C)) (i : ℕ) → tail ≡ drop i rs → AreRuns Fine rs → AreRuns Fine tail
  tail_runs rs tail i e a =
      let w = width-drop-le i rs in
      let s = a.small in
      subst (AreRuns Fine) (sym e) (record { some = some_drop i rs a.some; fine = fine_drop_runs Fine i rs a.fine; small = omega arith })

module _ {C : Type 0} where
  pub tail_fits : (rs tail : List (Run C)) (at n : ℕ) (s : Spot) → tail ≡ drop s.index rs → IsAt rs at s → at + n ≤ width (elements rs) → s.skip + n ≤ width (elements tail)
  tail_fits rs tail at n s e a h = subst (λ (l : List (Run C)). s.skip + n ≤ width (elements l)) (sym e) (rest_fits rs at n s a h)
