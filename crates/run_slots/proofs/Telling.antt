-- At the offsets that are left where parts are told once, all parts are found.
use Rattle.std.proofs.Common.{◌≡◌, ℕ, zero, suc, ◌+◌, ◌-◌, ◌*◌, ◌<◌, ◌≤◌, List, [], ◌∷◌, ◌++◌, Bool, true, false, cond, length, take, drop, refl, sym, ap, ◌∙◌, subst, arith, inl, inr, get_or, append_assoc, append-nil}
use Rattle.std.specs.Prelude.{◌==◌, max}
use Rattle.std.proofs.lemmas.Bool.{cases_Bool, cases_lt}
use Rattle.std.proofs.lemmas.Bool.Decides.{nat_tests}
use Rattle.std.proofs.Math.Nat.{le-max_left, le-max_right}
use Rattle.cell_laws.specs.Elements.{Element, width}
use Rattle.cell_laws.specs.Cells.{Ops}
use Rattle.cell_runs.specs.declared.runs.Run.{Run}
use Rattle.cell_runs.specs.Runs.{elements, AllSome}
use Rattle.cell_runs.proofs.Taking.{width-none, width-first}
use Rattle.run_places.specs.declared.spots.Spot.{Spot}
use Rattle.run_slots.specs.declared.stretch.Stretch.{Stretch}
use Rattle.run_slots.specs.Walks.{IsAt, bits_before}
use Rattle.run_slots.specs.Weakens.{ComeAgain}
use Rattle.run_slots.specs.Offsets.{steps_from, Represent}
use Rattle.run_slots.specs.Repeats.{stretch_in, stretch_from, offsets_from, told_once}
use Rattle.run_slots.proofs.Walking.{has_run}
use Rattle.run_slots.proofs.Representing.{FindsOn, find_begin, left_inside, far_inside, find_all, find_step}
use Rattle.run_slots.proofs.Stretching.{stretch_is, stretch_comes, some_product}

module _ {C : Type 0} where
  pub run_at : (rs : List (Run C)) (i : ℕ) → i < length rs → (r : Run C) × (r ≡ get_or rs i r)
  run_at [] i h = absurd (omega arith)
  run_at (r ∷ rs) zero h = (r, refl)
  run_at (r ∷ rs) (suc i) h = run_at rs i (omega arith)

  pub spot_at : (rs : List (Run C)) (n : ℕ) → n ≤ width (elements rs) → (s : Spot) × IsAt rs n s
  unfolding bits_before
  spot_at [] n h =
      let w = width-none C in
      (record { index = 0; skip = 0 }, record { before = omega arith; index = omega arith; spot = refl })
  spot_at (r ∷ rs) n h =
      let w = width-none C in
      let v = width-first r rs in
      elim (cases_lt n (r.bits * r.count)) [
        | inl l ↦ (record { index = 0; skip = n }, record { before = omega arith; index = omega arith; spot = l })
        | inr l ↦
            let a = spot_at rs (n - r.bits * r.count) (omega arith) in
            let f = width-first r (take a.0.index rs) in
            let b = a.1.before in
            let i = a.1.index in
            (record { index = suc a.0.index; skip = a.0.skip }, record { before = omega arith; index = omega arith; spot = a.1.spot })
      ]

  none_left : (rs : List (Run C)) (step reach f at left : ℕ) → left ≡ 0 → offsets_from rs step reach f at left ≡ []
  unfolding offsets_from
  none_left rs step reach zero at left e = refl
  none_left rs step reach (suc f) at left e = let z : (left == 0) ≡ true = grind (arith, nat_tests) in rw z refl

module _ {C H : Type 0} (o : Ops C H) where
  comes_next : (rs : List (Run C)) (at step reach left : ℕ) (s : Spot) → AllSome rs → IsAt rs at s → at < width (elements rs) → step ≤ reach → 0 < left →
      ComeAgain o (elements rs) at step reach left (stretch_from rs at step reach left).size (stretch_from rs at step reach left).repeats
  comes_next rs at step reach left s some a h far l =
      let i = has_run rs at s a h in
      let r = run_at rs s.index i in
      subst (λ (x : Stretch). ComeAgain o (elements rs) at step reach left x.size x.repeats) (stretch_is rs at step reach left s r.0 a i r.1)
      (stretch_comes o rs at step reach left _ s r.0 some a i r.1 refl far l)

  tells : (f : ℕ) (rs : List (Run C)) (k first step count left at reach : ℕ) (s : Spot) (out : List ℕ) → AllSome rs → 0 < k → k ≤ reach → step ≤ reach → first + (count - 1) * step + k ≤ width (elements rs) → left ≤ f →
      FindsOn o rs k first step count left at s out → Represent o (elements rs) k first step count (out ++ offsets_from rs step reach f at left)
  unfolding offsets_from
  tells zero rs k first step count left at reach s out some p h far w g a = let q = a.some in absurd (omega arith)
  tells (suc f) rs k first step count left at reach s out some p h far w g a =
      let q = a.some in
      let inside = left_inside o rs k first step count left at left s out w a (omega arith) in
      let c = comes_next rs at step reach left s some a.spot (omega arith) far q in
      let next = stretch_from rs at step reach left in
      let n = next.size * next.repeats in
      let z : (left == 0) ≡ false = grind (arith, nat_tests) in
      let new = out ++ steps_from at step next.size in
      let pos = some_product next.size next.repeats c.some c.again in
      let most = c.most in
      let more = offsets_from rs step reach f (at + n * step) (left - n) in
      let goal : Represent o (elements rs) k first step count (new ++ more) =
      elim (cases_lt n left) [
        | inl l ↦
            let far_in = far_inside o rs k first step count left at n s out w a most (λ e. let x = l in omega arith) in
            let t = spot_at rs (at + n * step) far_in in
            tells f rs k first step count (left - n) (at + n * step) reach t.0 new some p h far w (omega arith)
            (find_step o rs k first step count left at reach next.size next.repeats s t.0 out new h w c refl (λ e. let x = l in omega arith) t.1 a)
        | inr l ↦
            subst (Represent o (elements rs) k first step count) (sym (ap (λ (x : List ℕ). new ++ x) (none_left rs step reach f (at + n * step) (left - n) (omega arith)) ∙ append-nil new))
            (find_all o rs k first step count left at reach next.size next.repeats s out new h w c refl (omega arith) a)
      ] in
      rw z (subst (Represent o (elements rs) k first step count) (append_assoc out (steps_from at step next.size) more) goal)

  pub told_represent : (rs : List (Run C)) (k first step more : ℕ) → AllSome rs → 0 < k → first + more * step + k ≤ width (elements rs) →
      Represent o (elements rs) k first step (suc more) (told_once rs k first step (suc more))
  unfolding told_once
  told_represent rs k first step more some p w =
      let a = spot_at rs first (omega arith) in
      let i : more + 1 ≡ suc more = omega arith in
      let j : suc more - 1 ≡ more = omega arith in
      let b = subst (λ (n : ℕ). FindsOn o rs k first step (suc more) n first a.0 []) i (find_begin o rs k first step more a.0 [] refl a.1) in
      tells (suc more) rs k first step (suc more) (suc more) first (max k step) a.0 [] some p (le-max_left k step) (le-max_right k step)
      (subst (λ (n : ℕ). first + n * step + k ≤ width (elements rs)) (sym j) w) (omega arith) b
