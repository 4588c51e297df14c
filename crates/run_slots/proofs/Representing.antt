-- Offsets at which all parts are found.
use Rattle.std.proofs.Common.{◌≡◌, ℕ, zero, suc, ◌+◌, ◌-◌, ◌*◌, ◌<◌, ◌≤◌, ◌^◌, List, [], ◌∷◌, ◌++◌, refl, sym, ap, ◌∙◌, subst, arith, inl, inr, append-nil, append_assoc}
use Rattle.std.specs.Prelude.{◌/◌, ◌%◌}
use Rattle.std.proofs.Math.Nat.{mul-le-mul_right, mul_assoc}
use Rattle.std.proofs.lemmas.Nat.{div_below}
use Rattle.std.proofs.lemmas.Bool.{cases_lt}
use Rattle.cell_laws.specs.Elements.{Element, width}
use Rattle.cell_laws.specs.Cells.{Ops}
use Rattle.cell_laws.specs.Access.{copied, AllWithin}
use Rattle.cell_runs.specs.declared.runs.Run.{Run}
use Rattle.cell_runs.specs.Runs.{elements}
use Rattle.cell_runs.proofs.Portions.{divides}
use Rattle.run_places.specs.declared.spots.Spot.{Spot}
use Rattle.run_slots.specs.Walks.{IsAt}
use Rattle.run_slots.specs.Weakens.{ComeAgain}
use Rattle.run_slots.specs.Offsets.{steps_from, HasPart, AreSteps, Represent}

pub steps_none : (at step : ℕ) → steps_from at step 0 ≡ []
unfolding steps_from
steps_none at step = refl

steps_more : (n at step : ℕ) → steps_from at step n ++ (at + n * step) ∷ [] ≡ steps_from at step (suc n)
unfolding steps_from
steps_more zero at step = let z : at + zero * step ≡ at = omega arith in ap (λ (x : ℕ). x ∷ []) z
steps_more (suc n) at step =
    let i : at + suc n * step ≡ at + step + n * step = omega arith in
    ap (λ (x : ℕ). at ∷ (steps_from (at + step) step n ++ x ∷ [])) i ∙ ap (λ (l : List ℕ). at ∷ l) (steps_more n (at + step) step)

-- the first of the numbers were added
pub push_step : (first step i : ℕ) (old mid new : List ℕ) → mid ≡ old ++ steps_from first step i → new ≡ mid ++ (first + i * step) ∷ [] → new ≡ old ++ steps_from first step (i + 1)
push_step first step i old mid new e f =
    let s : suc i ≡ i + 1 = omega arith in
    f ∙ ap (λ (l : List ℕ). l ++ (first + i * step) ∷ []) e ∙ append_assoc old (steps_from first step i) ((first + i * step) ∷ [])
    ∙ ap (λ (l : List ℕ). old ++ l) (steps_more i first step ∙ ap (steps_from first step) s)

pub push_none : (first step : ℕ) (old : List ℕ) → old ≡ old ++ steps_from first step 0
push_none first step old = sym (ap (λ (l : List ℕ). old ++ l) (steps_none first step) ∙ append-nil old)

pub push_fits : (first step i count : ℕ) → i < count → first + (count - 1) * step < 2 ^ 64 → first + i * step < 2 ^ 64
push_fits first step i count h s = let m : i * step ≤ (count - 1) * step = mul-le-mul_right step (omega arith) in omega arith

module _ {C H : Type 0} (o : Ops C H) (m : List (Element C)) (k : ℕ) where
  has_left : (xs ys : List ℕ) (p : List (Element C)) → HasPart o m k xs p → HasPart o m k (xs ++ ys) p
  has_left [] ys p h = absurd h
  has_left (x ∷ xs) ys p (inl e) = inl e
  has_left (x ∷ xs) ys p (inr h) = inr (has_left xs ys p h)

  has_right : (xs ys : List ℕ) (p : List (Element C)) → HasPart o m k ys p → HasPart o m k (xs ++ ys) p
  has_right [] ys p h = h
  has_right (x ∷ xs) ys p h = inr (has_right xs ys p h)

  has_step : (n at step r : ℕ) (p : List (Element C)) → r < n → p ≡ copied o m (at + r * step) k → HasPart o m k (steps_from at step n) p
  unfolding steps_from
  has_step zero at step r p h e = absurd (omega arith)
  has_step (suc n) at step zero p h e = let z : at + zero * step ≡ at = omega arith in inl (e ∙ ap (λ (x : ℕ). copied o m x k) z)
  has_step (suc n) at step (suc r) p h e =
      let i : at + suc r * step ≡ at + step + r * step = omega arith in
      inr (has_step n (at + step) step r p (omega arith) (e ∙ ap (λ (x : ℕ). copied o m x k) i))

  steps-append : (at step count : ℕ) (xs ys : List ℕ) → AreSteps o m k at step count xs → AreSteps o m k at step count ys → AreSteps o m k at step count (xs ++ ys)
  steps-append at step count [] ys a b = b
  steps-append at step count (x ∷ xs) ys a b = (a.0, steps-append at step count xs ys a.1 b)

  steps_are : (n first step count q at : ℕ) → at ≡ first + q * step → q + n ≤ count → AreSteps o m k first step count (steps_from at step n)
  unfolding steps_from
  steps_are zero first step count q at e h = tt
  steps_are (suc n) first step count q at e h =
      let i : at + step ≡ first + suc q * step = omega arith in
      ((q, omega arith, e), steps_are n first step count (suc q) (at + step) i (omega arith))

within-append : (k w : ℕ) (xs ys : List ℕ) → AllWithin k w xs → AllWithin k w ys → AllWithin k w (xs ++ ys)
within-append k w [] ys a b = b
within-append k w (x ∷ xs) ys a b = (a.0, within-append k w xs ys a.1 b)

pub within_steps : (n k w at step : ℕ) → at + (n - 1) * step + k ≤ w → AllWithin k w (steps_from at step n)
unfolding steps_from
within_steps zero k w at step h = tt
within_steps (suc zero) k w at step h = (omega arith, tt)
within_steps (suc (suc n)) k w at step h =
    let i : (suc (suc n) - 1) * step ≡ step + (suc n - 1) * step = two n step in
    (omega arith, within_steps (suc n) k w (at + step) step (omega arith))
  where
    two : (n step : ℕ) → (suc (suc n) - 1) * step ≡ step + (suc n - 1) * step
    two n step =
        let a : suc (suc n) - 1 ≡ suc n = omega arith in
        let b : suc n - 1 ≡ n = omega arith in
        let c : suc n * step ≡ step + n * step = omega arith in
        ap (λ (x : ℕ). x * step) a ∙ c ∙ ap (λ (x : ℕ). step + x * step) (sym b)

pub size_most : (size repeats left : ℕ) → 0 < repeats → size * repeats ≤ left → size ≤ left
size_most size zero left p h = absurd (omega arith)
size_most size (suc n) left p h = let s : size * suc n ≡ size + size * n = omega arith in omega arith

pub last_inside : (first step more k w : ℕ) → first + more * step + k ≤ w → first + (suc more - 1) * step + k ≤ w
last_inside first step more k w h =
    let i : suc more - 1 ≡ more = omega arith in
    subst (λ (n : ℕ). first + n * step + k ≤ w) (sym i) h

-- all but `left` of the parts are found
pub record FindsOn {C H : Type 0} (o : Ops C H) (rs : List (Run C)) (k first step count left at : ℕ) (s : Spot) (out : List ℕ) : Type 0 where
  pub each : (i : ℕ) → i < count - left → HasPart o (elements rs) k out (copied o (elements rs) (first + i * step) k)
  pub steps : AreSteps o (elements rs) k first step count out
  pub within : AllWithin k (width (elements rs)) out
  pub reached : at ≡ first + (count - left) * step
  pub spot : IsAt rs at s
  pub some : 0 < left
  pub most : left ≤ count

module _ {C H : Type 0} (o : Ops C H) where
  pub find_begin : (rs : List (Run C)) (k first step more : ℕ) (s : Spot) (none : List ℕ) → none ≡ [] → IsAt rs first s → FindsOn o rs k first step (suc more) (more + 1) first s none
  find_begin rs k first step more s none z a =
      let e : suc more - (more + 1) ≡ 0 = omega arith in
      let r : (suc more - (more + 1)) * step ≡ 0 * step = ap (λ (x : ℕ). x * step) e in
      let q : 0 * step ≡ 0 = omega arith in
      subst (λ (l : List ℕ). FindsOn o rs k first step (suc more) (more + 1) first s l) (sym z)
      (record { each = λ i h. absurd (omega arith); steps = tt; within = tt; reached = omega arith; spot = a; some = omega arith; most = omega arith })

  -- a part that was found among the first of a stretch
  found : (m : List (Element C)) (k at step reach left size repeats i : ℕ) → k ≤ reach → ComeAgain o m at step reach left size repeats → i < size * repeats →
      HasPart o m k (steps_from at step size) (copied o m (at + i * step) k)
  found m k at step reach left size repeats i h c l =
      let d = divides i size c.some in
      let s = d.sum in
      let r = d.less in
      let turn : size * repeats ≡ repeats * size = omega arith in
      let j = div_below i size repeats c.some (omega arith) in
      let parts : i * step ≡ i / size * (size * step) + i % size * step = both i (i / size) (i % size) size step s in
      let last : i % size * step ≤ (size - 1) * step = mul-le-mul_right step (omega arith) in
      let e : copied o m (at + i * step) k ≡ copied o m (at + i % size * step) k =
      ap (λ (x : ℕ). copied o m (at + x) k) parts ∙ c.same (i / size) (i % size * step) k j (omega arith) in
      has_step o m k size at step (i % size) (copied o m (at + i * step) k) r e
    where
      both : (i q r size step : ℕ) → i ≡ q * size + r → i * step ≡ q * (size * step) + r * step
      both i q r size step e =
          let a : (q * size + r) * step ≡ q * size * step + r * step = omega arith in
          ap (λ (x : ℕ). x * step) e ∙ a ∙ ap (λ (x : ℕ). x + r * step) (mul_assoc q size step)

  each_more : (rs : List (Run C)) (k first step count left at reach size repeats : ℕ) (s : Spot) (old : List ℕ) → k ≤ reach → FindsOn o rs k first step count left at s old →
      ComeAgain o (elements rs) at step reach left size repeats → (i : ℕ) → i < count - left + size * repeats →
      HasPart o (elements rs) k (old ++ steps_from at step size) (copied o (elements rs) (first + i * step) k)
  each_more rs k first step count left at reach size repeats s old h p c i l =
      elim (cases_lt i (count - left)) [
        | inl a ↦ has_left o (elements rs) k old (steps_from at step size) (copied o (elements rs) (first + i * step) k) (p.each i a)
        | inr a ↦
            let n = i - (count - left) in
            let f = found (elements rs) k at step reach left size repeats n h c (omega arith) in
            let q = p.reached in
            let t : (count - left + n) * step ≡ (count - left) * step + n * step = omega arith in
            let u : count - left + n ≡ i = omega arith in
            let v : (count - left + n) * step ≡ i * step = ap (λ (x : ℕ). x * step) u in
            let e : at + n * step ≡ first + i * step = omega arith in
            has_right o (elements rs) k old (steps_from at step size) (copied o (elements rs) (first + i * step) k)
            (subst (λ (x : ℕ). HasPart o (elements rs) k (steps_from at step size) (copied o (elements rs) x k)) e f)
      ]

  -- the last part of so many that are left is inside
  pub left_inside : (rs : List (Run C)) (k first step count left at n : ℕ) (s : Spot) (out : List ℕ) → first + (count - 1) * step + k ≤ width (elements rs) → FindsOn o rs k first step count left at s out → n ≤ left →
      at + (n - 1) * step + k ≤ width (elements rs)
  left_inside rs k first step count left at n s out h p l =
      let q = p.reached in
      let a = p.some in
      let b = p.most in
      let t : (count - left + (n - 1)) * step ≡ (count - left) * step + (n - 1) * step = omega arith in
      let m : (count - left + (n - 1)) * step ≤ (count - 1) * step = mul-le-mul_right step (omega arith) in
      omega arith

  -- and so many steps behind a part that isn't the last
  pub far_inside : (rs : List (Run C)) (k first step count left at n : ℕ) (s : Spot) (out : List ℕ) → first + (count - 1) * step + k ≤ width (elements rs) → FindsOn o rs k first step count left at s out → n ≤ left →
      (n ≡ left → ⊥) → at + n * step ≤ width (elements rs)
  far_inside rs k first step count left at n s out h p l z =
      let a = left_inside rs k first step count left at left s out h p (omega arith) in
      let m : n * step ≤ (left - 1) * step = mul-le-mul_right step (omega arith) in
      omega arith

  more_steps : (rs : List (Run C)) (k first step count left at size : ℕ) (s : Spot) (old : List ℕ) → size ≤ left → FindsOn o rs k first step count left at s old → AreSteps o (elements rs) k first step count (old ++ steps_from at step size)
  more_steps rs k first step count left at size s old h p =
      let b = p.most in
      steps-append o (elements rs) k first step count old (steps_from at step size) p.steps (steps_are o (elements rs) k size first step count (count - left) at p.reached (omega arith))

  more_within : (rs : List (Run C)) (k first step count left at size : ℕ) (s : Spot) (old : List ℕ) → size ≤ left → first + (count - 1) * step + k ≤ width (elements rs) → FindsOn o rs k first step count left at s old →
      AllWithin k (width (elements rs)) (old ++ steps_from at step size)
  more_within rs k first step count left at size s old h w p =
      within-append k (width (elements rs)) old (steps_from at step size) p.within (within_steps size k (width (elements rs)) at step (left_inside rs k first step count left at size s old w p h))

  pub find_all : (rs : List (Run C)) (k first step count left at reach size repeats : ℕ) (s : Spot) (old new : List ℕ) → k ≤ reach → first + (count - 1) * step + k ≤ width (elements rs) →
      ComeAgain o (elements rs) at step reach left size repeats → new ≡ old ++ steps_from at step size → size * repeats ≡ left → FindsOn o rs k first step count left at s old →
      Represent o (elements rs) k first step count new
  find_all rs k first step count left at reach size repeats s old new h w c e all p =
      let b = p.most in
      let z = size_most size repeats left c.again c.most in
      subst (Represent o (elements rs) k first step count) (sym e)
      (record {
        each = λ i l. each_more rs k first step count left at reach size repeats s old h p c i (omega arith);
        steps = more_steps rs k first step count left at size s old z p;
        within = more_within rs k first step count left at size s old z w p;
      })

  pub find_step : (rs : List (Run C)) (k first step count left at reach size repeats : ℕ) (s next : Spot) (old new : List ℕ) → k ≤ reach → first + (count - 1) * step + k ≤ width (elements rs) →
      ComeAgain o (elements rs) at step reach left size repeats → new ≡ old ++ steps_from at step size → (size * repeats ≡ left → ⊥) → IsAt rs (at + size * repeats * step) next →
      FindsOn o rs k first step count left at s old → FindsOn o rs k first step count (left - size * repeats) (at + size * repeats * step) next new
  find_step rs k first step count left at reach size repeats s next old new h w c e other a p =
      let b = p.most in
      let q = p.reached in
      let most = c.most in
      let z = size_most size repeats left c.again c.most in
      let n = size * repeats in
      let i : count - left + n ≡ count - (left - n) = omega arith in
      let j : (count - left + n) * step ≡ (count - left) * step + n * step = omega arith in
      let k2 : (count - left + n) * step ≡ (count - (left - n)) * step = ap (λ (x : ℕ). x * step) i in
      subst (λ (l : List ℕ). FindsOn o rs k first step count (left - n) (at + n * step) next l) (sym e)
      (record {
        each = λ x l. each_more rs k first step count left at reach size repeats s old h p c x (omega arith);
        steps = more_steps rs k first step count left at size s old z p;
        within = more_within rs k first step count left at size s old z w p;
        reached = omega arith;
        spot = a;
        some = omega arith;
        most = omega arith;
      })
