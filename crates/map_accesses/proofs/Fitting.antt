-- Numbers of sets whose accesses lie within a map.
use Rattle.std.proofs.Common.{◌≡◌, ℕ, zero, suc, ◌+◌, ◌-◌, ◌*◌, ◌/◌, ◌%◌, ◌<◌, ◌≤◌, ◌^◌, List, [], ◌∷◌, map, ℤ, pos, ◌+ℤ◌, refl, sym, ap, ◌∙◌, subst, arith, inl, inr}
use Rattle.std.specs.Prelude.{unsigned_abs, Option, Some, IfSome}
use Rattle.ival_core.specs.Ivals.{IsOnly}
use Rattle.std.specs.List.{AllByRecursion}
use Rattle.std.proofs.Math.Nat.{mul-le-mul_right, mul_assoc, mul_comm, mul-add}
use Rattle.std.proofs.lemmas.Int.{ints}
use lib.Signed.{◌≤ℤ◌}
use Rattle.cell_laws.specs.Access.{AllWithin}
use Rattle.cell_runs.proofs.Portions.{divides}
use Rattle.ival_core.specs.declared.value.Progression.{Progression}
use Rattle.arrayvec.specs.ArrayVec.{ArrayVec}
use Rattle.ival_core.specs.declared.value.Shape.{Shape}
use Rattle.ival_core.specs.declared.value.Shape.TheVariants.{Few, Many}
use Rattle.ival_core.specs.declared.value.Ival.{Ival}
use Rattle.ival_core.specs.Sets.{Has, IsValid, Among, IsLongRun, apart}
use Rattle.ival_core.proofs.Distances.{apart_is}
use Rattle.ival_core.proofs.Hulls.{Spans-run}
use Rattle.map_accesses.specs.Accesses.{bit_at, Fits, AllFit, more_in, turns}

grows_by : (unit a : ℕ) → 0 < unit → a ≤ unit * a
grows_by zero a h = absurd (omega arith)
grows_by (suc u) a h = let s : suc u * a ≡ a + u * a = omega arith in omega arith

-- ---- few numbers

pub few_small : (unit k n : ℕ) (xs : List ℤ) → 0 < unit → n < 2 ^ 64 → ((z : ℤ) → Among xs z → Fits unit k n z) → AllByRecursion (λ z. (unsigned_abs z < 2 ^ 64) × (bit_at unit z < 2 ^ 64)) xs
few_small unit k n [] p s f = tt
few_small unit k n (x ∷ xs) p s f =
    let h = (f x (inl refl)).high in
    let g = grows_by unit (unsigned_abs x) p in
    ((omega arith, omega arith), few_small unit k n xs p s (λ z a. f z (inr a)))

pub few_within : (unit k n : ℕ) (xs : List ℤ) → ((z : ℤ) → Among xs z → Fits unit k n z) → AllWithin k n (map (bit_at unit) xs)
few_within unit k n [] f = tt
few_within unit k n (x ∷ xs) f = ((f x (inl refl)).high, few_within unit k n xs (λ z a. f z (inr a)))

pub record IsSmall (unit : ℕ) (z : ℤ) : Type 0 where
  pub number : unsigned_abs z < 2 ^ 64
  pub bit : bit_at unit z < 2 ^ 64

pub small : (unit k n : ℕ) (z : ℤ) → 0 < unit → n < 2 ^ 64 → Fits unit k n z → IsSmall unit z
small unit k n z p h f = let a = f.high in let g = grows_by unit (unsigned_abs z) p in record { number = omega arith; bit = omega arith }

-- ---- runs

pub record RunFits (unit k n : ℕ) (p : Progression) : Type 0 where
  pub inside : bit_at unit p.low + more_in p * (unit * p.stride) + k ≤ n
  pub some : 0 < unit * p.stride
  pub many : 8 ≤ more_in p
  pub first : unsigned_abs p.low ≤ n
  pub stride : p.stride ≤ n
  pub steps : unit * p.stride ≤ n
  pub more : more_in p ≤ n

pub run_fits : (unit k n : ℕ) (p : Progression) → 0 < unit → IsLongRun p → AllFit unit k n (Many p) → RunFits unit k n p
run_fits unit k n p u l f =
    let s = Spans-run p l in
    let first = f p.low s.first in
    let last = f p.high s.last in
    let order : p.low ≤ℤ p.high = s.first.below in
    let e = apart_is p.low p.high order in
    let d = divides (apart p.low p.high) p.stride l.moves in
    let sum = d.sum in
    let zero_rest = l.meets in
    let total : apart p.low p.high ≡ more_in p * p.stride = omega arith in
    let long = l.long in
    let at_first = first.low in
    let far : 8 * p.stride ≤ apart p.low p.high = omega (arith, ints) in
    let end : unsigned_abs p.low + more_in p * p.stride ≡ unsigned_abs p.high = let a : unsigned_abs p.low + apart p.low p.high ≡ unsigned_abs p.high = omega (arith, ints) in omega arith in
    let turn : unit * (more_in p * p.stride) ≡ more_in p * (unit * p.stride) =
    sym (mul_assoc unit (more_in p) p.stride) ∙ ap (λ (x : ℕ). x * p.stride) (mul_comm unit (more_in p)) ∙ mul_assoc (more_in p) unit p.stride in
    let high : bit_at unit p.high ≡ bit_at unit p.low + more_in p * (unit * p.stride) =
    ap (λ (x : ℕ). unit * x) (sym end) ∙ mul-add unit (unsigned_abs p.low) (more_in p * p.stride) ∙ ap (λ (x : ℕ). bit_at unit p.low + x) turn in
    let inside : bit_at unit p.low + more_in p * (unit * p.stride) + k ≤ n = let h = last.high in omega arith in
    let many : 8 ≤ more_in p = enough 8 (more_in p) p.stride l.moves (omega arith) in
    let wide = grows_by unit p.stride u in
    let moves = l.moves in
    let one : more_in p * 1 ≤ more_in p * (unit * p.stride) = times (more_in p) 1 (unit * p.stride) (omega arith) in
    let two : 1 * (unit * p.stride) ≤ more_in p * (unit * p.stride) = mul-le-mul_right (unit * p.stride) (omega arith) in
    let low = grows_by unit (unsigned_abs p.low) u in
    record { inside = inside; some = omega arith; many = many; first = omega arith; stride = omega arith; steps = omega arith; more = omega arith }
  where
    times : (a b c : ℕ) → b ≤ c → a * b ≤ a * c
    times zero b c h = let x : 0 * b ≡ 0 = omega arith in omega arith
    times (suc a) b c h = let r = times a b c h in let x : suc a * b ≡ b + a * b = omega arith in let y : suc a * c ≡ c + a * c = omega arith in omega arith

    enough : (a b s : ℕ) → 0 < s → a * s ≤ b * s → a ≤ b
    enough zero b s p h = omega arith
    enough (suc a) zero s p h = let x : suc a * s ≡ s + a * s = omega arith in let y : 0 * s ≡ 0 = omega arith in absurd (omega arith)
    enough (suc a) (suc b) s p h =
        let x : suc a * s ≡ s + a * s = omega arith in
        let y : suc b * s ≡ s + b * s = omega arith in
        let r = enough a b s p (omega arith) in
        omega arith

-- ---- turns

pub record TurnsFit (k step : ℕ) : Type 0 where
  pub some : 0 < turns k step
  pub few : turns k step ≤ k
  pub wide : k ≤ turns k step * step
  pub quotient : (k - 1) / step + 1 ≡ turns k step

pub turns_fit : (k step : ℕ) → 0 < k → 0 < step → TurnsFit k step
unfolding turns
turns_fit k step p s =
    let d = divides (k - 1) step s in
    let sum = d.sum in
    let less = d.less in
    let q = (k - 1) / step in
    let w : suc q * step ≡ step + q * step = omega arith in
    let one : q ≤ q * step = grows q step s in
    record { some = omega arith; few = omega arith; wide = omega arith; quotient = omega arith }
  where
    grows : (q step : ℕ) → 0 < step → q ≤ q * step
    grows zero step h = omega arith
    grows (suc q) step h = let r = grows q step h in let w : suc q * step ≡ step + q * step = omega arith in omega arith

-- the slots of one turn lie within what all do
pub turn_inside : (first step more t n k w : ℕ) → 0 < t → n ≤ more → first + more * step + k ≤ w → k ≤ t * step → first + n * step + (more - n) / t * (k + (t * step - k)) + k ≤ w
turn_inside first step more t n k w p l h wide =
    let e : k + (t * step - k) ≡ t * step = omega arith in
    let d = divides (more - n) t p in
    let sum = d.sum in
    let q = (more - n) / t in
    let a : q * t ≤ more - n = omega arith in
    let b : q * t * step ≤ (more - n) * step = mul-le-mul_right step a in
    let c : q * (t * step) ≡ q * t * step = sym (mul_assoc q t step) in
    let s : (n + (more - n)) * step ≡ n * step + (more - n) * step = omega arith in
    let m : n + (more - n) ≡ more = omega arith in
    let x : (n + (more - n)) * step ≡ more * step = ap (λ (y : ℕ). y * step) m in
    let z : q * (k + (t * step - k)) ≡ q * (t * step) = ap (λ (y : ℕ). q * y) e in
    omega arith

pub turns_small : (t step more first k w : ℕ) → t ≤ more → first + more * step + k ≤ w → t * step ≤ w
turns_small t step more first k w l h = let m : t * step ≤ more * step = mul-le-mul_right step l in omega arith

pub turn_small : (n step more first k w : ℕ) → n ≤ more → first + more * step + k ≤ w → first + n * step ≤ w
turn_small n step more first k w l h = let m : n * step ≤ more * step = mul-le-mul_right step l in omega arith

-- ---- sets as code takes them apart

pub long_run : (v : Ival) (now : Shape) (p : Progression) → now ≡ v.shape → now ≡ Many p → IsLongRun p
long_run v now p e f = subst IsValid (sym e ∙ f) v.valid

pub one_held : (v : Ival) (r : Option ℤ) (n : ℤ) → IfSome r (λ z. IsOnly v z) → r ≡ Some n → Has v.shape n
one_held v r n f e = ((subst (λ (x : Option ℤ). IfSome x (λ z. IsOnly v z)) e f) n).1 refl

pub set_few : (unit k n : ℕ) (s now : Shape) (v : ArrayVec ℤ) (xs : List ℤ) → now ≡ s → now ≡ Few v → xs ≡ v.items → AllFit unit k n s → (z : ℤ) → Among xs z → Fits unit k n z
set_few unit k n s now v xs e f g h z a =
    h z (subst (λ (t : Shape). Has t z) (sym f ∙ e) (subst (λ (ys : List ℤ). Among ys z) g a))

pub set_run : (unit k n : ℕ) (s now : Shape) (p : Progression) → now ≡ s → now ≡ Many p → AllFit unit k n s → AllFit unit k n (Many p)
set_run unit k n s now p e f h = subst (AllFit unit k n) (sym e ∙ f) h

pub along : (f s m l st mo k w : ℕ) → f ≡ l → s ≡ st → m ≡ mo → l + mo * st + k ≤ w → f + m * s + k ≤ w
along f s m l st mo k w a b c h =
    let e : m * s ≡ mo * st = ap (λ (x : ℕ). x * s) c ∙ ap (λ (x : ℕ). mo * x) b in
    omega arith

pub along_last : (f s m k w : ℕ) → f + m * s + k ≤ w → f + (m + 1 - 1) * s + k ≤ w
along_last f s m k w h =
    let e : m + 1 - 1 ≡ m = omega arith in
    let d : (m + 1 - 1) * s ≡ m * s = ap (λ (x : ℕ). x * s) e in
    omega arith

pub turn_first : (first step more t k w : ℕ) → 0 < t → first + more * step + k ≤ w → k ≤ t * step → first + more / t * (k + (t * step - k)) + k ≤ w
turn_first first step more t k w p h wide =
    let a = turn_inside first step more t 0 k w p (omega arith) h wide in
    let z : more - 0 ≡ more = omega arith in
    let y : (more - 0) / t * (k + (t * step - k)) ≡ more / t * (k + (t * step - k)) = ap (λ (x : ℕ). x / t * (k + (t * step - k))) z in
    let u : 0 * step ≡ 0 = omega arith in
    omega arith
