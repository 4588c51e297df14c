-- The bounds of sets.
use Rattle.std.proofs.Common.{◌≡◌, ◌%◌, ◌==◌, Bool, true, false, ap, ◌∙◌, eq-eqb, ℤ, List, [], ◌∷◌, length, Option, Some, None, refl, inl, arith}
use Rattle.std.specs.Prelude.{◌&&◌, int_le}
use Rattle.std.proofs.lemmas.Bool.{eqb-true}
use Rattle.std.proofs.lemmas.Nat.Gcd.{dvd_of_mod-eq-zero, mod-eq-zero_of_dvd}
use lib.Signed.{◌≤ℤ◌}
use Rattle.ival_core.specs.declared.value.Shape.{Shape}
use Rattle.ival_core.specs.declared.value.Shape.TheVariants.{Few, Many}
use Rattle.ival_core.specs.Sets.{apart, IsAscending, IsValid, Has}
use Rattle.ival_core.specs.Views.{bounds_of}
use Rattle.ival_core.proofs.Ends.{at_head, at_last, Among-at}
use Rattle.ival_core.proofs.Runs.{Steps-low, Steps-high}
use Rattle.ival_core.proofs.Orders.{le_true, true_le}
use Rattle.ival_arith.specs.Pieces.{is_among}
use Rattle.ival_arith.specs.Kinds.{holds_number}
use Rattle.ival_arith.proofs.Cycles.{is_among-true, is_among-false}

-- the least and the greatest number of a set, where it has one
pub record EndsOf (s : Shape) (low high : ℤ) : Type 0 where
  pub first : Has s low
  pub last : Has s high
  pub above : (n : ℤ) → Has s n → low ≤ℤ n
  pub below : (n : ℤ) → Has s n → n ≤ℤ high

-- the bounds are the ends, or there is no number
abbrev pub BoundsAre : Shape → Option (ℤ × ℤ) → Type 0
BoundsAre s None = (n : ℤ) → Has s n → ⊥
BoundsAre s (Some e) = EndsOf s e.0 e.1

bounds_few : (xs : List ℤ) → IsAscending xs → BoundsAre (Few (record { items = xs })) (bounds_of (Few (record { items = xs })))
bounds_few [] a = λ n m. absurd m
bounds_few (x ∷ xs) a = record {
  first = inl refl;
  last = Among-at (x ∷ xs) (length xs) x (omega arith);
  above = λ n m. at_head (x ∷ xs) x n a m;
  below = λ n m. at_last (x ∷ xs) (length xs) x n a refl m;
}

pub bounds_are : (s : Shape) → IsValid s → BoundsAre s (bounds_of s)
bounds_are (Few v) l = bounds_few v.items l.ascending
bounds_are (Many p) l = record { first = Steps-low p l; last = Steps-high p l; above = λ n h. h.above; below = λ n h. h.below }

and3 : (x y z : Bool) → (x && (y && z)) ≡ true → (x ≡ true) × (y ≡ true) × (z ≡ true)
and3 true true true e = (refl, refl, refl)
and3 true true false e = cc
and3 true false z e = cc
and3 false y z e = cc

pub number_held : (s : Shape) (n : ℤ) → holds_number s n ≡ true → Has s n
number_held (Few v) n e = is_among-true v.items n e
number_held (Many p) n e =
    let x = and3 (int_le p.low n) (int_le n p.high) (apart p.low n % p.stride == 0) e in
    record { above = le_true p.low n x.0; below = le_true n p.high x.1; meets = dvd_of_mod-eq-zero p.stride (eqb-true (apart p.low n % p.stride) 0 x.2) }

pub by_bool : (b : Bool) → (b ≡ false → ⊥) → b ≡ true
by_bool true f = refl
by_bool false f = absurd (f refl)

pub held_number : (s : Shape) (n : ℤ) → Has s n → holds_number s n ≡ true
held_number (Few v) n m = by_bool (is_among v.items n) (λ e. is_among-false v.items n e m)
held_number (Many p) n h =
    let a = true_le p.low n h.above in
    let b = true_le n p.high h.below in
    let c = eq-eqb (apart p.low n % p.stride) 0 (mod-eq-zero_of_dvd p.stride h.meets) in
    ap (λ t. t && (int_le n p.high && (apart p.low n % p.stride == 0))) a ∙ ap (λ t. t && (apart p.low n % p.stride == 0)) b ∙ c
