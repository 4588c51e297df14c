-- How kinds are found.
use Rattle.std.proofs.Common.{◌≡◌, ◌↔◌, ℕ, ◌≤◌, ◌^◌, ◌<◌, Bool, true, false, ℤ, pos, IsTrue, refl, sym, ◌∙◌, arith}
use Rattle.std.specs.Prelude.{neg_ℤ, ◌*ℤ◌, unsigned_abs}
use Rattle.std.proofs.lemmas.Int.{ints, unsigned_abs-mul}
use Rattle.std.proofs.lemmas.Nat.{mul-le}
use lib.Signed.{◌≤ℤ◌}
use Rattle.c_base.specs.Integers.{FitsBits}
use Rattle.ival_core.specs.declared.value.Shape.{Shape}
use Rattle.ival_core.specs.Sets.{Has}
use Rattle.ival_arith.specs.Kinds.{holds_number, IsShort}
use Rattle.ival_arith.proofs.Bounding.{number_held, held_number}
use Rattle.ival_arith.proofs.Words.{ends}

-- a truth that says whether n is in the set
pub is_holds_number : (b : Bool) (s : Shape) (n : ℤ) → (IsTrue b ↔ Has s n) → b ≡ holds_number s n
is_holds_number b s n h = by_tests b (holds_number s n) refl refl
  where
    by_tests : (x y : Bool) → b ≡ x → holds_number s n ≡ y → x ≡ y
    by_tests true true e f = refl
    by_tests false false e f = refl
    by_tests true false e f = absurd (clash (sym (held_number s n (h.0 e)) ∙ f))
      where
        clash : true ≡ false → ⊥
        clash e = cc
    by_tests false true e f = absurd (clash (sym e ∙ h.1 (number_held s n f)))
      where
        clash : false ≡ true → ⊥
        clash e = cc

-- the product of two numbers of signed types is a machine number
pub record IsLongProduct (n : ℤ) : Type 0 where
  pub least : neg_ℤ (pos (2 ^ 126)) ≤ℤ n
  pub greatest : n ≤ℤ pos (2 ^ 126)

pub short_product : (a b : ℤ) → IsShort a → IsShort b → IsLongProduct (a *ℤ b)
short_product a b f g =
    let h = f.least in let i = f.greatest in let j = g.least in let k = g.greatest in
    let x : unsigned_abs a ≤ 2 ^ 63 = omega (arith, ints) in
    let y : unsigned_abs b ≤ 2 ^ 63 = omega (arith, ints) in
    let m = mul-le (unsigned_abs a) (unsigned_abs b) (2 ^ 63) (2 ^ 63) x y in
    let e = unsigned_abs-mul a b in
    record { least = omega (arith, ints); greatest = omega (arith, ints) }

pub fits_short : (signed : Bool) (width : ℕ) (n : ℤ) → 0 < width → width ≤ 64 → signed ≡ true → FitsBits signed width n → IsShort n
fits_short false width n h k e f = cc
fits_short true width n h k e f =
    let x = ends true width h k in
    let a = x.least in let b = x.greatest in let c = x.below in let d = x.even in let i = f.least in let j = f.greatest in
    record { least = omega (arith, ints); greatest = omega (arith, ints) }
