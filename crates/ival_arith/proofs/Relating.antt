-- Relations of the numbers of two sets, by the bounds of the sets.
use Rattle.std.proofs.Common.{◌≡◌, ◌↔◌, IsTrue, Bool, true, false, ℤ, refl, subst, ap, arith}
use Rattle.std.specs.Prelude.{◌&&◌, int_lt, int_le}
use Rattle.std.proofs.lemmas.Int.{ints, by_lt_z}
use lib.Signed.{◌<ℤ◌, ◌≤ℤ◌, ≤ℤ_refl}
use Rattle.c_base.specs.declared.operators.Rel.TheVariants.{Lt, Eq}
use Rattle.ival_core.specs.declared.value.Ival.{Ival}
use Rattle.ival_core.specs.Ivals.{Holds, IsBounds, IsMeet}
use Rattle.ival_core.proofs.Orders.{lt_true, lt_false, le_true, true_lt, true_le, false_lt, false_le}
use Rattle.ival_arith.specs.Promises.{Compares}

pub less_false : (a b : Ival) (la ha lb hb : ℤ) → IsBounds a la ha → IsBounds b lb hb → IsTrue (int_le lb ha) ↔ Compares Lt a b false
less_false a b la ha lb hb h k = (
  (λ t. record { left = ha; right = lb; in_left = h.last; in_right = k.first; is = false_lt ha lb (le_true lb ha t) }),
  (λ c.
      let x = c.left in
      let y = c.right in
      let e : y ≤ℤ x = lt_false x y c.is in
      let f : x ≤ℤ ha = (h.between x c.in_left).1 in
      let g : lb ≤ℤ y = (k.between y c.in_right).0 in
      true_le lb ha (omega (arith, ints))),
)

same : (x y : ℤ) → (int_le x y && int_le y x) ≡ true → x ≡ y
same x y e = by_tests x y (int_le x y) (int_le y x) (λ h. le_true x y h) (λ h. le_true y x h) e
  where
    by_tests : (x y : ℤ) (s t : Bool) → (s ≡ true → x ≤ℤ y) → (t ≡ true → y ≤ℤ x) → (s && t) ≡ true → x ≡ y
    by_tests x y true true f g e = let a = f refl in let b = g refl in omega (arith, ints)
    by_tests x y true false f g e = cc
    by_tests x y false t f g e = cc

itself : (x : ℤ) → (int_le x x && int_le x x) ≡ true
itself x = let e = true_le x x (≤ℤ_refl x) in rw e refl

pub meets_some : (a b v : Ival) (n : ℤ) → IsMeet a b v → Holds v n → Compares Eq a b true
meets_some a b v n m h = let k = (m n).0 h in record { left = n; right = n; in_left = k.0; in_right = k.1; is = itself n }

pub meets_none : (a b v : Ival) → IsMeet a b v → ((n : ℤ) → Holds v n → ⊥) → Compares Eq a b true → ⊥
meets_none a b v m f c =
    let e : c.left ≡ c.right = same c.left c.right c.is in
    f c.right ((m c.right).1 (subst (λ z. Holds a z) e c.in_left, c.in_right))

less : (x y : ℤ) → x <ℤ y → (int_le x y && int_le y x) ≡ false
less x y h = let e : int_le y x ≡ false = false_le y x h in at (int_le x y) (int_le y x) e
  where
    at : (s t : Bool) → t ≡ false → (s && t) ≡ false
    at true t e = e
    at false t e = refl

more : (x y : ℤ) → y <ℤ x → (int_le x y && int_le y x) ≡ false
more x y h = ap (λ b. b && int_le y x) (false_le x y h)

pub differs_low : (a b : Ival) (la ha lb hb : ℤ) → IsBounds a la ha → IsBounds b lb hb → la <ℤ hb → Compares Eq a b false
differs_low a b la ha lb hb h k l = record { left = la; right = hb; in_left = h.first; in_right = k.last; is = less la hb l }

pub differs_high : (a b : Ival) (la ha lb hb : ℤ) → IsBounds a la ha → IsBounds b lb hb → hb ≤ℤ la → IsTrue (int_lt lb ha) ↔ Compares Eq a b false
differs_high a b la ha lb hb h k l = (
  (λ t. record { left = ha; right = lb; in_left = h.last; in_right = k.first; is = more ha lb (lt_true lb ha t) }),
  (λ c.
      let x = c.left in
      let y = c.right in
      let f = h.between x c.in_left in
      let g = k.between y c.in_right in
      by_lt_z lb ha (λ m. true_lt lb ha m)
      (λ m. absurd (one x y la ha lb hb l m f.0 f.1 g.0 g.1 c.is))),
)
  where
    equal : (x y la ha lb hb : ℤ) → hb ≤ℤ la → ha ≤ℤ lb → la ≤ℤ x → x ≤ℤ ha → lb ≤ℤ y → y ≤ℤ hb → x ≡ y
    equal x y la ha lb hb l m p q r s = omega (arith, ints)

    one : (x y la ha lb hb : ℤ) → hb ≤ℤ la → ha ≤ℤ lb → la ≤ℤ x → x ≤ℤ ha → lb ≤ℤ y → y ≤ℤ hb → (int_le x y && int_le y x) ≡ false → ⊥
    one x y la ha lb hb l m p q r s e =
        let i : x ≡ y = equal x y la ha lb hb l m p q r s in
        clash (int_le x y && int_le y x) (subst (λ z. (int_le x z && int_le z x) ≡ true) i (itself x)) e
      where
        clash : (b : Bool) → b ≡ true → b ≡ false → ⊥
        clash b e f = cc
