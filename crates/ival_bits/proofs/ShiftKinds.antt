-- For which numbers of two sets a shift is undefined.
use Rattle.std.proofs.Common.{◌≡◌, ◌⊎◌, ◌↔◌, ℕ, ◌-◌, ◌<◌, ◌≤◌, ◌^◌, Bool, true, false, cond, ℤ, pos, negsuc, Option, Some, None, Result, Ok, Err, refl, sym, subst, ap, ◌∙◌, inl, inr, arith, IsTrue}
use Rattle.std.specs.Prelude.{◌*ℤ◌, ◌&&◌, ◌||◌, int_le, int_lt, unsigned_abs}
use Rattle.std.proofs.lemmas.Int.{ints}
use Rattle.std.proofs.lemmas.Nat.{pow_pos}
use Rattle.std.proofs.Math.Nat.{pow-le-pow_right}
use lib.Signed.{◌<ℤ◌, ◌≤ℤ◌}
use Rattle.c_base.specs.declared.kind.Kind.{Kind}
use Rattle.c_base.specs.declared.kind.Kind.TheVariants.{Shift}
use Rattle.c_base.specs.declared.operators.BinOp.{BinOp}
use Rattle.c_base.specs.declared.operators.BinOp.TheVariants.{Shl, Shr}
use Rattle.c_base.specs.KindSets.{allowed, no_kinds}
use Rattle.c_base.specs.Integers.{fits_bits, greatest_of}
use Rattle.c_base.specs.Operators.{operated, in_type, is_count, floor}
use Rattle.c_base.proofs.KindSets.{with_kind-allows, no_kinds-allow}
use Rattle.ival_core.specs.declared.value.Shape.{Shape}
use Rattle.ival_core.specs.Sets.{Has, IsValid}
use Rattle.ival_core.specs.Views.{bounds_of}
use Rattle.ival_core.proofs.Orders.{lt_true, lt_false, le_true, le_false, true_le, false_lt, false_le}
use Rattle.ival_arith.proofs.Bounding.{EndsOf, BoundsAre, bounds_are}
use Rattle.ival_arith.proofs.Failing.{Fails}
use Rattle.ival_arith.proofs.Making.{fits_true, unsigned_result}
use Rattle.ival_bits.specs.Promises.{IsShift}
use Rattle.ival_bits.specs.Shifts.{miscounts, left_fails, shift_fails, shift_kind}
use Rattle.ival_bits.proofs.Shifting.{left_is, right_is, left_signed, fits_shiftable, count_of}

pub shift_kind-allows : (fails : Bool) (kind : Kind) → IsTrue (allowed (shift_kind fails) kind) ↔ ((fails ≡ true) × (kind ≡ Shift))
shift_kind-allows fails kind = by_test fails
  where
    nothing : IsTrue (allowed no_kinds kind) → ⊥
    nothing e = clash (allowed no_kinds kind) e (no_kinds-allow kind)
      where
        clash : (b : Bool) → b ≡ true → b ≡ false → ⊥
        clash b e f = cc

    by_test : (fails : Bool) → IsTrue (allowed (shift_kind fails) kind) ↔ ((fails ≡ true) × (kind ≡ Shift))
    by_test true = let k = with_kind-allows no_kinds Shift kind in ((λ h. elim (k.0 h) [ inl n ↦ absurd (nothing n) | inr e ↦ (refl, e) ]), (λ p. k.1 (inr p.1)))
    by_test false = ((λ h. absurd (nothing h)), (λ p. cc))

unerr : (k l : Kind) → ◌≡◌ {A = Result ℤ Kind} (Err k) (Err l) → l ≡ k
unerr k l e = cc

-- a shift is undefined with its own kind alone
only_shift : (op : BinOp) (signed : Bool) (width : ℕ) (x y : ℤ) (kind : Kind) → IsShift op → operated op signed width x y ≡ Err kind → kind ≡ Shift
only_shift Shl signed width x y kind i e = by_tests (is_count width y && int_le (pos 0) x) (fits_bits signed width (x *ℤ pos (2 ^ unsigned_abs y))) signed _ _ e
  where
    by_tests : (t f s : Bool) (n m : ℤ) → ◌≡◌ {A = Result ℤ Kind} (cond t (cond f (Ok n) (cond s (Err Shift) (Ok m))) (Err Shift)) (Err kind) → kind ≡ Shift
    by_tests false f s n m e = unerr Shift kind e
    by_tests true true s n m e = cc
    by_tests true false true n m e = unerr Shift kind e
    by_tests true false false n m e = cc
only_shift Shr signed width x y kind i e = by_test (is_count width y) _ e
  where
    by_test : (t : Bool) (n : ℤ) → ◌≡◌ {A = Result ℤ Kind} (cond t (Ok n) (Err Shift)) (Err kind) → kind ≡ Shift
    by_test false n e = unerr Shift kind e
    by_test true n e = cc
only_shift op signed width x y kind i e = absurd i

-- ---- undefined shifts

no_count : (width : ℕ) (y : ℤ) → (y <ℤ pos 0) ⊎ (pos width ≤ℤ y) → is_count width y ≡ false
no_count width y (inl l) = ap (λ t. t && int_lt y (pos width)) (false_le (pos 0) y l)
no_count width y (inr l) = ap (λ t. int_le (pos 0) y && t) (false_lt y (pos width) l) ∙ both (int_le (pos 0) y)
  where
    both : (b : Bool) → (b && false) ≡ false
    both true = refl
    both false = refl

miscounted : (op : BinOp) (signed : Bool) (width : ℕ) (x y : ℤ) → IsShift op → is_count width y ≡ false → operated op signed width x y ≡ Err Shift
miscounted Shl signed width x y i e = ap (λ t. cond (t && int_le (pos 0) x) (in_type Shift signed width (x *ℤ pos (2 ^ unsigned_abs y))) (Err Shift)) e
miscounted Shr signed width x y i e = ap (λ t. cond t (Ok (floor x (2 ^ unsigned_abs y))) (Err Shift)) e
miscounted op signed width x y i e = absurd i

negative : (signed : Bool) (width : ℕ) (x y : ℤ) → x <ℤ pos 0 → operated Shl signed width x y ≡ Err Shift
negative signed width x y l =
    ap (λ t. cond (is_count width y && t) (in_type Shift signed width (x *ℤ pos (2 ^ unsigned_abs y))) (Err Shift)) (false_le (pos 0) x l)
    ∙ ap (λ t. cond t (in_type Shift signed width (x *ℤ pos (2 ^ unsigned_abs y))) (Err Shift)) (both (is_count width y))
  where
    both : (b : Bool) → (b && false) ≡ false
    both true = refl
    both false = refl

too_far : (width c : ℕ) (x : ℤ) → c < width → pos (2 ^ (width - 1 - c)) ≤ℤ x → operated Shl true width x (pos c) ≡ Err Shift
too_far width c x h l =
    let p = pow_pos (width - 1 - c) in
    let a : pos 0 ≤ℤ x = omega (arith, ints) in
    left_is true width x c h ∙ ap (λ t. cond t (in_type Shift true width (x *ℤ pos (2 ^ c))) (Err Shift)) (true_le (pos 0) x a)
    ∙ ap (λ t. cond t (Ok (x *ℤ pos (2 ^ c))) (Err Shift)) (by_fits (fits_bits true width (x *ℤ pos (2 ^ c))) (λ t. beyond a (fits_true true width (x *ℤ pos (2 ^ c)) t).below))
  where
    beyond : pos 0 ≤ℤ x → (x *ℤ pos (2 ^ c)) ≤ℤ greatest_of true width → ⊥
    beyond a b = let s = fits_shiftable width c x h a b in let m = s.below in omega (arith, ints)

    by_fits : (t : Bool) → (t ≡ true → ⊥) → t ≡ false
    by_fits true f = absurd (f refl)
    by_fits false f = refl

-- ---- defined shifts

pub record Defined (op : BinOp) (signed : Bool) (width : ℕ) (x y : ℤ) : Type 0 where
  pub result : ℤ
  pub is : operated op signed width x y ≡ Ok result

right_defined : (signed : Bool) (width c : ℕ) (x : ℤ) → c < width → Defined Shr signed width x (pos c)
right_defined signed width c x h = record { result = floor x (2 ^ c); is = right_is width x c h }

left_defined : (signed : Bool) (width c : ℕ) (x : ℤ) → c < width → pos 0 ≤ℤ x → (signed ≡ true → x <ℤ pos (2 ^ (width - 1 - c))) → Defined Shl signed width x (pos c)
left_defined true width c x h l f = record { result = x *ℤ pos (2 ^ c); is = left_signed width c x h (record { above = l; below = f refl }) }
left_defined false width c x h l f = record {
  result = _;
  is = left_is false width x c h ∙ ap (λ t. cond t (in_type Shift false width (x *ℤ pos (2 ^ c))) (Err Shift)) (true_le (pos 0) x l) ∙ unsigned_result width (x *ℤ pos (2 ^ c));
}

-- ---- bounds

either : (x y : Bool) → (x || y) ≡ true → (x ≡ true) ⊎ (y ≡ true)
either true y e = inl refl
either false y e = inr e

neither : (x y : Bool) → (x || y) ≡ false → (x ≡ false) × (y ≡ false)
neither true y e = cc
neither false y e = (refl, e)

and_true : (x y : Bool) → (x && y) ≡ true → (x ≡ true) × (y ≡ true)
and_true true y e = (refl, e)
and_true false y e = cc

miscount_fails : (op : BinOp) (signed : Bool) (width : ℕ) (s t : Shape) (a b c d : ℤ) → IsShift op → EndsOf s a b → EndsOf t c d → miscounts width c d ≡ true → Fails op signed width s t Shift
miscount_fails op signed width s t a b c d i h k e = elim (either (int_lt c (pos 0)) (int_le (pos width) d) e) [
  | inl f ↦ record { left = a; right = c; has_left = h.first; has_right = k.first; is = miscounted op signed width a c i (no_count width c (inl (lt_true c (pos 0) f))) }
  | inr f ↦ record { left = a; right = d; has_left = h.first; has_right = k.last; is = miscounted op signed width a d i (no_count width d (inr (le_true (pos width) d f))) }
]

overflow_fails : (width : ℕ) (x y : ℤ) → pos (2 ^ (width - 1 - unsigned_abs y)) ≤ℤ x → operated Shl true width x y ≡ Err Shift
overflow_fails width x y l = by_count (is_count width y) refl
  where
    by_count : (t : Bool) → is_count width y ≡ t → operated Shl true width x y ≡ Err Shift
    by_count false e = miscounted Shl true width x y tt e
    by_count true e =
        let k = count_of width y e in
        subst (λ z. operated Shl true width x z ≡ Err Shift) (sym k.is) (too_far width k.count x k.below (subst (λ z. pos (2 ^ (width - 1 - unsigned_abs z)) ≤ℤ x) k.is l))

left_fails-some : (signed : Bool) (width : ℕ) (s t : Shape) (a b c d : ℤ) → EndsOf s a b → EndsOf t c d → left_fails signed width a b d ≡ true → Fails Shl signed width s t Shift
left_fails-some signed width s t a b c d h k e = elim (either (int_lt a (pos 0)) (signed && int_le (pos (2 ^ (width - 1 - unsigned_abs d))) b) e) [
  | inl f ↦ record { left = a; right = d; has_left = h.first; has_right = k.last; is = negative signed width a d (lt_true a (pos 0) f) }
  | inr f ↦
      let g = and_true signed (int_le (pos (2 ^ (width - 1 - unsigned_abs d))) b) f in
      record { left = b; right = d; has_left = h.last; has_right = k.last; is = subst (λ z. operated Shl z width b d ≡ Err Shift) (sym g.0) (overflow_fails width b d (le_true (pos (2 ^ (width - 1 - unsigned_abs d))) b g.1)) }
]

shift_fails-some : (op : BinOp) (signed : Bool) (width : ℕ) (s t : Shape) (a b : Option (ℤ × ℤ)) → IsShift op → BoundsAre s a → BoundsAre t b → shift_fails op signed width a b ≡ true → Fails op signed width s t Shift
shift_fails-some op signed width s t None b i h k e = cc
shift_fails-some op signed width s t (Some a) None i h k e = cc
shift_fails-some Shl signed width s t (Some a) (Some b) i h k e = elim (either (miscounts width b.0 b.1) (left_fails signed width a.0 a.1 b.1) e) [
  | inl f ↦ miscount_fails Shl signed width s t a.0 a.1 b.0 b.1 i h k f
  | inr f ↦ left_fails-some signed width s t a.0 a.1 b.0 b.1 h k f
]
shift_fails-some Shr signed width s t (Some a) (Some b) i h k e = miscount_fails Shr signed width s t a.0 a.1 b.0 b.1 i h k e
shift_fails-some op signed width s t (Some a) (Some b) i h k e = absurd i

-- between counts all numbers are counts
record Between_counts (width : ℕ) (y d : ℤ) : Type 0 where
  count : ℕ
  below : count < width
  is : y ≡ pos count
  most : count ≤ unsigned_abs d

between_counts : (width : ℕ) (c d y : ℤ) → miscounts width c d ≡ false → c ≤ℤ y → y ≤ℤ d → Between_counts width y d
between_counts width c d (negsuc k) e l m = let f = neither (int_lt c (pos 0)) (int_le (pos width) d) e in let g = lt_false c (pos 0) f.0 in absurd (omega (arith, ints))
between_counts width c d (pos k) e l m =
    let f = neither (int_lt c (pos 0)) (int_le (pos width) d) e in
    let g = le_false (pos width) d f.1 in
    record { count = k; below = omega (arith, ints); is = refl; most = omega (arith, ints) }

not_beyond : (width k : ℕ) (x b d : ℤ) → k ≤ unsigned_abs d → int_le (pos (2 ^ (width - 1 - unsigned_abs d))) b ≡ false → x ≤ℤ b → x <ℤ pos (2 ^ (width - 1 - k))
not_beyond width k x b d h e l =
    let f = le_false (pos (2 ^ (width - 1 - unsigned_abs d))) b e in
    let p : 2 ^ (width - 1 - unsigned_abs d) ≤ 2 ^ (width - 1 - k) = pow-le-pow_right (omega arith) (omega arith) in
    omega (arith, ints)

and_false : (x y : Bool) → (x && y) ≡ false → x ≡ true → y ≡ false
and_false true y e f = e
and_false false y e f = cc

left_fails-none : (signed : Bool) (width : ℕ) (a b d x y : ℤ) → left_fails signed width a b d ≡ false → a ≤ℤ x → x ≤ℤ b → Between_counts width y d → Defined Shl signed width x y
left_fails-none signed width a b d x y e l m k =
    let f = neither (int_lt a (pos 0)) (signed && int_le (pos (2 ^ (width - 1 - unsigned_abs d))) b) e in
    let g = lt_false a (pos 0) f.0 in
    subst (Defined Shl signed width x) (sym k.is)
    (left_defined signed width k.count x k.below (omega (arith, ints)) (λ s. not_beyond width k.count x b d k.most (and_false signed (int_le (pos (2 ^ (width - 1 - unsigned_abs d))) b) f.1 s) m))

shift_fails-none : (op : BinOp) (signed : Bool) (width : ℕ) (s t : Shape) (a b : Option (ℤ × ℤ)) → IsShift op → BoundsAre s a → BoundsAre t b → shift_fails op signed width a b ≡ false → (x y : ℤ) → Has s x → Has t y → Defined op signed width x y
shift_fails-none op signed width s t None b i h k e x y m n = absurd (h x m)
shift_fails-none op signed width s t (Some a) None i h k e x y m n = absurd (k y n)
shift_fails-none Shl signed width s t (Some a) (Some b) i h k e x y m n =
    let f = neither (miscounts width b.0 b.1) (left_fails signed width a.0 a.1 b.1) e in
    left_fails-none signed width a.0 a.1 b.1 x y f.1 (h.above x m) (h.below x m) (between_counts width b.0 b.1 y f.0 (k.above y n) (k.below y n))
shift_fails-none Shr signed width s t (Some a) (Some b) i h k e x y m n =
    let c = between_counts width b.0 b.1 y e (k.above y n) (k.below y n) in
    subst (Defined Shr signed width x) (sym c.is) (right_defined signed width c.count x c.below)
shift_fails-none op signed width s t (Some a) (Some b) i h k e x y m n = absurd i

pub shift_kinds-are : (op : BinOp) (signed : Bool) (width : ℕ) (s t : Shape) (kind : Kind) → IsShift op → IsValid s → IsValid t →
    IsTrue (allowed (shift_kind (shift_fails op signed width (bounds_of s) (bounds_of t))) kind) ↔ Fails op signed width s t kind
shift_kinds-are op signed width s t kind i v w = let k = shift_kind-allows (shift_fails op signed width (bounds_of s) (bounds_of t)) kind in (
  (λ e. let p = k.0 e in subst (Fails op signed width s t) (sym p.1) (shift_fails-some op signed width s t (bounds_of s) (bounds_of t) i (bounds_are s v) (bounds_are t w) p.0)),
  (λ f. k.1 (by_test (shift_fails op signed width (bounds_of s) (bounds_of t)) (λ e. undefined f (shift_fails-none op signed width s t (bounds_of s) (bounds_of t) i (bounds_are s v) (bounds_are t w) e f.left f.right f.has_left f.has_right)), only_shift op signed width f.left f.right kind i f.is)),
)
  where
    undefined : (f : Fails op signed width s t kind) → Defined op signed width f.left f.right → ⊥
    undefined f d = clash (sym d.is ∙ f.is)
      where
        clash : {n : ℤ} → ◌≡◌ {A = Result ℤ Kind} (Ok n) (Err kind) → ⊥
        clash e = cc

    by_test : (b : Bool) → (b ≡ false → ⊥) → b ≡ true
    by_test true f = refl
    by_test false f = absurd (f refl)
