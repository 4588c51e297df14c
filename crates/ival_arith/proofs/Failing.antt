-- For which numbers of two sets an operator is undefined, and with which kind.
use Rattle.std.proofs.Common.{◌≡◌, ◌⊎◌, ◌↔◌, ℕ, zero, suc, ◌-◌, ◌*◌, ◌/◌, ◌<◌, ◌≤◌, ◌^◌, Bool, true, false, cond, ℤ, pos, negsuc, ◌+ℤ◌, ◌-ℤ◌, Option, Some, None, Result, Ok, Err, refl, sym, subst, ap, ◌∙◌, inl, inr, arith, IsTrue}
use Rattle.std.specs.Prelude.{neg_ℤ, ◌*ℤ◌, ◌&&◌, ◌||◌, int_lt, int_div, int_rem}
use Rattle.std.proofs.lemmas.Int.{ints, by_lt_z}
use Rattle.std.proofs.lemmas.Nat.{pow_pos, mul-le, div_below}
use Rattle.std.proofs.Math.Nat.{div-le_self, div-one}
use lib.IntN.{*ℤ_comm}
use lib.Signed.{◌<ℤ◌, ◌≤ℤ◌}
use Rattle.c_base.specs.declared.kind.Kind.{Kind}
use Rattle.c_base.specs.declared.kind.Kind.TheVariants.{DivisionByZero, SignedOverflow}
use Rattle.c_base.specs.declared.operators.BinOp.{BinOp}
use Rattle.c_base.specs.declared.operators.BinOp.TheVariants.{Add, Sub, Mul, Div, Rem}
use Rattle.c_base.specs.KindSets.{allowed, no_kinds, with_kind}
use Rattle.c_base.specs.Integers.{FitsBits, fits_bits, residue, least_of, greatest_of}
use Rattle.c_base.specs.Operators.{operated, arithmetic, is_zero}
use Rattle.c_base.proofs.KindSets.{with_kind-allows, no_kinds-allow}
use Rattle.c_base.proofs.Products.{mul-neg}
use Rattle.ival_core.specs.declared.value.Shape.{Shape}
use Rattle.ival_core.specs.Sets.{IsNumber, IsValid, Has}
use Rattle.ival_core.specs.Views.{bounds_of}
use Rattle.ival_core.proofs.Orders.{lt_true, lt_false}
use Rattle.ival_arith.specs.declared.pieces.Change.TheVariants.{Negative}
use Rattle.ival_arith.specs.Pieces.{all_changed}
use Rattle.ival_arith.specs.Kinds.{holds_number, holds_some, is_out, sums_leave, products_leave, overflows, divides_by_zero, kind_set, kinds}
use Rattle.ival_arith.specs.Promises.{IsArithmetic}
use Rattle.ival_arith.proofs.Parts.{scaled_order, all_changed-exactly}
use Rattle.ival_arith.proofs.Making.{IsWidth, FitsEnds, fits_true, true_fits, unsigned_result}
use Rattle.ival_arith.proofs.Spreading.{Word}
use Rattle.ival_arith.proofs.Words.{fits_operand, operand_number}
use Rattle.ival_arith.proofs.Wrapping.{negated_operand}
use Rattle.ival_arith.proofs.Bounding.{BoundsAre, bounds_are, number_held, held_number, by_bool}
use Rattle.ival_arith.proofs.Exacting.{number_negated}
use Rattle.ival_arith.proofs.Multiplying.{zero_is}

-- ---- bounds and numbers

-- ---- sums and products that leave a range

-- z does not lie from lo to hi
pub record Out (lo hi z : ℤ) : Type 0 where
  pub out : (z <ℤ lo) ⊎ (hi <ℤ z)

pub out_true : (lo hi z : ℤ) → is_out lo hi z ≡ true → Out lo hi z
out_true lo hi z e = by_tests (int_lt z lo) (int_lt hi z) (λ h. lt_true z lo h) (λ h. lt_true hi z h) e
  where
    by_tests : (s t : Bool) → (s ≡ true → z <ℤ lo) → (t ≡ true → hi <ℤ z) → (s || t) ≡ true → Out lo hi z
    by_tests true t f g e = record { out = inl (f refl) }
    by_tests false true f g e = record { out = inr (g refl) }
    by_tests false false f g e = cc

pub out_false : (lo hi z : ℤ) → is_out lo hi z ≡ false → FitsEnds lo hi z
out_false lo hi z e = by_tests (int_lt z lo) (int_lt hi z) (λ h. lt_false z lo h) (λ h. lt_false hi z h) e
  where
    by_tests : (s t : Bool) → (s ≡ false → lo ≤ℤ z) → (t ≡ false → z ≤ℤ hi) → (s || t) ≡ false → FitsEnds lo hi z
    by_tests true t f g e = cc
    by_tests false true f g e = cc
    by_tests false false f g e = record { above = f refl; below = g refl }

pub not_out : (lo hi z : ℤ) → FitsEnds lo hi z → Out lo hi z → ⊥
not_out lo hi z f o = elim o.out [ inl l ↦ under f.above l | inr l ↦ under f.below l ]
  where
    under : {x y : ℤ} → x ≤ℤ y → y <ℤ x → ⊥
    under h k = omega (arith, ints)

-- some f of numbers of the sets does not lie from lo to hi
pub record SomeOut (f : ℤ → ℤ → ℤ) (lo hi : ℤ) (s t : Shape) : Type 0 where
  pub left : ℤ
  pub right : ℤ
  pub has_left : Has s left
  pub has_right : Has t right
  pub out : Out lo hi (f left right)

either : (x y : Bool) → (x || y) ≡ true → (x ≡ true) ⊎ (y ≡ true)
either true y e = inl refl
either false y e = inr e

neither : (x y : Bool) → (x || y) ≡ false → (x ≡ false) × (y ≡ false)
neither true y e = cc
neither false y e = (refl, e)

pub sums_out : (lo hi : ℤ) (s t : Shape) (a b : Option (ℤ × ℤ)) → BoundsAre s a → BoundsAre t b → IsTrue (sums_leave lo hi a b) ↔ SomeOut (λ x y. x +ℤ y) lo hi s t
sums_out lo hi s t None b h k = ((λ e. cc), (λ o. absurd (h o.left o.has_left)))
sums_out lo hi s t (Some a) None h k = ((λ e. cc), (λ o. absurd (k o.right o.has_right)))
sums_out lo hi s t (Some a) (Some b) h k = (
  (λ e. elim (either (int_lt (a.0 +ℤ b.0) lo) (int_lt hi (a.1 +ℤ b.1)) e) [
    | inl f ↦ record { left = a.0; right = b.0; has_left = h.first; has_right = k.first; out = record { out = inl (lt_true (a.0 +ℤ b.0) lo f) } }
    | inr f ↦ record { left = a.1; right = b.1; has_left = h.last; has_right = k.last; out = record { out = inr (lt_true hi (a.1 +ℤ b.1) f) } }
  ]),
  (λ o. by_bool (int_lt (a.0 +ℤ b.0) lo || int_lt hi (a.1 +ℤ b.1)) (λ e.
      let f = neither (int_lt (a.0 +ℤ b.0) lo) (int_lt hi (a.1 +ℤ b.1)) e in
      not_out lo hi (o.left +ℤ o.right) (inside a.0 a.1 b.0 b.1 o.left o.right (h.above o.left o.has_left) (h.below o.left o.has_left) (k.above o.right o.has_right) (k.below o.right o.has_right) (lt_false (a.0 +ℤ b.0) lo f.0) (lt_false hi (a.1 +ℤ b.1) f.1)) o.out)),
)
  where
    inside : (la ha lb hb x y : ℤ) → la ≤ℤ x → x ≤ℤ ha → lb ≤ℤ y → y ≤ℤ hb → lo ≤ℤ (la +ℤ lb) → (ha +ℤ hb) ≤ℤ hi → FitsEnds lo hi (x +ℤ y)
    inside la ha lb hb x y p q r u v w = record { above = omega (arith, ints); below = omega (arith, ints) }

negative_order : (a b : ℤ) (k : ℕ) → a ≤ℤ b → (b *ℤ neg_ℤ (pos k)) ≤ℤ (a *ℤ neg_ℤ (pos k))
negative_order a b k h =
    let e = mul-neg a (pos k) in
    let f = mul-neg b (pos k) in
    let g = scaled_order a b k h in
    omega (arith, ints)

-- between two numbers whose products with y lie in the range, each product does
between_products : (lo hi a b x y : ℤ) → a ≤ℤ x → x ≤ℤ b → FitsEnds lo hi (a *ℤ y) → FitsEnds lo hi (b *ℤ y) → FitsEnds lo hi (x *ℤ y)
between_products lo hi a b x (pos k) h l f g =
    let p = scaled_order a x k h in let q = scaled_order x b k l in
    let c = f.above in let d = g.below in
    record { above = omega (arith, ints); below = omega (arith, ints) }
between_products lo hi a b x (negsuc k) h l f g =
    let p : (x *ℤ negsuc k) ≤ℤ (a *ℤ negsuc k) = negative_order a x (suc k) h in
    let q : (b *ℤ negsuc k) ≤ℤ (x *ℤ negsuc k) = negative_order x b (suc k) l in
    let c = f.below in let d = g.above in
    record { above = omega (arith, ints); below = omega (arith, ints) }

turned_fits : (lo hi x y : ℤ) → FitsEnds lo hi (x *ℤ y) → FitsEnds lo hi (y *ℤ x)
turned_fits lo hi x y f = subst (FitsEnds lo hi) (*ℤ_comm x y) f

corners : (lo hi a b c d x y : ℤ) → a ≤ℤ x → x ≤ℤ b → c ≤ℤ y → y ≤ℤ d → FitsEnds lo hi (a *ℤ c) → FitsEnds lo hi (a *ℤ d) → FitsEnds lo hi (b *ℤ c) → FitsEnds lo hi (b *ℤ d) → FitsEnds lo hi (x *ℤ y)
corners lo hi a b c d x y h l m n ac ad bc bd =
    between_products lo hi a b x y h l
    (turned_fits lo hi y a (between_products lo hi c d y a m n (turned_fits lo hi a c ac) (turned_fits lo hi a d ad)))
    (turned_fits lo hi y b (between_products lo hi c d y b m n (turned_fits lo hi b c bc) (turned_fits lo hi b d bd)))

pub products_out : (lo hi : ℤ) (s t : Shape) (a b : Option (ℤ × ℤ)) → BoundsAre s a → BoundsAre t b → IsTrue (products_leave lo hi a b) ↔ SomeOut (λ x y. x *ℤ y) lo hi s t
products_out lo hi s t None b h k = ((λ e. cc), (λ o. absurd (h o.left o.has_left)))
products_out lo hi s t (Some a) None h k = ((λ e. cc), (λ o. absurd (k o.right o.has_right)))
products_out lo hi s t (Some a) (Some b) h k = (
  (λ e. elim (either (is_out lo hi (a.0 *ℤ b.0) || is_out lo hi (a.0 *ℤ b.1)) (is_out lo hi (a.1 *ℤ b.0) || is_out lo hi (a.1 *ℤ b.1)) e) [
    | inl f ↦ elim (either (is_out lo hi (a.0 *ℤ b.0)) (is_out lo hi (a.0 *ℤ b.1)) f) [
      | inl g ↦ record { left = a.0; right = b.0; has_left = h.first; has_right = k.first; out = out_true lo hi (a.0 *ℤ b.0) g }
      | inr g ↦ record { left = a.0; right = b.1; has_left = h.first; has_right = k.last; out = out_true lo hi (a.0 *ℤ b.1) g }
    ]
    | inr f ↦ elim (either (is_out lo hi (a.1 *ℤ b.0)) (is_out lo hi (a.1 *ℤ b.1)) f) [
      | inl g ↦ record { left = a.1; right = b.0; has_left = h.last; has_right = k.first; out = out_true lo hi (a.1 *ℤ b.0) g }
      | inr g ↦ record { left = a.1; right = b.1; has_left = h.last; has_right = k.last; out = out_true lo hi (a.1 *ℤ b.1) g }
    ]
  ]),
  (λ o. by_bool ((is_out lo hi (a.0 *ℤ b.0) || is_out lo hi (a.0 *ℤ b.1)) || (is_out lo hi (a.1 *ℤ b.0) || is_out lo hi (a.1 *ℤ b.1))) (λ e.
      let f = neither (is_out lo hi (a.0 *ℤ b.0) || is_out lo hi (a.0 *ℤ b.1)) (is_out lo hi (a.1 *ℤ b.0) || is_out lo hi (a.1 *ℤ b.1)) e in
      let g = neither (is_out lo hi (a.0 *ℤ b.0)) (is_out lo hi (a.0 *ℤ b.1)) f.0 in
      let i = neither (is_out lo hi (a.1 *ℤ b.0)) (is_out lo hi (a.1 *ℤ b.1)) f.1 in
      not_out lo hi (o.left *ℤ o.right)
      (corners lo hi a.0 a.1 b.0 b.1 o.left o.right (h.above o.left o.has_left) (h.below o.left o.has_left) (k.above o.right o.has_right) (k.below o.right o.has_right)
      (out_false lo hi (a.0 *ℤ b.0) g.0) (out_false lo hi (a.0 *ℤ b.1) g.1) (out_false lo hi (a.1 *ℤ b.0) i.0) (out_false lo hi (a.1 *ℤ b.1) i.1)) o.out)),
)

-- ---- kinds

-- for some numbers of the sets, which are of the type, the operator is undefined with the kind
pub record Fails (op : BinOp) (signed : Bool) (width : ℕ) (s t : Shape) (kind : Kind) : Type 0 where
  pub left : ℤ
  pub right : ℤ
  pub has_left : Has s left
  pub has_right : Has t right
  pub is : operated op signed width left right ≡ Err kind

unerr : (k l : Kind) → ◌≡◌ {A = Result ℤ Kind} (Err k) (Err l) → l ≡ k
unerr k l e = cc

-- when `arithmetic` is undefined
pub arithmetic_fails : (width : ℕ) (z : ℤ) (kind : Kind) → (arithmetic true width z ≡ Err kind) ↔ ((kind ≡ SignedOverflow) × Out (least_of true width) (greatest_of true width) z)
arithmetic_fails width z kind = by_test (fits_bits true width z) (λ t. fits_true true width z t) (λ t. falsely t)
  where
    falsely : fits_bits true width z ≡ false → Out (least_of true width) (greatest_of true width) z
    falsely t = by_lt_z z (least_of true width) (λ l. record { out = inl l }) (λ l. by_lt_z (greatest_of true width) z (λ m. record { out = inr m }) (λ m. absurd (clash (fits_bits true width z) (true_fits true width z l m) t)))
      where
        clash : (b : Bool) → b ≡ true → b ≡ false → ⊥
        clash b e f = cc

    by_test : (t : Bool) → (t ≡ true → FitsEnds (least_of true width) (greatest_of true width) z) → (t ≡ false → Out (least_of true width) (greatest_of true width) z) →
        (◌≡◌ {A = Result ℤ Kind} (cond t (Ok z) (Err SignedOverflow)) (Err kind)) ↔ ((kind ≡ SignedOverflow) × Out (least_of true width) (greatest_of true width) z)
    by_test true f g = ((λ e. cc), (λ o. absurd (not_out (least_of true width) (greatest_of true width) z (f refl) o.1)))
    by_test false f g = ((λ e. (unerr SignedOverflow kind e, g refl)), (λ o. ap Err (sym o.0)))

pub never_fails : (width : ℕ) (z : ℤ) (kind : Kind) → arithmetic false width z ≡ Err kind → ⊥
never_fails width z kind e = clash (sym (unsigned_result width z) ∙ e)
  where
    clash : ◌≡◌ {A = Result ℤ Kind} (Ok (pos (residue (2 ^ width) z))) (Err kind) → ⊥
    clash e = cc

-- when a quotient, and with it a remainder, is undefined
pub record Undivided (signed : Bool) (width : ℕ) (x y : ℤ) (kind : Kind) : Type 0 where
  pub why : ((kind ≡ DivisionByZero) × (y ≡ pos 0)) ⊎ ((kind ≡ SignedOverflow) × (is_zero y ≡ false) × Out (least_of signed width) (greatest_of signed width) (int_div x y))

not_fits : (signed : Bool) (width : ℕ) (z : ℤ) → fits_bits signed width z ≡ false → Out (least_of signed width) (greatest_of signed width) z
not_fits signed width z t = by_lt_z z (least_of signed width) (λ l. record { out = inl l }) (λ l. by_lt_z (greatest_of signed width) z (λ m. record { out = inr m }) (λ m. absurd (clash (fits_bits signed width z) (true_fits signed width z l m) t)))
  where
    clash : (b : Bool) → b ≡ true → b ≡ false → ⊥
    clash b e f = cc

fits_not : (signed : Bool) (width : ℕ) (z : ℤ) → Out (least_of signed width) (greatest_of signed width) z → fits_bits signed width z ≡ false
fits_not signed width z o = by (fits_bits signed width z) (λ t. not_out (least_of signed width) (greatest_of signed width) z (fits_true signed width z t) o)
  where
    by : (b : Bool) → (b ≡ true → ⊥) → b ≡ false
    by true f = absurd (f refl)
    by false f = refl

divided : (signed : Bool) (width : ℕ) (x y r : ℤ) (kind : Kind) →
    (◌≡◌ {A = Result ℤ Kind} (cond (is_zero y) (Err DivisionByZero) (cond (fits_bits signed width (int_div x y)) (Ok r) (Err SignedOverflow))) (Err kind)) ↔ Undivided signed width x y kind
divided signed width x y r kind = by_tests (is_zero y) (fits_bits signed width (int_div x y)) refl refl
  where
    zeroed : (k : ℤ) → k ≡ pos 0 → is_zero k ≡ true
    zeroed k e = subst (λ z. is_zero z ≡ true) (sym e) refl

    clash : (b : Bool) → b ≡ true → b ≡ false → ⊥
    clash b e f = cc

    by_tests : (s t : Bool) → is_zero y ≡ s → fits_bits signed width (int_div x y) ≡ t →
        (◌≡◌ {A = Result ℤ Kind} (cond s (Err DivisionByZero) (cond t (Ok r) (Err SignedOverflow))) (Err kind)) ↔ Undivided signed width x y kind
    by_tests true t z f = (
      (λ e. record { why = inl (unerr DivisionByZero kind e, zero_is y z) }),
      (λ u. elim u.why [ inl p ↦ ap Err (sym p.0) | inr p ↦ absurd (clash (is_zero y) z p.1) ]),
    )
    by_tests false true z f = (
      (λ e. cc),
      (λ u. elim u.why [ inl p ↦ absurd (clash (is_zero y) (zeroed y p.1) z) | inr p ↦ absurd (not_out (least_of signed width) (greatest_of signed width) (int_div x y) (fits_true signed width (int_div x y) f) p.2) ]),
    )
    by_tests false false z f = (
      (λ e. record { why = inr (unerr SignedOverflow kind e, z, not_fits signed width (int_div x y) f) }),
      (λ u. elim u.why [ inl p ↦ absurd (clash (is_zero y) (zeroed y p.1) z) | inr p ↦ ap Err (sym p.0) ]),
    )

-- only the least number divided by -1 leaves a signed type, and no quotient an unsigned one
pub record LeastByMinus (signed : Bool) (width : ℕ) (x y : ℤ) : Type 0 where
  pub sign : signed ≡ true
  pub least : x ≡ least_of true width
  pub minus : y ≡ negsuc 0

small_quotient : (a b : ℕ) → suc a / suc (suc b) ≤ a
small_quotient a b =
    let l : suc a * 2 ≤ suc a * suc (suc b) = mul-le (suc a) 2 (suc a) (suc (suc b)) (omega arith) (omega arith) in
    let h : suc a / suc (suc b) < suc a = div_below (suc a) (suc (suc b)) (suc a) (omega arith) (omega arith) in
    omega arith

inside : (lo hi : ℤ) (q : ℤ) (R : Type 0) → lo ≤ℤ q → q ≤ℤ hi → Out lo hi q → R
inside lo hi q R h k o = absurd (not_out lo hi q (record { above = h; below = k }) o)

quotient_leaves : (signed : Bool) (width : ℕ) (x y : ℤ) → IsWidth width → FitsBits signed width x → FitsBits signed width y → is_zero y ≡ false → Out (least_of signed width) (greatest_of signed width) (int_div x y) → LeastByMinus signed width x y
quotient_leaves false width (pos a) (pos b) w f g z o =
    let c = f.greatest in let d = div-le_self a b in
    inside (pos 0) (pos (2 ^ width - 1)) (pos (a / b)) (LeastByMinus false width (pos a) (pos b)) (omega (arith, ints)) (omega (arith, ints)) o
quotient_leaves false width (pos a) (negsuc b) w f g z o = let c = g.least in absurd (omega (arith, ints))
quotient_leaves false width (negsuc a) y w f g z o = let c = f.least in absurd (omega (arith, ints))
quotient_leaves true width (pos a) (pos b) w f g z o =
    let c = f.greatest in let d = div-le_self a b in
    inside (least_of true width) (greatest_of true width) (pos (a / b)) (LeastByMinus true width (pos a) (pos b)) (omega (arith, ints)) (omega (arith, ints)) o
quotient_leaves true width (pos a) (negsuc b) w f g z o =
    let c = f.greatest in let d = div-le_self a (suc b) in let p = pow_pos (width - 1) in
    inside (least_of true width) (greatest_of true width) (neg_ℤ (pos (a / suc b))) (LeastByMinus true width (pos a) (negsuc b)) (omega (arith, ints)) (omega (arith, ints)) o
quotient_leaves true width (negsuc a) (pos b) w f g z o =
    let c = f.least in let d = div-le_self (suc a) b in let p = pow_pos (width - 1) in
    inside (least_of true width) (greatest_of true width) (neg_ℤ (pos (suc a / b))) (LeastByMinus true width (negsuc a) (pos b)) (omega (arith, ints)) (omega (arith, ints)) o
quotient_leaves true width (negsuc a) (negsuc (suc b)) w f g z o =
    let c = f.least in let d = small_quotient a b in let p = pow_pos (width - 1) in
    inside (least_of true width) (greatest_of true width) (pos (suc a / suc (suc b))) (LeastByMinus true width (negsuc a) (negsuc (suc b))) (omega (arith, ints)) (omega (arith, ints)) o
quotient_leaves true width (negsuc a) (negsuc zero) w f g z o = by_lt_z (greatest_of true width) (pos (suc a / 1))
    (λ l. let c = f.least in let d = div-le_self (suc a) 1 in let p = pow_pos (width - 1) in record { sign = refl; least = omega (arith, ints); minus = refl })
    (λ l. inside (least_of true width) (greatest_of true width) (pos (suc a / 1)) (LeastByMinus true width (negsuc a) (negsuc zero)) (omega (arith, ints)) l o)

least_leaves : (width : ℕ) → Out (least_of true width) (greatest_of true width) (int_div (least_of true width) (negsuc 0))
least_leaves width =
    let p = pow_pos (width - 1) in
    let d : suc (2 ^ (width - 1) - 1) / 1 ≡ suc (2 ^ (width - 1) - 1) = div-one (suc (2 ^ (width - 1) - 1)) in
    record { out = inr (omega (arith, ints)) }

-- which kind sets hold which kinds
pub kind_set-allows : (nought overflow : Bool) (kind : Kind) → IsTrue (allowed (kind_set nought overflow) kind) ↔ (((nought ≡ true) × (kind ≡ DivisionByZero)) ⊎ ((overflow ≡ true) × (kind ≡ SignedOverflow)))
kind_set-allows nought overflow kind = by_tests nought overflow
  where
    nothing : IsTrue (allowed no_kinds kind) → ⊥
    nothing e = clash (allowed no_kinds kind) e (no_kinds-allow kind)
      where
        clash : (b : Bool) → b ≡ true → b ≡ false → ⊥
        clash b e f = cc

    of_nought : (nought : Bool) → IsTrue (allowed (cond nought (with_kind no_kinds DivisionByZero) no_kinds) kind) ↔ ((nought ≡ true) × (kind ≡ DivisionByZero))
    of_nought true =
        let k = with_kind-allows no_kinds DivisionByZero kind in
        ((λ h. elim (k.0 h) [ inl n ↦ absurd (nothing n) | inr e ↦ (refl, e) ]), (λ p. k.1 (inr p.1)))
    of_nought false = ((λ h. absurd (nothing h)), (λ p. cc))

    by_tests : (nought overflow : Bool) → IsTrue (allowed (kind_set nought overflow) kind) ↔ (((nought ≡ true) × (kind ≡ DivisionByZero)) ⊎ ((overflow ≡ true) × (kind ≡ SignedOverflow)))
    by_tests nought true =
        let z = of_nought nought in
        let k = with_kind-allows (cond nought (with_kind no_kinds DivisionByZero) no_kinds) SignedOverflow kind in
        ((λ h. elim (k.0 h) [ inl n ↦ inl (z.0 n) | inr e ↦ inr (refl, e) ]), (λ p. elim p [ inl n ↦ k.1 (inl (z.1 n)) | inr e ↦ k.1 (inr e.1) ]))
    by_tests nought false = let z = of_nought nought in ((λ h. inl (z.0 h)), (λ p. elim p [ inl n ↦ z.1 n | inr e ↦ cc ]))

and_true : (x y : Bool) → (x && y) ≡ true → (x ≡ true) × (y ≡ true)
and_true true true e = (refl, refl)
and_true true false e = cc
and_true false y e = cc

true_and : (x y : Bool) → x ≡ true → y ≡ true → (x && y) ≡ true
true_and x y e f = ap (λ b. b && y) e ∙ f

-- the negated numbers of a set, and back
turn_sum : (x y : ℤ) → x +ℤ neg_ℤ y ≡ x -ℤ y
turn_sum x y = refl

-- where an operator with this result is undefined
pub whole_fails : (f : ℤ → ℤ → ℤ) (op : BinOp) (signed : Bool) (width : ℕ) (s t : Shape) (leaves : Bool) (kind : Kind) →
    ((x y : ℤ) → operated op signed width x y ≡ arithmetic signed width (f x y)) →
    (IsTrue leaves ↔ SomeOut f (least_of true width) (greatest_of true width) s t) →
    (((signed && leaves) ≡ true) × (kind ≡ SignedOverflow)) ↔ Fails op signed width s t kind
whole_fails f op true width s t leaves kind same h = (
  (λ p. let o = h.0 p.0 in record { left = o.left; right = o.right; has_left = o.has_left; has_right = o.has_right; is = same o.left o.right ∙ (arithmetic_fails width (f o.left o.right) kind).1 (p.1, o.out) }),
  (λ k. let r = (arithmetic_fails width (f k.left k.right) kind).0 (sym (same k.left k.right) ∙ k.is) in
      (h.1 (record { left = k.left; right = k.right; has_left = k.has_left; has_right = k.has_right; out = r.1 }), r.0)),
)
whole_fails f op false width s t leaves kind same h = (
  (λ p. cc),
  (λ k. absurd (never_fails width (f k.left k.right) kind (sym (same k.left k.right) ∙ k.is))),
)

some_held : (s : Shape) (b : Option (ℤ × ℤ)) → BoundsAre s b → holds_some b ≡ true → (n : ℤ) × Has s n
some_held s None h e = cc
some_held s (Some b) h e = (b.0, h.first)

held_some : (s : Shape) (b : Option (ℤ × ℤ)) (n : ℤ) → BoundsAre s b → Has s n → holds_some b ≡ true
held_some s None n h m = absurd (h n m)
held_some s (Some b) n h m = refl

-- where a quotient of the numbers of two sets is undefined
pub divided_fails : (op : BinOp) (signed : Bool) (width : ℕ) (s t : Shape) (kind : Kind) → IsWidth width → Word signed width s → Word signed width t →
    ((x y : ℤ) → (operated op signed width x y ≡ Err kind) ↔ Undivided signed width x y kind) →
    ((((holds_some (bounds_of s) && holds_number t (pos 0)) ≡ true) × (kind ≡ DivisionByZero)) ⊎ (((signed && (holds_number s (least_of true width) && holds_number t (negsuc 0))) ≡ true) × (kind ≡ SignedOverflow)))
    ↔ Fails op signed width s t kind
divided_fails op signed width s t kind w a b same = (
  (λ p. elim p [
    | inl q ↦
        let r = and_true (holds_some (bounds_of s)) (holds_number t (pos 0)) q.0 in
        let n = some_held s (bounds_of s) (bounds_are s a.valid) r.0 in
        record { left = n.0; right = pos 0; has_left = n.1; has_right = number_held t (pos 0) r.1; is = (same n.0 (pos 0)).1 (record { why = inl (q.1, refl) }) }
    | inr q ↦ overflow q.0 q.1
  ]),
  (λ k. elim ((same k.left k.right).0 k.is).why [
    | inl q ↦ inl (true_and (holds_some (bounds_of s)) (holds_number t (pos 0)) (held_some s (bounds_of s) k.left (bounds_are s a.valid) k.has_left) (held_number t (pos 0) (subst (Has t) q.1 k.has_right)), q.0)
    | inr q ↦
        let l = quotient_leaves signed width k.left k.right w (a.typed.fits k.left k.has_left) (b.typed.fits k.right k.has_right) q.1 q.2 in
        inr (
          true_and signed (holds_number s (least_of true width) && holds_number t (negsuc 0)) l.sign
              (true_and (holds_number s (least_of true width)) (holds_number t (negsuc 0)) (held_number s (least_of true width) (subst (Has s) l.least k.has_left)) (held_number t (negsuc 0) (subst (Has t) l.minus k.has_right))),
          q.0,
        )
  ]),
)
  where
    overflow : (signed && (holds_number s (least_of true width) && holds_number t (negsuc 0))) ≡ true → kind ≡ SignedOverflow → Fails op signed width s t kind
    overflow e i =
        let r = and_true signed (holds_number s (least_of true width) && holds_number t (negsuc 0)) e in
        let u = and_true (holds_number s (least_of true width)) (holds_number t (negsuc 0)) r.1 in
        record {
          left = least_of true width;
          right = negsuc 0;
          has_left = number_held s (least_of true width) u.0;
          has_right = number_held t (negsuc 0) u.1;
          is = (same (least_of true width) (negsuc 0)).1 (record { why = inr (i, refl, subst (λ b. Out (least_of b width) (greatest_of b width) (int_div (least_of true width) (negsuc 0))) (sym r.0) (least_leaves width)) });
        }

both : {P Q R : Type 0} → (P ↔ Q) → (Q ↔ R) → P ↔ R
both h k = ((λ p. k.0 (h.0 p)), (λ r. h.1 (k.1 r)))

-- the numbers of a set, negated
pub record Negatives (t u : Shape) : Type 0 where
  pub onto : (n : ℤ) → Has t n → Has u (neg_ℤ n)
  pub back : (n : ℤ) → Has u n → Has t (neg_ℤ n)

pub negatives : (t : Shape) → IsValid t → ((n : ℤ) → Has t n → IsNumber n) → Negatives t (all_changed Negative t)
negatives t v h =
    let x = all_changed-exactly Negative t tt v (λ n i. number_negated n (h n i)) in
    record {
      onto = λ n i. x.holds (neg_ℤ n) (record { from = n; has = i; is = refl });
      back = λ n i. let k = x.only n i in subst (Has t) (twice n k.from k.is) k.has;
    }
  where
    twice : (n m : ℤ) → n ≡ neg_ℤ m → m ≡ neg_ℤ n
    twice n m e = omega (arith, ints)

turn_twice : (x y : ℤ) → x +ℤ y ≡ x -ℤ neg_ℤ y
turn_twice x y = omega (arith, ints)

differences_out : (lo hi : ℤ) (s t : Shape) → Negatives t (all_changed Negative t) → SomeOut (λ x y. x +ℤ y) lo hi s (all_changed Negative t) ↔ SomeOut (λ x y. x -ℤ y) lo hi s t
differences_out lo hi s t n = (
  (λ o. record { left = o.left; right = neg_ℤ o.right; has_left = o.has_left; has_right = n.back o.right o.has_right; out = subst (Out lo hi) (turn_twice o.left o.right) o.out }),
  (λ o. record { left = o.left; right = neg_ℤ o.right; has_left = o.has_left; has_right = n.onto o.right o.has_right; out = o.out }),
)

only_overflow : {P Q R : Type 0} → (P ↔ Q) → ((false ≡ true) × R) ⊎ P ↔ Q
only_overflow h = ((λ p. elim p [ inl f ↦ cc | inr k ↦ h.0 k ]), (λ q. inr (h.1 q)))

-- the kinds of an operator on two sets of numbers of a type
pub kinds-allow : (op : BinOp) (signed : Bool) (width : ℕ) (s t : Shape) (kind : Kind) → IsArithmetic op → IsWidth width → Word signed width s → Word signed width t →
    ((((divides_by_zero op s t) ≡ true) × (kind ≡ DivisionByZero)) ⊎ (((signed && overflows op width s t) ≡ true) × (kind ≡ SignedOverflow))) ↔ Fails op signed width s t kind
kinds-allow Add signed width s t kind i w a b =
    only_overflow (whole_fails (λ x y. x +ℤ y) Add signed width s t (overflows Add width s t) kind (λ x y. refl)
    (sums_out (least_of true width) (greatest_of true width) s t (bounds_of s) (bounds_of t) (bounds_are s a.valid) (bounds_are t b.valid)))
kinds-allow Sub signed width s t kind i w a b =
    let n = negated_operand signed width t w b.valid b.typed in
    only_overflow (whole_fails (λ x y. x -ℤ y) Sub signed width s t (overflows Sub width s t) kind (λ x y. refl)
    (both (sums_out (least_of true width) (greatest_of true width) s (all_changed Negative t) (bounds_of s) (bounds_of (all_changed Negative t)) (bounds_are s a.valid) (bounds_are (all_changed Negative t) n.valid))
    (differences_out (least_of true width) (greatest_of true width) s t (negatives t b.valid (λ z h. operand_number z (fits_operand signed width z w.some w.room (b.typed.fits z h)))))))
kinds-allow Mul signed width s t kind i w a b =
    only_overflow (whole_fails (λ x y. x *ℤ y) Mul signed width s t (overflows Mul width s t) kind (λ x y. refl)
    (products_out (least_of true width) (greatest_of true width) s t (bounds_of s) (bounds_of t) (bounds_are s a.valid) (bounds_are t b.valid)))
kinds-allow Div signed width s t kind i w a b = divided_fails Div signed width s t kind w a b (λ x y. divided signed width x y (int_div x y) kind)
kinds-allow Rem signed width s t kind i w a b = divided_fails Rem signed width s t kind w a b (λ x y. divided signed width x y (int_rem x y) kind)
kinds-allow op signed width s t kind i w a b = absurd i

pub kinds-are : (op : BinOp) (signed : Bool) (width : ℕ) (s t : Shape) (kind : Kind) → IsArithmetic op → IsWidth width → Word signed width s → Word signed width t →
    IsTrue (allowed (kinds op signed width s t) kind) ↔ Fails op signed width s t kind
kinds-are op signed width s t kind i w a b = both (kind_set-allows (divides_by_zero op s t) (signed && overflows op width s t) kind) (kinds-allow op signed width s t kind i w a b)
