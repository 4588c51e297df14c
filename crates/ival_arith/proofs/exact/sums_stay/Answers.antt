use Rattle.std.proofs.Common.{◌≡◌, ◌^◌, ℤ, pos, ◌+ℤ◌, to_z, of_z, FitsSigned, Some, subst, ap, ◌∙◌, arith}
use Rattle.std.specs.Prelude.{neg_ℤ, ◌≤ℤ◌, ◌<ℤ◌, int_le}
use Rattle.std.specs.Int.{w128}
use Rattle.std.proofs.lemmas.Int.{ints, to_z-of_z}
use Rattle.ival_core.specs.Ivals.{IsBounds}
use Rattle.ival_core.specs.Sets.{IsNumber}
use Rattle.ival_core.proofs.Insertion.{Holds-number}
use Rattle.ival_core.proofs.Orders.{lt_false, le_true, le_false}
use Rattle.ival_core.specs.Views.{bounds_of}
use Rattle.ival_arith.proofs.SumCodes.{sum_is}
use Rattle.ival_arith.proofs.Exacting.{stays_between, leaves_high, stay_else, stay_same}
use Rattle.ival_arith.proofs.exact.sums_stay.Goals as goal

fits : (x y : ℤ) → IsNumber x → IsNumber y → FitsSigned w128 (to_z w128 (of_z w128 x) +ℤ to_z w128 (of_z w128 y))
fits x y h k = let a = h.least in let b = h.greatest in let d = k.least in let e = k.greatest in
    let f : FitsSigned w128 x = omega (arith, ints) in
    let g : FitsSigned w128 y = omega (arith, ints) in
    simp to_z-of_z (omega (arith, ints))

pub overflow_add-result : goal.overflow_add-result
overflow_add-result c =
    let a = c.args.a.now in
    let b = c.args.b.now in
    let h : IsBounds a c.in-Some.low_a c.in-Some.high_a = c.in-Some.ensures.some in
    let k : IsBounds b c.in-Some-bounds.low_b c.in-Some-bounds.high_b = c.in-Some-bounds.ensures.some in
    let e : to_z w128 (of_z w128 (to_z w128 (of_z w128 c.in-Some.low_a) +ℤ to_z w128 (of_z w128 c.in-Some-bounds.low_b))) ≡ c.in-Some.low_a +ℤ c.in-Some-bounds.low_b = sum_is c.in-Some.low_a c.in-Some-bounds.low_b (Holds-number a c.in-Some.low_a h.first) (Holds-number b c.in-Some-bounds.low_b k.first) in
    let f : to_z w128 (of_z w128 (to_z w128 (of_z w128 c.in-Some.high_a) +ℤ to_z w128 (of_z w128 c.in-Some-bounds.high_b))) ≡ c.in-Some.high_a +ℤ c.in-Some-bounds.high_b = sum_is c.in-Some.high_a c.in-Some-bounds.high_b (Holds-number a c.in-Some.high_a h.last) (Holds-number b c.in-Some-bounds.high_b k.last) in
    fits c.in-Some.high_a c.in-Some-bounds.high_b (Holds-number a c.in-Some.high_a h.last) (Holds-number b c.in-Some-bounds.high_b k.last)

pub returns-clause-value : goal.returns-clause-value
returns-clause-value c =
    let a = c.args.a.now in
    let b = c.args.b.now in
    let h : IsBounds a c.in-Some.low_a c.in-Some.high_a = c.in-Some.ensures.some in
    let k : IsBounds b c.in-Some-bounds.low_b c.in-Some-bounds.high_b = c.in-Some-bounds.ensures.some in
    let e : to_z w128 (of_z w128 (to_z w128 (of_z w128 c.in-Some.low_a) +ℤ to_z w128 (of_z w128 c.in-Some-bounds.low_b))) ≡ c.in-Some.low_a +ℤ c.in-Some-bounds.low_b = sum_is c.in-Some.low_a c.in-Some-bounds.low_b (Holds-number a c.in-Some.low_a h.first) (Holds-number b c.in-Some-bounds.low_b k.first) in
    let f : to_z w128 (of_z w128 (to_z w128 (of_z w128 c.in-Some.high_a) +ℤ to_z w128 (of_z w128 c.in-Some-bounds.high_b))) ≡ c.in-Some.high_a +ℤ c.in-Some-bounds.high_b = sum_is c.in-Some.high_a c.in-Some-bounds.high_b (Holds-number a c.in-Some.high_a h.last) (Holds-number b c.in-Some-bounds.high_b k.last) in
    let l : neg_ℤ (pos (2 ^ 120)) ≤ℤ (c.in-Some.low_a +ℤ c.in-Some-bounds.low_b) = subst (λ z. neg_ℤ (pos (2 ^ 120)) ≤ℤ z) e (lt_false _ (neg_ℤ (pos (2 ^ 120))) c.if-low_a-low_b.false) in
    stay_same (bounds_of a.shape) (bounds_of b.shape) (Some (c.in-Some.low_a, c.in-Some.high_a)) (Some (c.in-Some-bounds.low_b, c.in-Some-bounds.high_b)) _ c.in-Some.ensures.value c.in-Some-bounds.ensures.value
    (ap (λ z. int_le z (pos (2 ^ 120))) f ∙ stay_else c.in-Some.low_a c.in-Some.high_a c.in-Some-bounds.low_b c.in-Some-bounds.high_b l)

pub returns-clause-stays : goal.returns-clause-stays
returns-clause-stays c t =
    let a = c.args.a.now in
    let b = c.args.b.now in
    let h : IsBounds a c.in-Some.low_a c.in-Some.high_a = c.in-Some.ensures.some in
    let k : IsBounds b c.in-Some-bounds.low_b c.in-Some-bounds.high_b = c.in-Some-bounds.ensures.some in
    let e : to_z w128 (of_z w128 (to_z w128 (of_z w128 c.in-Some.low_a) +ℤ to_z w128 (of_z w128 c.in-Some-bounds.low_b))) ≡ c.in-Some.low_a +ℤ c.in-Some-bounds.low_b = sum_is c.in-Some.low_a c.in-Some-bounds.low_b (Holds-number a c.in-Some.low_a h.first) (Holds-number b c.in-Some-bounds.low_b k.first) in
    let f : to_z w128 (of_z w128 (to_z w128 (of_z w128 c.in-Some.high_a) +ℤ to_z w128 (of_z w128 c.in-Some-bounds.high_b))) ≡ c.in-Some.high_a +ℤ c.in-Some-bounds.high_b = sum_is c.in-Some.high_a c.in-Some-bounds.high_b (Holds-number a c.in-Some.high_a h.last) (Holds-number b c.in-Some-bounds.high_b k.last) in
    stays_between a b c.in-Some.low_a c.in-Some.high_a c.in-Some-bounds.low_b c.in-Some-bounds.high_b h k
    (subst (λ z. neg_ℤ (pos (2 ^ 120)) ≤ℤ z) e (lt_false _ (neg_ℤ (pos (2 ^ 120))) c.if-low_a-low_b.false))
    (subst (λ z. z ≤ℤ pos (2 ^ 120)) f (le_true _ (pos (2 ^ 120)) t))

pub returns-clause-leaves : goal.returns-clause-leaves
returns-clause-leaves c t =
    let a = c.args.a.now in
    let b = c.args.b.now in
    let h : IsBounds a c.in-Some.low_a c.in-Some.high_a = c.in-Some.ensures.some in
    let k : IsBounds b c.in-Some-bounds.low_b c.in-Some-bounds.high_b = c.in-Some-bounds.ensures.some in
    let e : to_z w128 (of_z w128 (to_z w128 (of_z w128 c.in-Some.low_a) +ℤ to_z w128 (of_z w128 c.in-Some-bounds.low_b))) ≡ c.in-Some.low_a +ℤ c.in-Some-bounds.low_b = sum_is c.in-Some.low_a c.in-Some-bounds.low_b (Holds-number a c.in-Some.low_a h.first) (Holds-number b c.in-Some-bounds.low_b k.first) in
    let f : to_z w128 (of_z w128 (to_z w128 (of_z w128 c.in-Some.high_a) +ℤ to_z w128 (of_z w128 c.in-Some-bounds.high_b))) ≡ c.in-Some.high_a +ℤ c.in-Some-bounds.high_b = sum_is c.in-Some.high_a c.in-Some-bounds.high_b (Holds-number a c.in-Some.high_a h.last) (Holds-number b c.in-Some-bounds.high_b k.last) in
    leaves_high a b c.in-Some.low_a c.in-Some.high_a c.in-Some-bounds.low_b c.in-Some-bounds.high_b h k (subst (λ z. pos (2 ^ 120) <ℤ z) f (le_false _ (pos (2 ^ 120)) t))
