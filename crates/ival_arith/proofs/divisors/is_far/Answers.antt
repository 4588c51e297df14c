use Rattle.std.proofs.Common.{◌≡◌, ◌-ℤ◌, pos, to_z, of_z, FitsSigned, ap, ◌∙◌, rules}
use Rattle.std.specs.Prelude.{unsigned_abs, neg_ℤ, int_lt, ◌||◌}
use Rattle.ival_arith.specs.Values.{is_far}
use Rattle.std.specs.Int.{w128}
use Rattle.std.proofs.lemmas.Int.{to_z-of_z}
use Rattle.ival_arith.proofs.TrialCodes.{size_is, minus_is, size_small}
use Rattle.ival_arith.proofs.divisors.is_far.Goals as goal

pub returns : goal.returns
returns c =
    let f : FitsSigned w128 c.args.x = c.ranges.x in
    let g : FitsSigned w128 c.in-Some.low = search rules in
    let h : FitsSigned w128 c.in-Some.high = search rules in
    let k : c.unsigned_abs-size.result ≡ unsigned_abs c.args.x = simp to_z-of_z at c.unsigned_abs-size.ensures.value in
    let e : c.either.result ≡ (int_lt c.in-Some.low (to_z w128 (of_z w128 (pos 0 -ℤ to_z w128 c.unsigned_abs-size.result))) || int_lt (to_z w128 c.unsigned_abs-size.result) c.in-Some.high) = simp to_z-of_z at c.either.ensures in
    let s = size_small c.args.x c.unsigned_abs-size.result c.requires k in
    e ∙ ap (λ z. int_lt c.in-Some.low z || int_lt (to_z w128 c.unsigned_abs-size.result) c.in-Some.high) (minus_is c.unsigned_abs-size.result s)
    ∙ ap (λ z. int_lt c.in-Some.low (neg_ℤ (pos c.unsigned_abs-size.result)) || int_lt z c.in-Some.high) (size_is c.unsigned_abs-size.result s)
    ∙ ap (λ n. int_lt c.in-Some.low (neg_ℤ (pos n)) || int_lt (pos n) c.in-Some.high) k ∙ ap (is_far c.args.x) c.in-Some.ensures.value
