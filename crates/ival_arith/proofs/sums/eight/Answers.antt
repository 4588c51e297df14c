use Rattle.std.proofs.Common.{ℕ, ◌*◌, ◌≤◌, ◌^◌, ℤ, pos, ◌+ℤ◌, FitsSigned, refl, ◌∙◌, arith}
use Rattle.std.specs.Int.{w128}
use Rattle.std.proofs.lemmas.Int.{ints, to_z-of_z}
use Rattle.ival_core.specs.Sets.{IsNumber}
use Rattle.ival_arith.proofs.Codes.{same_run}
use Rattle.ival_arith.proofs.SumCodes.{eight_is, further_is, wide}
use Rattle.ival_arith.proofs.sums.eight.Goals as goal

small : (first : ℤ) (k : ℕ) → IsNumber first → IsNumber (first +ℤ pos k) → k ≤ 2 ^ 121
small first k h g = let a = h.least in let b = g.greatest in omega (arith, ints)

pub returns : goal.returns
returns c =
    let f : FitsSigned w128 c.args.first = c.ranges.first in
    let k : 7 * c.args.stride ≤ 2 ^ 121 = small c.args.first (7 * c.args.stride) c.requires.first c.requires.last in
    c.run_from.ensures.value ∙ same_run _ _ _ _ c.args.stride c.args.stride (to_z-of_z w128 c.args.first f) (further_is c.args.first (7 * c.args.stride) (wide c.args.first c.requires.first) k) refl
    ∙ eight_is c.args.first c.args.stride c.requires.moves
