use Rattle.std.proofs.Common.{refl, ◌∙◌}
use Rattle.ival_arith.proofs.Codes.{same_run, negated_is}
use Rattle.ival_arith.proofs.pieces.run_negated.Goals as goal

pub returns : goal.returns
returns c =
    c.run_from.ensures.value ∙ same_run _ _ _ _ c.args.run.stride c.args.run.stride (negated_is c.args.run.high c.requires.last) (negated_is c.args.run.low c.requires.first) refl
