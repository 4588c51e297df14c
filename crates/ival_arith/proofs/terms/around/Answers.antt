use Rattle.std.proofs.Common.{rules, pos, FitsSigned}
use Rattle.ival_arith.proofs.terms.around.Goals as goal
use Rattle.std.proofs.Common.{FitsSigned, refl, ◌∙◌, arith}
use Rattle.std.specs.Int.{w128}
use Rattle.std.proofs.lemmas.Int.{ints, to_z-of_z}
use Rattle.ival_arith.proofs.Codes.{same_run}
use Rattle.ival_arith.proofs.TermCodes.{around_is}

-- src/terms.rt:74:1
pub returns : goal.returns
returns c =
    let f : FitsSigned w128 c.low_of.result = record { sfits = c.low_of.type_inv } in
    let h = c.requires in
    let g : FitsSigned w128 (pos c.args.m) = omega (arith, ints) in
    c.run_from.ensures.value ∙ same_run _ _ _ _ 1 1 (to_z-of_z w128 c.low_of.result f) (search rules) refl
    ∙ around_is c.args.natural c.args.m c.low_of.result (pos c.args.m) c.low_of.ensures.value refl
