use Rattle.std.proofs.Common.{rules, pos, get_or}
use Rattle.std.specs.Int.{w128}
use Rattle.std.specs.Prelude.{FitsSigned}
use Rattle.std.proofs.lemmas.Int.{to_z-of_z}
use Rattle.ival_core.proofs.Hulls.{Spans-all, Spans-next}
use Rattle.ival_core.proofs.hull.hull_of.Goals as goal

pub loop-number-preserved : goal.loop-number-preserved
loop-number-preserved c =
    let f : FitsSigned w128 (get_or c.args.numbers.now c.loop-number.number-index (pos 0)) = search rules in
    Spans-next c.args.numbers.now c.loop-number.number-index (pos 0) _ _ _ c.loop-number-test.true c.loop-number.invariant (simp to_z-of_z at c.of.ensures) c.hull-run.ensures

pub returns : goal.returns
returns c = Spans-all c.args.numbers.now c.loop-number.number-index (pos 0) _ c.requires c.loop-number-test.false c.loop-number.invariant
