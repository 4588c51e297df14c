use Rattle.std.proofs.Common.{arith, rules, refl}
use Rattle.stepper_values.proofs.Cells.{cells-next, cells-done}
use Rattle.stepper_values.proofs.value.cells_from.Goals as goal

pub loop-index-preserved : goal.loop-index-preserved
loop-index-preserved c =
    cells-next _ c.args.bases.now c.in_ok-own.own c.loop-index.cells c.push.new.self c.loop-index.index c.args.bits c.loop-index.rest _ c.piece_of-piece.result
    (omega arith) c.loop-index.invariant (search rules) refl (search rules) (search rules)

pub returns : goal.returns
returns c = cells-done _ c.args.bases.now c.loop-index.cells c.loop-index.index c.args.bits c.loop-index.rest (omega arith) c.loop-index.invariant
