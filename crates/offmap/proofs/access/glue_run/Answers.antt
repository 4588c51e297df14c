use Rattle.std.proofs.Common.{arith}
use Rattle.cell_runs.specs.Runs.{element_of}
use Rattle.offmap.proofs.Gluing.{glue_step, glue_end}
use Rattle.offmap.proofs.access.glue_run.Goals as goal

pub loop-left-preserved : goal.loop-left-preserved
loop-left-preserved g c =
    glue_step g.C.Cells.ops c.args.count (element_of c.args.run.now) c.args.piece c.loop-left.left c.loop-left.piece c.in_ok-cell.cell (omega arith) c.in_ok-cell.ensures c.loop-left.invariant

pub returns : goal.returns
returns g c = glue_end g.C.Cells.ops c.args.count (element_of c.args.run.now) c.args.piece c.loop-left.left c.loop-left.piece (omega arith) c.loop-left.invariant
