use Rattle.cell_runs.specs.Runs.{element_of}
use Rattle.offmap.proofs.Gluing.{GluesOn}
use Rattle.offmap.proofs.access.glue_run.Given as goal

abbrev pub invariant-loop-left : goal.invariant-loop-left
invariant-loop-left g l = GluesOn g.C.Cells.ops l.count (element_of l.run) l.initial.piece l.left l.piece

abbrev pub decreases-loop-left : goal.decreases-loop-left
decreases-loop-left g l = l.left
