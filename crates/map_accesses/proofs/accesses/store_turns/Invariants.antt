use Rattle.std.proofs.Common.{◌-◌}
use Rattle.cell_laws.specs.Access.{put}
use Rattle.map_accesses.proofs.Turning.{Turned}
use Rattle.map_accesses.proofs.accesses.store_turns.Given as goal

abbrev pub invariant-loop-done : goal.invariant-loop-done
invariant-loop-done g l = Turned g.C.Cells.ops l.map l.bits l.steps.first l.steps.step l.steps.more (put g.C.Cells.ops l.bits l.cell) l.done l.made

abbrev pub decreases-loop-done : goal.decreases-loop-done
decreases-loop-done g l = l.turns - l.done
