use Rattle.std.proofs.Common.{◌-◌, length}
use Rattle.memory_writes.specs.Writes.{weak_all}
use Rattle.memory_writes.proofs.Fitting.{WritesOn}
use Rattle.memory_writes.proofs.writes.write_weak.Given as goal

abbrev pub invariant-loop-i : goal.invariant-loop-i
invariant-loop-i g l = WritesOn g.C.Cells.ops g.C.Cells.fine g.met.C.Cells.fine_laws g.met.C.Cells.order_laws g.met.C.Cells.join_laws g.met.C.Cells.part_laws l.bits l.cell l.places (weak_all g.C.Cells.ops l.bits l.cell l.places l.memory) l.i l.made

abbrev pub decreases-loop-i : goal.decreases-loop-i
decreases-loop-i g l = length l.places - l.i
