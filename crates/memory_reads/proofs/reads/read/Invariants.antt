use Rattle.std.proofs.Common.{◌≡◌, ◌<◌, List, drop, length}
use Rattle.cell_runs.specs.declared.runs.Run.{Run}
use Rattle.avalue.specs.declared.row.Target.{Target}
use Rattle.memory_reads.specs.Reads.{HaveRanges, read}
use Rattle.memory_reads.proofs.reads.read.Given as goal

abbrev pub invariant-loop-i : goal.invariant-loop-i
invariant-loop-i g l =
    (l.i < length l.places)
    × ((ranges : Target → List (Run g.row.C.Denot)) → HaveRanges l.memory ranges → l.cell ≡ read g.C.Cells.ops l.memory ranges l.bits (drop l.i l.places))

abbrev pub decreases-loop-i : goal.decreases-loop-i
decreases-loop-i g l = l.i
