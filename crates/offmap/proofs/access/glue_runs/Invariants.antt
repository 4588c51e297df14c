use Rattle.std.proofs.Common.{◌≡◌, ◌<◌, drop, length}
use Rattle.cell_runs.specs.Runs.{elements}
use Rattle.offmap.specs.Maps.{piece_of}
use Rattle.offmap.proofs.Gluing.{whole}
use Rattle.offmap.proofs.access.glue_runs.Given as goal

abbrev pub invariant-loop-i : goal.invariant-loop-i
invariant-loop-i g l = record {
  whole : piece_of l.piece ≡ whole g.C.Cells.ops (elements (drop l.i l.runs));
  inside : l.i < length l.runs;
}

abbrev pub decreases-loop-i : goal.decreases-loop-i
decreases-loop-i g l = l.i
