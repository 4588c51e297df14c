use Rattle.std.proofs.Common.{◌-◌, length}
use Rattle.offmap.proofs.Weakening.{WeakensOn}
use Rattle.offmap.proofs.map.OffMap.store_weak.Given as goal

abbrev pub invariant-loop-i : goal.invariant-loop-i
invariant-loop-i g l = WeakensOn g.C.Cells.ops l.self l.offsets l.bits l.cell l.i l.map

abbrev pub decreases-loop-i : goal.decreases-loop-i
decreases-loop-i g l = length l.offsets - l.i
