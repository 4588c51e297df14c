use Rattle.std.proofs.Common.{◌≡◌, ◌≤◌, drop, length}
use Rattle.cell_laws.specs.Access.{loaded_all}
use Rattle.offmap.proofs.map.OffMap.load_all.Given as goal

abbrev pub invariant-loop-i : goal.invariant-loop-i
invariant-loop-i g l = record {
  cell : l.cell ≡ loaded_all g.C.Cells.ops l.self (drop l.i l.offsets) l.bits;
  inside : l.i ≤ length l.offsets;
}

abbrev pub decreases-loop-i : goal.decreases-loop-i
decreases-loop-i g l = l.i
