use Rattle.std.proofs.Common.{◌-◌}
use Rattle.run_merges.proofs.Allowing.{KnowsTo}
use Rattle.run_merges.proofs.allowed.known_bits.Given as goal

abbrev pub invariant-loop-i : goal.invariant-loop-i
invariant-loop-i g l = KnowsTo g.C.Cells.ops l.bits l.cell l.i l.out.items

abbrev pub decreases-loop-i : goal.decreases-loop-i
decreases-loop-i g l = l.bits - l.i
