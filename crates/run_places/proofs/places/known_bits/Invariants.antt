use Rattle.run_places.proofs.Knowing.{KnowsOn}
use Rattle.run_places.proofs.places.known_bits.Given as goal

abbrev pub invariant-loop-left : goal.invariant-loop-left
invariant-loop-left g l = KnowsOn g.C.Cells.ops l.runs l.initial.at l.bits l.at l.left l.out.items

abbrev pub decreases-loop-left : goal.decreases-loop-left
decreases-loop-left g l = l.left
