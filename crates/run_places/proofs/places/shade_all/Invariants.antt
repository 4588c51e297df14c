use Rattle.run_places.proofs.Shading.{ShadesOn}
use Rattle.run_places.proofs.places.shade_all.Given as goal

abbrev pub invariant-loop-left : goal.invariant-loop-left
invariant-loop-left g l = ShadesOn g.C.Cells.ops g.C.Cells.fine l.runs l.initial.at l.bits l.cell l.at l.left l.shade

abbrev pub decreases-loop-left : goal.decreases-loop-left
decreases-loop-left g l = l.left
