use Rattle.cell_runs.specs.Runs.{elements}
use Rattle.run_slots.specs.Walks.{bits_before}
use Rattle.run_slots.proofs.Weakening.{EachOn}
use Rattle.run_slots.proofs.slots.weaken_slots.Given as goal

abbrev pub invariant-loop-left : goal.invariant-loop-left
invariant-loop-left g l = EachOn g.C.Cells.ops l.runs (elements l.put) l.slots (bits_before l.runs l.initial.at) l.count l.left l.at l.initial.out.items l.out.items

abbrev pub decreases-loop-left : goal.decreases-loop-left
decreases-loop-left g l = l.left
