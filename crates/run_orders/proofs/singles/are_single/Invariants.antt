use Rattle.std.proofs.Common.{◌≡◌, ◌-◌, drop, length}
use Rattle.cell_runs.specs.Runs.{elements}
use Rattle.run_orders.specs.Singles.{all_single}
use Rattle.run_orders.proofs.singles.are_single.Given as goal

abbrev pub invariant-loop-i : goal.invariant-loop-i
invariant-loop-i g l = all_single (g.S.Singles.single l.by) (elements (drop l.i l.runs)) ≡ all_single (g.S.Singles.single l.by) (elements l.runs)

abbrev pub decreases-loop-i : goal.decreases-loop-i
decreases-loop-i g l = length l.runs - l.i
