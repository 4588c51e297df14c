use Rattle.std.proofs.Common.{◌≡◌, ◌-◌, ◌≤◌, ◌++◌}
use Rattle.run_slots.specs.Offsets.{steps_from}
use Rattle.run_slots.proofs.offsets.push_steps.Given as goal

abbrev pub invariant-loop-i : goal.invariant-loop-i
invariant-loop-i l = record { items : l.out.items ≡ l.initial.out.items ++ steps_from l.first l.step l.i; most : l.i ≤ l.count }

abbrev pub decreases-loop-i : goal.decreases-loop-i
decreases-loop-i l = l.count - l.i
