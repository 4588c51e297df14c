use Rattle.std.proofs.Common.{◌<◌, ◌≤◌, ◌-◌}
use Rattle.run_places.proofs.chunks.period.Given as goal

abbrev pub invariant-loop-n : goal.invariant-loop-n
invariant-loop-n l = record { some : 0 < l.n; most : l.n ≤ l.whole }

abbrev pub decreases-loop-n : goal.decreases-loop-n
decreases-loop-n l = l.whole - l.n
