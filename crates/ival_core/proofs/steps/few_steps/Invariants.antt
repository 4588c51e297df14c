use Rattle.std.proofs.Common.{◌≡◌}
use Rattle.ival_core.specs.Sets.{steps_from}
use Rattle.ival_core.proofs.steps.few_steps.Given as goal

abbrev pub invariant-loop-k : goal.invariant-loop-k
invariant-loop-k l = l.few.items ≡ steps_from l.first l.stride l.k
