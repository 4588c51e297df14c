use Rattle.std.proofs.Common.{◌+◌, ◌-◌, length}
use Rattle.run_slots.specs.Walks.{bits_before}
use Rattle.run_slots.proofs.Walking.{WalksOn}
use Rattle.run_slots.proofs.walk.walk.Given as goal

abbrev pub invariant-loop-index : goal.invariant-loop-index
invariant-loop-index g l = WalksOn l.runs (bits_before l.runs l.fn.spot + l.n) l.index l.left

abbrev pub decreases-loop-index : goal.decreases-loop-index
decreases-loop-index g l = length l.runs - l.index
