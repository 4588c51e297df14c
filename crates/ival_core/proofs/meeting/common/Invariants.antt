use Rattle.std.proofs.Common.{take}
use Rattle.ival_core.specs.Ivals.{Holds}
use Rattle.ival_core.proofs.Kept.{Kept}
use Rattle.ival_core.proofs.meeting.common.Given as goal

abbrev pub invariant-loop-number : goal.invariant-loop-number
invariant-loop-number l = Kept (Holds l.set) (take l.number-index l.numbers) l.few.items
