use Rattle.std.proofs.Common.{take}
use Rattle.ival_core.specs.Sets.{Among}
use Rattle.ival_core.proofs.value.is_among.Given as goal

abbrev pub invariant-loop-number : goal.invariant-loop-number
invariant-loop-number l = Among (take l.number-index l.numbers) l.n → ⊥
