use Rattle.std.proofs.Common.{ℤ, take}
use Rattle.ival_core.specs.Sets.{Among}
use Rattle.ival_core.specs.Ivals.{Holds}
use Rattle.ival_core.proofs.lattice.all_in.Given as goal

abbrev pub invariant-loop-number : goal.invariant-loop-number
invariant-loop-number l = (n : ℤ) → Among (take l.number-index l.numbers) n → Holds l.set n
