use Rattle.std.proofs.Common.{◌⊎◌, take}
use Rattle.ival_core.specs.Sets.{Among, IsLeast}
use Rattle.ival_core.specs.Ivals.{Holds}
use Rattle.ival_core.proofs.lattice.with_all.Given as goal

abbrev pub invariant-loop-number : goal.invariant-loop-number
invariant-loop-number l = IsLeast (λ n. Holds l.set n ⊎ Among (take l.number-index l.numbers) n) l.all.shape
