use Rattle.std.proofs.Common.{ℤ, ◌<ℤ◌, take}
use Rattle.ival_core.specs.Sets.{Among}
use Rattle.ival_core.proofs.lattice.place.Given as goal

abbrev pub invariant-loop-i : goal.invariant-loop-i
invariant-loop-i l = (n : ℤ) → Among (take l.i l.numbers) n → n <ℤ l.x
