use Rattle.std.proofs.Common.{length, ◌-◌}
use Rattle.c_lex.proofs.Longest.{Going}
use Rattle.c_lex.proofs.cut.longest_front.Given as goal

abbrev pub invariant-going : goal.invariant-going
invariant-going l = Going l.context l.fresh l.bytes l.next l.state l.found

abbrev pub decreases-going : goal.decreases-going
decreases-going l = length l.bytes - l.next
