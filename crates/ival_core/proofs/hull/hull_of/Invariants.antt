use Rattle.std.proofs.Common.{◌≡◌, ◌⊎◌, take, pos, get_or}
use Rattle.ival_core.specs.Sets.{Among}
use Rattle.ival_core.specs.Hulls.{Spans}
use Rattle.ival_core.proofs.hull.hull_of.Given as goal

abbrev pub invariant-loop-number : goal.invariant-loop-number
invariant-loop-number l = Spans (λ n. (n ≡ get_or l.numbers 0 (pos 0)) ⊎ Among (take l.number-index l.numbers) n) l.run
