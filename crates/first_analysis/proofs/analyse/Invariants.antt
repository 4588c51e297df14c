use Rattle.std.proofs.Common.{◌≡◌, length}
use Rattle.first_analysis.proofs.analyse.Given as goal

abbrev pub invariant-loop : goal.invariant-loop
invariant-loop l = length l.places.items ≡ l.counter
