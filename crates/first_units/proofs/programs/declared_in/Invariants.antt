use Rattle.std.proofs.Common.{length}
use Rattle.first_units.proofs.Declaring.{Declares}
use Rattle.first_units.proofs.programs.declared_in.Given as goal

abbrev pub invariant-declaring : goal.invariant-declaring
invariant-declaring l = Declares l.names.items l.index.keys l.items l.rest

abbrev pub decreases-declaring : goal.decreases-declaring
decreases-declaring l = length l.rest
