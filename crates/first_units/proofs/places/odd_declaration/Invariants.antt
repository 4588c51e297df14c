use Rattle.std.proofs.Common.{length}
use Rattle.first_units.proofs.places.odd_declaration.Given as goal

abbrev pub decreases-declaring : goal.decreases-declaring
decreases-declaring l = length l.rest
