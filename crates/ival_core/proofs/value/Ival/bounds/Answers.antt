use Rattle.std.specs.Int.{w128}
use Rattle.std.specs.Prelude.{FitsSigned}
use Rattle.std.proofs.lemmas.Int.{to_z-of_z}
use Rattle.ival_core.specs.Sets.{IsLongRun}
use Rattle.ival_core.proofs.Queries.{IsBounds-many, long_run}
use Rattle.ival_core.proofs.Runs.{number_fits}
use Rattle.ival_core.proofs.value.Ival.bounds.Goals as goal

pub returns-in-Many-clause-some : goal.returns-in-Many-clause-some
returns-in-Many-clause-some c =
    let l : IsLongRun c.in-Many.run' = long_run c.args.self.now _ c.in-Many.is in
    let f : FitsSigned w128 c.in-Many.run'.low = number_fits _ l.first in
    let g : FitsSigned w128 c.in-Many.run'.high = number_fits _ l.last in
    simp to_z-of_z (IsBounds-many c.args.self.now _ c.in-Many.is)
