use Rattle.std.specs.Int.{w128}
use Rattle.std.specs.Prelude.{FitsSigned}
use Rattle.std.proofs.lemmas.Int.{to_z-of_z}
use Rattle.ival_core.proofs.Queries.{Holds-many}
use Rattle.ival_core.proofs.value.Ival.contains.Goals as goal

pub returns-in-Many : goal.returns-in-Many
returns-in-Many c =
    let f : FitsSigned w128 c.args.n = c.ranges.n in
    Holds-many c.args.self.now _ c.args.n _ c.in-Many.is (simp to_z-of_z at c.contains.ensures)
