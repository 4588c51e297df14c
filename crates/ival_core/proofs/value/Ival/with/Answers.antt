use Rattle.std.specs.Int.{w128}
use Rattle.std.specs.Prelude.{FitsSigned}
use Rattle.std.proofs.lemmas.Int.{to_z-of_z}
use Rattle.ival_core.proofs.Joins.{with_run_of}
use Rattle.ival_core.proofs.value.Ival.with.Goals as goal

pub returns-in-Many : goal.returns-in-Many
returns-in-Many c =
    let f : FitsSigned w128 c.args.x = c.ranges.x in
    with_run_of c.args.self c.with_run.result c.in-Many.run' c.args.x c.in-Many.is (simp to_z-of_z at c.with_run.ensures)
