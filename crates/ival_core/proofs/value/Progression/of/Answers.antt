use Rattle.std.specs.Int.{w128}
use Rattle.std.specs.Prelude.{FitsSigned}
use Rattle.std.proofs.lemmas.Int.{to_z-of_z}
use Rattle.ival_core.proofs.Hulls.{Spans-one}
use Rattle.ival_core.proofs.value.Progression.of.Goals as goal

pub returns : goal.returns
returns c =
    let f : FitsSigned w128 c.args.n = c.ranges.n in
    simp to_z-of_z (Spans-one c.args.n)
