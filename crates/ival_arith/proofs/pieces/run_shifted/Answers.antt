use Rattle.std.proofs.Common.{◌+ℤ◌, FitsSigned}
use Rattle.std.specs.Int.{w128}
use Rattle.std.proofs.lemmas.Int.{to_z-of_z}
use Rattle.ival_core.proofs.Runs.{number_fits}
use Rattle.ival_arith.proofs.pieces.run_shifted.Goals as goal

pub returns : goal.returns
returns c =
    let a = number_fits c.args.run.low c.requires.run.first in
    let b = number_fits c.args.run.high c.requires.run.last in
    let k : FitsSigned w128 c.args.k = c.ranges.k in
    let d = number_fits (c.args.run.low +ℤ c.args.k) c.requires.low in
    let e = number_fits (c.args.run.high +ℤ c.args.k) c.requires.high in
    simp to_z-of_z at c.run_from.ensures.value
