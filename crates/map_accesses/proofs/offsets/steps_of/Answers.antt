use Rattle.std.proofs.Common.{◌≡◌, ◌<◌, ◌^◌, ◌-ℤ◌, ℕ, FitsSigned, arith}
use Rattle.std.specs.Prelude.{unsigned_abs}
use Rattle.std.specs.Int.{w128}
use Rattle.std.proofs.lemmas.Int.{to_z-of_z}
use Rattle.ival_core.proofs.Runs.{number_fits}
use Rattle.ival_core.proofs.RunShapes.{steps_to}
use Rattle.map_accesses.proofs.offsets.steps_of.Goals as goal

pub returns-clause-more : goal.returns-clause-more
returns-clause-more c =
    let f = number_fits c.args.run.low c.requires.long.first in
    let h = number_fits c.args.run.high c.requires.long.last in
    let d : c.abs_diff.result ≡ unsigned_abs (c.args.run.high -ℤ c.args.run.low) = simp to_z-of_z at c.abs_diff.ensures in
    steps_to c.args.run.low c.args.run.high c.args.run.stride c.abs_diff.result d

pub overflow_cast-result-2 : goal.overflow_cast-result-2
overflow_cast-result-2 c =
    let f = number_fits c.args.run.low c.requires.long.first in
    let h = number_fits c.args.run.high c.requires.long.last in
    let d : c.abs_diff.result ≡ unsigned_abs (c.args.run.high -ℤ c.args.run.low) = simp to_z-of_z at c.abs_diff.ensures in
    let s = steps_to c.args.run.low c.args.run.high c.args.run.stride c.abs_diff.result d in
    let m = c.requires.more in
    omega arith
