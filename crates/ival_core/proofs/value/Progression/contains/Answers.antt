use Rattle.std.proofs.Common.{arith, ◌≤ℤ◌}
use Rattle.std.specs.Int.{w128}
use Rattle.std.specs.Prelude.{FitsSigned}
use Rattle.std.proofs.lemmas.Int.{to_z-of_z, ints}
use Rattle.ival_core.proofs.Runs.{number_fits, Steps-tested}
use Rattle.ival_core.proofs.value.Progression.contains.Goals as goal

pub returns : goal.returns
returns c =
    let f : FitsSigned w128 c.args.n = c.ranges.n in
    let g : FitsSigned w128 c.args.self.now.low = number_fits _ c.requires.first in
    let k : FitsSigned w128 c.args.self.now.high = number_fits _ c.requires.last in
    let above : c.args.self.now.low ≤ℤ c.args.n = omega (arith, ints) in
    let below : c.args.n ≤ℤ c.args.self.now.high = omega (arith, ints) in
    Steps-tested c.args.self.now c.args.n c.abs_diff.result above below (simp to_z-of_z at c.abs_diff.ensures)
