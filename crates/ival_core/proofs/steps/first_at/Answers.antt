use Rattle.std.proofs.Common.{◌+ℤ◌, ◌-ℤ◌, ap, arith, rules}
use Rattle.std.specs.Int.{w128}
use Rattle.std.specs.Prelude.{FitsSigned}
use Rattle.std.proofs.lemmas.Int.{ints, to_z-of_z}
use Rattle.ival_core.proofs.steps.first_at.Goals as goal

pub returns-clause-value : goal.returns-clause-value
returns-clause-value c =
    let f : FitsSigned w128 c.args.lo = c.ranges.lo in
    let g : FitsSigned w128 c.args.modulus = c.ranges.modulus in
    let h : FitsSigned w128 c.args.rem = c.ranges.rem in
    let k : FitsSigned w128 (c.args.rem -ℤ c.args.lo) = omega (arith, ints) in
    let m : FitsSigned w128 c.rem_euclid.result = search rules in
    let s : FitsSigned w128 (c.args.lo +ℤ c.rem_euclid.result) = omega (arith, ints) in
    simp to_z-of_z (ap (λ x. c.args.lo +ℤ x) (simp to_z-of_z at c.rem_euclid.ensures.value))

pub returns-clause-above : goal.returns-clause-above
returns-clause-above c = omega (arith, ints)
