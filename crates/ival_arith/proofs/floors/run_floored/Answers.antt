use Rattle.std.proofs.Common.{rules, ◌≡◌, ◌≤ℤ◌, FitsSigned}
use Rattle.ival_arith.proofs.floors.run_floored.Goals as goal
use Rattle.std.proofs.Common.{FitsSigned, subst, sym}
use Rattle.std.specs.Int.{w128}
use Rattle.std.proofs.lemmas.Int.{to_z-of_z}
use Rattle.c_base.specs.Operators.{floor}
use Rattle.ival_core.proofs.Runs.{Steps-low}
use Rattle.ival_arith.proofs.Flooring.{floor_order}

-- src/parts.rt:53:5
pub run_from-requires-clause-order : goal.run_from-requires-clause-order
run_from-requires-clause-order c =
    let f : FitsSigned w128 c.floor.result = search rules in
    let g : FitsSigned w128 c.floor-2.result = search rules in
    let h : FitsSigned w128 c.args.run.low = search rules in
    let i : FitsSigned w128 c.args.run.high = search rules in
    let d : c.floor.result ≡ floor c.args.run.low c.args.d = simp to_z-of_z at c.floor.ensures.value in
    let e : c.floor-2.result ≡ floor c.args.run.high c.args.d = simp to_z-of_z at c.floor-2.ensures.value in
    simp to_z-of_z (subst (λ z. z ≤ℤ c.floor-2.result) (sym d) (subst (λ z. floor c.args.run.low c.args.d ≤ℤ z) (sym e) (floor_order c.args.run.low c.args.run.high c.args.d c.requires.divisor.0 (Steps-low c.args.run c.requires.run).below)))
