use Rattle.std.proofs.Common.{rules}
use Rattle.std.specs.Int.{w128}
use Rattle.std.specs.Prelude.{FitsSigned}
use Rattle.std.proofs.lemmas.Int.{to_z-of_z}
use Rattle.ival_core.proofs.Hulls.{IsHull-from}
use Rattle.ival_core.proofs.value.Progression.hull.Goals as goal

pub returns : goal.returns
returns c =
    let f : FitsSigned w128 c.args.self.low = search rules in
    let g : FitsSigned w128 c.args.self.high = search rules in
    let h : FitsSigned w128 c.args.other.low = search rules in
    let k : FitsSigned w128 c.args.other.high = search rules in
    let m : FitsSigned w128 c.min.result = search rules in
    let n : FitsSigned w128 c.max.result = search rules in
    simp to_z-of_z (IsHull-from c.args.self c.args.other _ _ _ _ _ (simp to_z-of_z at c.min.ensures.value) (simp to_z-of_z at c.max.ensures.value) c.gcd-strides.ensures (simp to_z-of_z at c.abs_diff.ensures) c.gcd.ensures)
