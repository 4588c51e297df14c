use Rattle.std.proofs.Common.{◌≡◌, ◌/◌, ◌%◌, ap, ◌∙◌}
use Rattle.std.proofs.lemmas.Int.{to_z-of_z}
use Rattle.c_base.specs.Integers.{residue}
use Rattle.ival_core.proofs.Runs.{number_fits}
use Rattle.ival_arith.specs.Pieces.{cycle}
use Rattle.ival_core.proofs.RunShapes.{steps_to}
use Rattle.ival_arith.proofs.values.run_residues.Goals as goal

pub returns : goal.returns
returns c =
    let p = c.args.run in
    let m = c.args.m in
    let a = number_fits p.low c.requires.run.first in
    let b = number_fits p.high c.requires.run.last in
    let e : c.residue.result ≡ residue m p.low = simp to_z-of_z at c.residue.ensures.value in
    let d = steps_to p.low p.high p.stride c.abs_diff.result (simp to_z-of_z at c.abs_diff.ensures) in
    c.cycle.ensures ∙ ap (λ x. cycle m x (p.stride % m) (c.abs_diff.result / p.stride)) e ∙ ap (cycle m (residue m p.low) (p.stride % m)) d
