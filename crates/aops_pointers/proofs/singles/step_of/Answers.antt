use Rattle.std.proofs.Common.{◌≡◌, ◌*◌, ◌%◌, ap, ◌∙◌}
use Rattle.std.proofs.lemmas.Int.{to_z-of_z}
use Rattle.c_base.specs.Integers.{residue}
use Rattle.aops_pointers.proofs.Lone.{step_is}
use Rattle.aops_pointers.proofs.singles.step_of.Goals as goal

pub returns-clause-value : goal.returns-clause-value
returns-clause-value c =
    let f = c.ranges.count in
    let e : c.residue.result ≡ residue c.args.words c.args.count = simp to_z-of_z at c.residue.ensures.value in
    ap (λ r. r * c.args.size % c.args.words) e ∙ step_is c.args.words c.args.size c.args.count c.requires.modulus.0
