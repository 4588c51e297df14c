use Rattle.std.proofs.Common.{◌≡◌, ◌*◌, ap, ◌∙◌, ◌^◌, pos, FitsSigned}
use Rattle.std.specs.Prelude.{◌*ℤ◌}
use Rattle.std.specs.Int.{w128}
use Rattle.std.proofs.lemmas.Int.{to_z-of_z}
use Rattle.c_base.specs.Integers.{residue}
use Rattle.aops_pointers.specs.Moves.{summed}
use Rattle.aops_pointers.proofs.Lone.{number_is}
use Rattle.aops_pointers.proofs.singles.moved_number.Goals as goal

pub returns-clause-value : goal.returns-clause-value
returns-clause-value c =
    let f = c.ranges.n in
    let g = c.ranges.count in
    let k : FitsSigned w128 c.summed.result = record { sfits = c.summed.type_inv } in
    let w = c.power-words.result in
    let s : w ≡ 2 ^ c.pointer_bits.result = c.power-words.ensures.value in
    let d : c.residue-here.result ≡ residue w c.args.n = simp to_z-of_z at c.residue-here.ensures.value in
    let e : c.step_of-step.result ≡ residue w (c.args.count *ℤ pos c.args.size) = simp to_z-of_z at c.step_of-step.ensures.value in
    let i : c.residue.result ≡ residue w c.summed.result = simp to_z-of_z at c.residue.ensures.value in
    let h : c.residue.result ≡ residue w (summed c.args.back (pos c.residue-here.result) (pos c.step_of-step.result)) = i ∙ ap (residue w) c.summed.ensures in
    number_is c.args.m c.args.back c.args.size c.args.n c.args.count w c.residue-here.result c.step_of-step.result c.residue.result (s ∙ ap (λ b. 2 ^ b) c.pointer_bits.ensures.value) d e h
