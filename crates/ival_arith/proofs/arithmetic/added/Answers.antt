use Rattle.std.proofs.Common.{◌^◌, ap, ◌∙◌}
use Rattle.std.proofs.lemmas.Int.{to_z-of_z}
use Rattle.ival_core.proofs.Runs.{number_fits}
use Rattle.ival_arith.specs.Values.{residues}
use Rattle.ival_arith.proofs.TableCodes.{added_signed, added_unsigned, sums_ends}
use Rattle.ival_arith.proofs.Words.{operand_number}
use Rattle.ival_arith.proofs.arithmetic.added.Goals as goal

pub returns-then-format : goal.returns-then-format
returns-then-format c =
    let o = c.args.format in
    let a = c.args.a.now.shape in
    let b = c.args.b.now.shape in
    let f = number_fits c.least.result (operand_number c.least.result c.least.ensures.within) in
    let g = number_fits c.greatest.result (operand_number c.greatest.result c.greatest.ensures.within) in
    added_signed o.signed o.width a b c.sums.result.shape c.if-format.true ((simp to_z-of_z at c.sums.ensures) ∙ sums_ends _ _ _ _ a b c.least.ensures.value c.greatest.ensures.value)

pub returns-else-format : goal.returns-else-format
returns-else-format c =
    let o = c.args.format in
    added_unsigned o.signed o.width c.args.a.now.shape c.args.b.now.shape c.residues.result.shape c.if-format.false
    (c.residues.ensures ∙ ap (λ m. residues m c.sums-else-format.result.shape) c.power.ensures.value ∙ ap (residues (2 ^ o.width)) c.sums-else-format.ensures)
