use Rattle.std.proofs.Common.{[], FitsSigned, sym, ap, ◌∙◌, rules}
use Rattle.std.specs.Int.{w128}
use Rattle.std.proofs.lemmas.Int.{to_z-of_z}
use Rattle.ival_core.specs.Joined.{with_numbers, with_number}
use Rattle.ival_arith.specs.Values.{kept}
use Rattle.ival_arith.proofs.Codes.{with_one, with_no}
use Rattle.ival_arith.proofs.values.with_result.Goals as goal

pub returns-in-Ok : goal.returns-in-Ok
returns-in-Ok c =
    let f : FitsSigned w128 c.in-Ok.n = search rules in
    (simp to_z-of_z at c.with.ensures) ∙ sym (with_one c.args.all.shape c.in-Ok.n [] ∙ with_no (with_number c.args.all.shape c.in-Ok.n)) ∙ ap (λ r. with_numbers c.args.all.shape (kept r [])) (sym c.in-Ok.is)

pub returns-in-Err : goal.returns-in-Err
returns-in-Err c = sym (with_no c.args.all.shape) ∙ ap (λ r. with_numbers c.args.all.shape (kept r [])) (sym c.in-Err.is)
