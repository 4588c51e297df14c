use Rattle.std.proofs.Common.{◌≡◌, [], FitsSigned, ap, ◌∙◌}
use Rattle.std.specs.Int.{w128}
use Rattle.std.proofs.lemmas.Int.{to_z-of_z}
use Rattle.c_base.specs.Operators.{operated}
use Rattle.ival_core.specs.declared.value.Ival.{Ival}
use Rattle.ival_core.specs.Joined.{with_numbers}
use Rattle.ival_arith.specs.Values.{kept, going_on}
use Rattle.ival_arith.proofs.ValueCodes.{in_format}
use Rattle.ival_arith.proofs.Words.{operated_number}
use Rattle.ival_arith.proofs.divisors.with_outcome.Goals as goal

pub with_result-requires : goal.with_result-requires
with_result-requires c =
    let f : FitsSigned w128 c.args.x = c.ranges.x in
    let g : FitsSigned w128 c.args.y = c.ranges.y in
    let o = c.args.format in
    operated_number c.op_of.result o.signed o.width c.args.x c.args.y c.apply_binary-outcome.result o.some o.room c.requires.left
    ((simp to_z-of_z at c.apply_binary-outcome.ensures) ∙ in_format c.op_of.result o.signed o.width o.kind o.machine c.args.x c.args.y o.sign o.bits)

pub returns : goal.returns
returns c =
    let f : FitsSigned w128 c.args.x = c.ranges.x in
    let g : FitsSigned w128 c.args.y = c.ranges.y in
    let o = c.args.format in
    let e : c.apply_binary-outcome.result ≡ operated c.op_of.result o.signed o.width c.args.x c.args.y = (simp to_z-of_z at c.apply_binary-outcome.ensures) ∙ in_format c.op_of.result o.signed o.width o.kind o.machine c.args.x c.args.y o.sign o.bits in
    c.going_on.ensures
    ∙ ap (going_on c.args.left)
    (c.with_result.ensures ∙ ap (λ (v : Ival). with_numbers v.shape (kept c.apply_binary-outcome.result [])) c.copy.ensures
    ∙ ap (λ r. with_numbers c.args.set.now.shape (kept r [])) (e ∙ ap (λ k. operated k o.signed o.width c.args.x c.args.y) c.op_of.ensures))
