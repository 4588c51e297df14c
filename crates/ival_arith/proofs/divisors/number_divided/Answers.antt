use Rattle.std.proofs.Common.{◌≡◌, pos, to_z, FitsSigned, ap, ◌∙◌, subst}
use Rattle.std.specs.Prelude.{neg_ℤ, unsigned_abs}
use Rattle.std.specs.Int.{w128}
use Rattle.std.proofs.lemmas.Int.{to_z-of_z}
use Rattle.ival_core.specs.declared.value.Shape.{Shape}
use Rattle.ival_core.specs.Sets.{Has}
use Rattle.ival_arith.specs.Pieces.{clipped}
use Rattle.ival_arith.specs.Exact.{shape_option}
use Rattle.ival_arith.proofs.Words.{fits_operand, operand_number}
use Rattle.ival_arith.proofs.TrialCodes.{size_is, minus_is, size_small, number_divided_by}
use Rattle.ival_arith.proofs.Trying.{near_typed}
use Rattle.ival_arith.proofs.divisors.number_divided.Goals as goal

near_is : (c : goal.After-near-1) → c.clipped-near.result.shape ≡ clipped (neg_ℤ (pos (unsigned_abs c.args.x))) (pos (unsigned_abs c.args.x)) c.args.divisors.now.shape
near_is c =
    let o = c.args.format in
    let f : FitsSigned w128 c.args.x = c.ranges.x in
    let i = operand_number c.args.x (fits_operand o.signed o.width c.args.x o.some o.room c.requires.left) in
    let d = c.args.divisors.now.shape in
    let k : c.unsigned_abs-size.result ≡ unsigned_abs c.args.x = simp to_z-of_z at c.unsigned_abs-size.ensures.value in
    let s = size_small c.args.x c.unsigned_abs-size.result i k in
    c.clipped-near.ensures ∙ ap (λ z. clipped z (to_z w128 c.unsigned_abs-size.result) d) (minus_is c.unsigned_abs-size.result s) ∙ ap (λ z. clipped (neg_ℤ (pos c.unsigned_abs-size.result)) z d) (size_is c.unsigned_abs-size.result s)
    ∙ ap (λ n. clipped (neg_ℤ (pos n)) (pos n) d) k

pub with_divisors-requires-clause-right : goal.with_divisors-requires-clause-right
with_divisors-requires-clause-right c =
    let o = c.args.format in
    let d = c.args.divisors.now in
    let i = operand_number c.args.x (fits_operand o.signed o.width c.args.x o.some o.room c.requires.left) in
    record { fits = λ n h. near_typed o.signed o.width d.shape c.args.x d.valid (record { fits = c.requires.right.fits }) i n (subst (λ (s : Shape). Has s n) (near_is c) h) }

pub returns : goal.returns
returns c =
    let o = c.args.format in
    let f : FitsSigned w128 c.args.x = c.ranges.x in
    let i = operand_number c.args.x (fits_operand o.signed o.width c.args.x o.some o.room c.requires.left) in
    let d = c.args.divisors.now.shape in
    let k : c.unsigned_abs-size.result ≡ unsigned_abs c.args.x = simp to_z-of_z at c.unsigned_abs-size.ensures.value in
    let s = size_small c.args.x c.unsigned_abs-size.result i k in
    number_divided_by c.args.part o.signed o.width d c.args.set.now.shape c.clipped-near.result.shape c.with_far-all.result.shape c.args.x (shape_option c.with_divisors.result)
    (c.clipped-near.ensures ∙ ap (λ z. clipped z (to_z w128 c.unsigned_abs-size.result) d) (minus_is c.unsigned_abs-size.result s) ∙ ap (λ z. clipped (neg_ℤ (pos c.unsigned_abs-size.result)) z d) (size_is c.unsigned_abs-size.result s) ∙ ap (λ n. clipped (neg_ℤ (pos n)) (pos n) d) k)
    (simp to_z-of_z at c.with_far-all.ensures) (simp to_z-of_z at c.with_divisors.ensures)
