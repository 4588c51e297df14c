use Rattle.std.proofs.Common.{◌-◌, ◌/◌, ◌+◌, None, Some, FitsSigned, sym, subst, ap, ◌∙◌, rules, arith}
use Rattle.std.specs.Int.{w128}
use Rattle.std.proofs.lemmas.Int.{to_z-of_z}
use Rattle.c_base.specs.Integers.{FitsBits}
use Rattle.ival_core.specs.declared.value.Ival.{Ival}
use Rattle.ival_core.specs.Sets.{IsNumber}
use Rattle.ival_core.proofs.Runs.{number_fits, Steps-number}
use Rattle.ival_core.proofs.RunShapes.{steps_to}
use Rattle.ival_arith.specs.Exact.{shape_option}
use Rattle.ival_arith.specs.Values.{going_on, number_at, with_outcome, same_results, with_places}
use Rattle.ival_arith.proofs.Words.{fits_operand, operand_number}
use Rattle.ival_arith.proofs.TrialCodes.{place_none, place_some, places_done, run_tried}
use Rattle.ival_arith.proofs.Trying.{place_in}
use Rattle.ival_arith.proofs.divisors.with_places.Goals as goal

pub trying-init : goal.trying-init
trying-init c =
    let g : FitsSigned w128 c.args.x = c.ranges.x in
    let o = c.args.format in
    let count = c.abs_diff.result / c.args.run.stride + 1 in
    simp to_z-of_z
    (ap (λ n. with_places n 0 c.args.part o.signed o.width c.args.x c.args.run 0 c.copy-all.result.shape) (omega arith)
    ∙ ap (λ (v : Ival). with_places count 0 c.args.part o.signed o.width c.args.x c.args.run 0 v.shape) c.copy-all.ensures)

pub number_at-y-requires-clause-number : goal.number_at-y-requires-clause-number
number_at-y-requires-clause-number c =
    let p = c.args.run in
    let a = number_fits p.low c.requires.long.first in
    let b = number_fits p.high c.requires.long.last in
    Steps-number p (number_at p c.trying.at) c.requires.long (place_in p c.abs_diff.result c.trying.at c.requires.long (simp to_z-of_z at c.abs_diff.ensures) c.trying-test.true)

pub with_outcome-requires-clause-right : goal.with_outcome-requires-clause-right
with_outcome-requires-clause-right c =
    let p = c.args.run in
    let o = c.args.format in
    let a = number_fits p.low c.requires.long.first in
    let b = number_fits p.high c.requires.long.last in
    let f : FitsSigned w128 c.number_at-y.result = search rules in
    simp to_z-of_z
    (subst (FitsBits o.signed o.width) (sym c.number_at-y.ensures)
    (c.requires.right (number_at p c.trying.at) (place_in p c.abs_diff.result c.trying.at c.requires.long (simp to_z-of_z at c.abs_diff.ensures) c.trying-test.true)))

pub returns-in-None : goal.returns-in-None
returns-in-None c =
    let p = c.args.run in
    let o = c.args.format in
    let a = number_fits p.low c.requires.long.first in
    let b = number_fits p.high c.requires.long.last in
    let f : FitsSigned w128 c.number_at-y.result = search rules in
    let g : FitsSigned w128 c.args.x = c.ranges.x in
    let count = c.abs_diff.result / p.stride + 1 in
    run_tried c.args.part o.signed o.width c.args.x p count c.args.set.now.shape None (ap (λ k. k + 1) (steps_to p.low p.high p.stride c.abs_diff.result (simp to_z-of_z at c.abs_diff.ensures)))
    (place_none c.args.part o.signed o.width c.args.x p count c.trying.at c.trying.all.shape (with_places count 0 c.args.part o.signed o.width c.args.x p 0 c.args.set.now.shape) c.trying-test.true (simp to_z-of_z at c.trying.invariant)
    (sym (ap shape_option c.in-None.is) ∙ (simp to_z-of_z at c.with_outcome.ensures) ∙ ap (λ y. going_on (count - c.trying.at - 1) (with_outcome c.args.part o.signed o.width c.args.x y c.trying.all.shape)) c.number_at-y.ensures))

pub same_results-requires-clause-left : goal.same_results-requires-clause-left
same_results-requires-clause-left c =
    let o = c.args.format in
    let g : FitsSigned w128 c.args.x = c.ranges.x in
    simp to_z-of_z (operand_number c.args.x (fits_operand o.signed o.width c.args.x o.some o.room c.requires.left))

pub same_results-requires-clause-right : goal.same_results-requires-clause-right
same_results-requires-clause-right c =
    let p = c.args.run in
    let a = number_fits p.low c.requires.long.first in
    let b = number_fits p.high c.requires.long.last in
    let f : FitsSigned w128 c.number_at-y.result = search rules in
    simp to_z-of_z
    (subst IsNumber (sym c.number_at-y.ensures)
    (Steps-number p (number_at p c.trying.at) c.requires.long (place_in p c.abs_diff.result c.trying.at c.requires.long (simp to_z-of_z at c.abs_diff.ensures) c.trying-test.true)))

pub trying-preserved : goal.trying-preserved
trying-preserved c =
    let p = c.args.run in
    let o = c.args.format in
    let f : FitsSigned w128 c.number_at-y.result = search rules in
    let g : FitsSigned w128 c.args.x = c.ranges.x in
    let count = c.abs_diff.result / p.stride + 1 in
    simp to_z-of_z
    (place_some c.args.part o.signed o.width c.args.x p count c.trying.at c.same_results.result c.trying.all.shape c.in-Some.more.shape (with_places count 0 c.args.part o.signed o.width c.args.x p 0 c.args.set.now.shape) c.trying-test.true (simp to_z-of_z at c.trying.invariant)
    (sym (ap shape_option c.in-Some.is) ∙ (simp to_z-of_z at c.with_outcome.ensures) ∙ ap (λ y. going_on (count - c.trying.at - 1) (with_outcome c.args.part o.signed o.width c.args.x y c.trying.all.shape)) c.number_at-y.ensures)
    ((simp to_z-of_z at c.same_results.ensures.value) ∙ ap (λ y. same_results c.args.part c.args.x y p.stride) c.number_at-y.ensures))

pub returns : goal.returns
returns c =
    let p = c.args.run in
    let o = c.args.format in
    let a = number_fits p.low c.requires.long.first in
    let b = number_fits p.high c.requires.long.last in
    let g : FitsSigned w128 c.args.x = c.ranges.x in
    let count = c.abs_diff.result / p.stride + 1 in
    run_tried c.args.part o.signed o.width c.args.x p count c.args.set.now.shape (Some c.trying.all.shape) (ap (λ k. k + 1) (steps_to p.low p.high p.stride c.abs_diff.result (simp to_z-of_z at c.abs_diff.ensures)))
    (places_done c.args.part o.signed o.width c.args.x p count c.trying.at c.trying.all.shape (with_places count 0 c.args.part o.signed o.width c.args.x p 0 c.args.set.now.shape) c.trying-test.false (simp to_z-of_z at c.trying.invariant))
