use Rattle.std.proofs.Common.{◌≡◌, ◌<◌, ◌-◌, ◌+ℤ◌, pos, to_z, of_z, FitsSigned, ap, ◌∙◌, subst, arith, rules}
use Rattle.std.specs.Int.{w128}
use Rattle.std.proofs.lemmas.Int.{to_z-of_z}
use Rattle.ival_core.specs.declared.value.Ival.{Ival}
use Rattle.ival_core.specs.Joined.{joined}
use Rattle.ival_core.specs.Sets.{Among, steps_from}
use Rattle.ival_arith.specs.Values.{lines_onto}
use Rattle.ival_arith.proofs.Words.{fits_operand}
use Rattle.ival_arith.proofs.CrossCodes.{step_lines-none, step_lines-some}
use Rattle.ival_arith.proofs.TrialCodes.{first_step, later_step, next_fits, next_is}
use Rattle.ival_arith.proofs.runs.+step_lines.Goals as goal

pub returns-then-count-eq0 : goal.returns-then-count-eq0
returns-then-count-eq0 t c =
    let o = c.args.format in
    step_lines-none o.signed o.width c.args.set.now.shape c.copy.result.shape c.args.run c.args.factors.low c.args.factors.stride c.args.count c.if-count-eq0.true (ap (λ (v : Ival). v.shape) c.copy.ensures)

pub line-requires-clause-factor : goal.line-requires-clause-factor
line-requires-clause-factor t c =
    let f : FitsSigned w128 c.args.factors.low = search rules in
    let h : 0 < c.args.count = omega (arith, c.if-count-eq0.false) in
    simp to_z-of_z (c.requires.factors c.args.factors.low (first_step c.args.factors.low c.args.factors.stride c.args.count h))

pub overflow_add-rest : goal.overflow_add-rest
overflow_add-rest t c =
    let f : FitsSigned w128 c.args.factors.low = search rules in
    let o = c.args.format in
    let h : 0 < c.args.count = omega (arith, c.if-count-eq0.false) in
    simp to_z-of_z (next_fits c.args.factors.low c.args.factors.stride (fits_operand o.signed o.width c.args.factors.low o.some o.room (c.requires.factors c.args.factors.low (first_step c.args.factors.low c.args.factors.stride c.args.count h))) c.requires.small)

pub step_lines-requires : goal.step_lines-requires
step_lines-requires t c =
    let f : FitsSigned w128 c.args.factors.low = search rules in
    let o = c.args.format in
    let h : 0 < c.args.count = omega (arith, c.if-count-eq0.false) in
    let n = fits_operand o.signed o.width c.args.factors.low o.some o.room (c.requires.factors c.args.factors.low (first_step c.args.factors.low c.args.factors.stride c.args.count h)) in
    let e : to_z w128 (of_z w128 (to_z w128 (of_z w128 c.args.factors.low) +ℤ to_z w128 c.args.factors.stride)) ≡ c.args.factors.low +ℤ pos c.args.factors.stride = ap (λ z. to_z w128 (of_z w128 (z +ℤ to_z w128 c.args.factors.stride))) (to_z-of_z w128 c.args.factors.low f) ∙ next_is c.args.factors.low c.args.factors.stride n c.requires.small in
    (search rules, (c.requires.run, (c.requires.low, (c.requires.high, ((λ y m. c.requires.factors y (later_step c.args.factors.low y c.args.factors.stride c.args.count h (subst (λ z. Among (steps_from z c.args.factors.stride (c.args.count - 1)) y) e m))), c.requires.small)))))

pub returns : goal.returns
returns t c =
    let f : FitsSigned w128 c.args.factors.low = search rules in
    let o = c.args.format in
    let h : 0 < c.args.count = omega (arith, c.if-count-eq0.false) in
    let n = fits_operand o.signed o.width c.args.factors.low o.some o.room (c.requires.factors c.args.factors.low (first_step c.args.factors.low c.args.factors.stride c.args.count h)) in
    let e : to_z w128 (of_z w128 (to_z w128 (of_z w128 c.args.factors.low) +ℤ to_z w128 c.args.factors.stride)) ≡ c.args.factors.low +ℤ pos c.args.factors.stride = ap (λ z. to_z w128 (of_z w128 (z +ℤ to_z w128 c.args.factors.stride))) (to_z-of_z w128 c.args.factors.low f) ∙ next_is c.args.factors.low c.args.factors.stride n c.requires.small in
    step_lines-some o.signed o.width c.args.set.now.shape c.join-more.result.shape c.step_lines.result.shape c.args.run c.args.factors.low c.args.factors.stride c.args.count h
    (c.join-more.ensures ∙ ap (joined c.args.set.now.shape) (simp to_z-of_z at c.line.ensures))
    (c.step_lines.ensures ∙ ap (λ z. lines_onto o.signed o.width c.join-more.result.shape c.args.run (steps_from z c.args.factors.stride (c.args.count - 1))) e)
