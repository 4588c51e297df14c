use Rattle.std.proofs.Common.{◌≡◌, ◌/◌, ◌+◌, subst, rules}
use Rattle.std.proofs.lemmas.Int.{to_z-of_z}
use Rattle.ival_core.specs.Sets.{apart, steps_from, Among}
use Rattle.ival_core.proofs.Runs.{number_fits}
use Rattle.ival_core.proofs.RunShapes.{steps_to}
use Rattle.ival_arith.proofs.CrossCodes.{run_lines-some, run_lines-none}
use Rattle.ival_arith.proofs.Trying.{run_lists}
use Rattle.ival_arith.proofs.runs.run_lines.Goals as goal

pub step_lines-requires-clause-factors : goal.step_lines-requires-clause-factors
step_lines-requires-clause-factors c = λ y m.
    let p = c.args.factors in
    let a = number_fits p.low c.requires.long.first in
    let b = number_fits p.high c.requires.long.last in
    let e : c.abs_diff.result / p.stride ≡ apart p.low p.high / p.stride = steps_to p.low p.high p.stride c.abs_diff.result (simp to_z-of_z at c.abs_diff.ensures) in
    c.requires.factors y ((run_lists p c.requires.long).onto y (subst (λ k. Among (steps_from p.low p.stride (k + 1)) y) e m))

pub returns-then-more-lt-MOST : goal.returns-then-more-lt-MOST
returns-then-more-lt-MOST c =
    let o = c.args.format in
    let p = c.args.factors in
    let a = number_fits p.low c.requires.long.first in
    let b = number_fits p.high c.requires.long.last in
    run_lines-some o.signed o.width c.args.run p c.args.set.now.shape c.step_lines.result.shape (c.abs_diff.result / p.stride) (steps_to p.low p.high p.stride c.abs_diff.result (simp to_z-of_z at c.abs_diff.ensures)) c.if-more-lt-MOST.true (search rules)

pub returns-else-more-lt-MOST : goal.returns-else-more-lt-MOST
returns-else-more-lt-MOST c =
    let o = c.args.format in
    let p = c.args.factors in
    let a = number_fits p.low c.requires.long.first in
    let b = number_fits p.high c.requires.long.last in
    run_lines-none o.signed o.width c.args.run p c.args.set.now.shape (c.abs_diff.result / p.stride) (steps_to p.low p.high p.stride c.abs_diff.result (simp to_z-of_z at c.abs_diff.ensures)) c.if-more-lt-MOST.false
