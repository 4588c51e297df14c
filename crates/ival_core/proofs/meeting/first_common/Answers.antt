use Rattle.std.proofs.Common.{◌≡◌, ◌≤◌, arith, sym, subst, ◌-ℤ◌, ◌*◌}
use Rattle.std.specs.Int.{w128}
use Rattle.std.specs.Prelude.{FitsSigned, unsigned_abs}
use Rattle.std.proofs.lemmas.Int.{ints, to_z-of_z}
use Rattle.ival_core.specs.Sets.{apart}
use Rattle.ival_core.specs.Solutions.{IsGap, IsFirstCommon}
use Rattle.ival_core.proofs.Meetings.{none_shared, some_shared, stride_small, gap_at, step_to}
use Rattle.ival_core.proofs.Runs.{number_fits}
use Rattle.ival_core.proofs.meeting.first_common.Goals as goal

pub solve-requires-clause-step : goal.solve-requires-clause-step
solve-requires-clause-step c = (c.requires.upper.moves, stride_small c.args.upper c.requires.upper)

pub solve-requires-clause-modulus : goal.solve-requires-clause-modulus
solve-requires-clause-modulus c = stride_small c.args.lower c.requires.lower

pub solve-requires-clause-bound : goal.solve-requires-clause-bound
solve-requires-clause-bound c = let d = c.abs_diff-2.ensures in omega (arith, ints)

pub overflow_cast-result : goal.overflow_cast-result
overflow_cast-result c =
    let d = c.abs_diff-2.ensures in
    let b : c.args.upper.stride * c.in-Some.count ≤ c.abs_diff-2.result = c.in-Some.ensures.1 in
    omega (arith, ints)

pub overflow_add-result : goal.overflow_add-result
overflow_add-result c =
    let d = c.abs_diff-2.ensures in
    let b : c.args.upper.stride * c.in-Some.count ≤ c.abs_diff-2.result = c.in-Some.ensures.1 in
    omega (arith, ints)

pub returns-in-None-clause-none : goal.returns-in-None-clause-none
returns-in-None-clause-none c n l s t =
    let f : FitsSigned w128 c.args.upper.low = number_fits _ c.requires.upper.first in
    let g : FitsSigned w128 c.args.lower.low = number_fits _ c.requires.lower.first in
    let h : FitsSigned w128 c.args.high = c.ranges.high in
    let gap : IsGap (apart c.args.lower.low c.args.upper.low) c.gap_to-gap.result c.args.lower.stride =
    gap_at c.args.upper.low c.args.lower.low c.gap_to-gap.result c.args.lower.stride c.abs_diff.result (simp to_z-of_z at c.abs_diff.ensures) c.gap_to-gap.ensures in
    none_shared c.args.upper c.args.lower c.gap_to-gap.result c.abs_diff-2.result c.args.high n c.requires.lower.moves c.requires.order c.requires.reach gap
    (simp to_z-of_z at c.abs_diff-2.ensures) l c.in-None.ensures s t

pub returns-in-Some-clause-some : goal.returns-in-Some-clause-some
returns-in-Some-clause-some c =
    let f : FitsSigned w128 c.args.upper.low = number_fits _ c.requires.upper.first in
    let g : FitsSigned w128 c.args.lower.low = number_fits _ c.requires.lower.first in
    let h : FitsSigned w128 c.args.high = c.ranges.high in
    let d : c.abs_diff-2.result ≡ unsigned_abs (c.args.high -ℤ c.args.upper.low) = simp to_z-of_z at c.abs_diff-2.ensures in
    let gap : IsGap (apart c.args.lower.low c.args.upper.low) c.gap_to-gap.result c.args.lower.stride =
    gap_at c.args.upper.low c.args.lower.low c.gap_to-gap.result c.args.lower.stride c.abs_diff.result (simp to_z-of_z at c.abs_diff.ensures) c.gap_to-gap.ensures in
    subst (IsFirstCommon c.args.upper c.args.lower c.args.high)
    (sym (step_to c.args.upper.low c.args.high c.args.upper.stride c.in-Some.count c.abs_diff-2.result c.requires.upper.first c.requires.high c.requires.reach d c.in-Some.ensures.1))
    (some_shared c.args.upper c.args.lower c.gap_to-gap.result c.abs_diff-2.result c.in-Some.count c.args.high c.requires.lower.moves c.requires.order c.requires.reach gap d c.in-Some.ensures)
