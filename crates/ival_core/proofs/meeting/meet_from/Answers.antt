use Rattle.std.proofs.Common.{◌≤ℤ◌, ℤ, ◌≡◌, ◌<ℤ◌, arith, rules}
use Rattle.std.specs.Int.{w128, int_min}
use Rattle.std.specs.Prelude.{FitsSigned}
use Rattle.std.proofs.lemmas.Int.{ints, clamps, to_z-of_z}
use Rattle.ival_core.specs.Sets.{Steps}
use Rattle.ival_core.specs.Solutions.{IsFirstCommon}
use Rattle.ival_core.proofs.Meetings.{common_both, below_both, low_above}
use Rattle.ival_core.proofs.Runs.{number_fits}
use Rattle.ival_core.proofs.Decisions.{both_ways, neither}
use Rattle.ival_core.proofs.meeting.meet_from.Goals as goal

pub returns-then-high-upper : goal.returns-then-high-upper
returns-then-high-upper c =
    let f : FitsSigned w128 c.args.upper.high = number_fits _ c.requires.upper.last in
    let g : FitsSigned w128 c.args.lower.high = number_fits _ c.requires.lower.last in
    let h : FitsSigned w128 c.args.upper.low = number_fits _ c.requires.upper.first in
    let e : c.min-high.result ≡ int_min c.args.upper.high c.args.lower.high = simp to_z-of_z at c.min-high.ensures.value in
    let l : c.min-high.result <ℤ c.args.upper.low = omega (arith, ints, clamps) in
    neither _ _ c.empty.ensures.none (λ n p. low_above c.args.upper c.args.lower c.min-high.result n e l p.0 p.1)

pub cycle-requires-clause-first : goal.cycle-requires-clause-first
cycle-requires-clause-first c =
    let f : FitsSigned w128 c.args.upper.high = number_fits _ c.requires.upper.last in
    let g : FitsSigned w128 c.args.lower.high = number_fits _ c.requires.lower.last in
    let first : IsFirstCommon c.args.upper c.args.lower _ c.in-Some.first = c.in-Some.ensures.some in
    let a = first.above in
    let b = first.below in
    record { least = omega (arith, ints, clamps); greatest = omega (arith, ints, clamps) }

pub returns-in-None : goal.returns-in-None
returns-in-None c =
    let f : FitsSigned w128 c.args.upper.high = number_fits _ c.requires.upper.last in
    let g : FitsSigned w128 c.args.lower.high = number_fits _ c.requires.lower.last in
    let h : FitsSigned w128 c.min-high.result = search rules in
    let e : c.min-high.result ≡ int_min c.args.upper.high c.args.lower.high = simp to_z-of_z at c.min-high.ensures.value in
    let apart : (n : ℤ) → n ≤ℤ c.min-high.result → Steps c.args.upper n → Steps c.args.lower n → ⊥ = simp to_z-of_z at c.in-None.ensures.none in
    neither _ _ c.empty-in-None.ensures.none (λ n p. apart n (below_both c.args.upper c.args.lower c.min-high.result n e p.0 p.1) p.0 p.1)

pub returns-in-Some : goal.returns-in-Some
returns-in-Some c =
    let f : FitsSigned w128 c.args.upper.high = number_fits _ c.requires.upper.last in
    let g : FitsSigned w128 c.args.lower.high = number_fits _ c.requires.lower.last in
    let h : FitsSigned w128 c.min-high.result = search rules in
    let k : FitsSigned w128 c.in-Some.first = search rules in
    let e : c.min-high.result ≡ int_min c.args.upper.high c.args.lower.high = simp to_z-of_z at c.min-high.ensures.value in
    both_ways _ _ _ (simp to_z-of_z at c.cycle.ensures)
    (common_both c.args.upper c.args.lower c.in-Some.first c.min-high.result c.requires.order e (simp to_z-of_z at c.in-Some.ensures.some))
