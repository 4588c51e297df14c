use Rattle.std.proofs.Common.{◌<ℤ◌, ◌≤ℤ◌, arith, sym, ◌∙◌, rules}
use Rattle.std.specs.Int.{w128}
use Rattle.std.specs.Prelude.{FitsSigned}
use Rattle.std.proofs.lemmas.Int.{ints, to_z-of_z}
use Rattle.ival_core.proofs.Remainders.{range_numbers, range_none, ranged-none, ranged-run}
use Rattle.ival_core.proofs.Decisions.{both_ways, neither}
use Rattle.ival_core.proofs.value.Ival.range.Goals as goal

pub returns-then-hi-first-clause-value : goal.returns-then-hi-first-clause-value
returns-then-hi-first-clause-value c =
    let f : FitsSigned w128 c.args.lo = c.ranges.lo in
    let g : FitsSigned w128 c.args.modulus = c.ranges.modulus in
    let h : FitsSigned w128 c.args.rem = c.ranges.rem in
    let m : FitsSigned w128 c.first_at-first.result = search rules in
    let l : c.args.hi <ℤ c.first_at-first.result = omega (arith, ints) in
    c.empty.ensures.value ∙ sym (ranged-none c.args.lo c.args.hi c.args.rem c.args.modulus c.first_at-first.result (simp to_z-of_z at c.first_at-first.ensures.value) l)

pub returns-then-hi-first-clause-numbers : goal.returns-then-hi-first-clause-numbers
returns-then-hi-first-clause-numbers c =
    let f : FitsSigned w128 c.args.lo = c.ranges.lo in
    let g : FitsSigned w128 c.args.modulus = c.ranges.modulus in
    let h : FitsSigned w128 c.args.rem = c.ranges.rem in
    let m : FitsSigned w128 c.first_at-first.result = search rules in
    let l : c.args.hi <ℤ c.first_at-first.result = omega (arith, ints) in
    neither _ _ c.empty.ensures.none (range_none c.args.lo c.args.hi c.args.rem c.args.modulus c.first_at-first.result c.requires (simp to_z-of_z at c.first_at-first.ensures.value) l)

pub returns-clause-value : goal.returns-clause-value
returns-clause-value c =
    let f : FitsSigned w128 c.args.lo = c.ranges.lo in
    let g : FitsSigned w128 c.args.modulus = c.ranges.modulus in
    let h : FitsSigned w128 c.args.rem = c.ranges.rem in
    let k : FitsSigned w128 c.args.hi = c.ranges.hi in
    let m : FitsSigned w128 c.first_at-first.result = search rules in
    let l : c.first_at-first.result ≤ℤ c.args.hi = omega (arith, ints) in
    simp to_z-of_z at c.run_from.ensures.value ∙ sym (ranged-run c.args.lo c.args.hi c.args.rem c.args.modulus c.first_at-first.result (simp to_z-of_z at c.first_at-first.ensures.value) l)

pub returns-clause-numbers : goal.returns-clause-numbers
returns-clause-numbers c =
    let f : FitsSigned w128 c.args.lo = c.ranges.lo in
    let g : FitsSigned w128 c.args.modulus = c.ranges.modulus in
    let h : FitsSigned w128 c.args.rem = c.ranges.rem in
    let k : FitsSigned w128 c.args.hi = c.ranges.hi in
    let m : FitsSigned w128 c.first_at-first.result = search rules in
    both_ways _ _ _ (simp to_z-of_z at c.run_from.ensures.numbers)
    (range_numbers c.args.lo c.args.hi c.args.rem c.args.modulus c.first_at-first.result c.requires (simp to_z-of_z at c.first_at-first.ensures.value))
