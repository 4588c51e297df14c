use Rattle.std.proofs.Common.{pos, rules, ◌<ℤ◌, ◌≤ℤ◌, slice_index_or, arith, inl, inr, subst, sym}
use Rattle.std.specs.Int.{w128}
use Rattle.std.specs.Prelude.{FitsSigned}
use Rattle.std.proofs.lemmas.Int.{ints, to_z-of_z}
use Rattle.ival_core.proofs.Counting.{Among-take_more}
use Rattle.ival_core.proofs.Insertion.{drop_above}
use Rattle.ival_core.proofs.lattice.place.Goals as goal

pub returns-then-x-number-clause-after : goal.returns-then-x-number-clause-after
returns-then-x-number-clause-after c n m =
    let f : FitsSigned w128 c.args.x = c.ranges.x in
    let g : FitsSigned w128 (slice_index_or c.args.numbers.now c.loop-i.i (pos 0)) = search rules in
    let l : c.args.x ≤ℤ slice_index_or c.args.numbers.now c.loop-i.i (pos 0) = omega (arith, ints) in
    drop_above c.args.numbers.now c.loop-i.i (pos 0) c.args.x n c.requires l m

pub loop-i-preserved : goal.loop-i-preserved
loop-i-preserved c n m =
    let f : FitsSigned w128 c.args.x = c.ranges.x in
    let g : FitsSigned w128 (slice_index_or c.args.numbers.now c.loop-i.i (pos 0)) = search rules in
    let l : slice_index_or c.args.numbers.now c.loop-i.i (pos 0) <ℤ c.args.x = omega (arith, ints) in
    elim (Among-take_more c.args.numbers.now c.loop-i.i (pos 0) n c.loop-i-test.true m) [
      | inl a ↦ c.loop-i.invariant n a
      | inr e ↦ simp to_z-of_z (subst (λ z. z <ℤ c.args.x) (sym e) l)
    ]
