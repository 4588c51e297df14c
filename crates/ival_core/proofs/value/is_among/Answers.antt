use Rattle.std.proofs.Common.{◌≡◌, pos, rules, refl, sym, subst, ap, ◌∙◌, slice_index_or, inl, inr}
use Rattle.std.specs.Int.{w128}
use Rattle.std.specs.Prelude.{FitsSigned}
use Rattle.std.proofs.lemmas.Int.{to_z-of_z}
use mir.Val.{of_z}
use Rattle.ival_core.specs.Sets.{Among}
use Rattle.ival_core.proofs.Counting.{Among-take_more}
use Rattle.ival_core.proofs.Ends.{Among-at}
use Rattle.ival_core.proofs.Runs.{same_bits}
use Rattle.ival_core.proofs.value.is_among.Goals as goal

pub returns-then-number-n : goal.returns-then-number-n
returns-then-number-n c =
    let f : FitsSigned w128 c.args.n = c.ranges.n in
    let g : FitsSigned w128 (slice_index_or c.args.numbers.now c.loop-number.number-index (pos 0)) = search rules in
    let e : slice_index_or c.args.numbers.now c.loop-number.number-index (pos 0) ≡ c.args.n = same_bits _ _ g f c.if-number-n.true in
    ((λ _. subst (Among c.args.numbers.now) e (Among-at c.args.numbers.now c.loop-number.number-index (pos 0) c.loop-number-test.true)), (λ _. refl))

pub loop-number-preserved : goal.loop-number-preserved
loop-number-preserved c m =
    let f : FitsSigned w128 c.args.n = c.ranges.n in
    elim (Among-take_more c.args.numbers.now c.loop-number.number-index (pos 0) _ c.loop-number-test.true m) [
      | inl a ↦ c.loop-number.invariant a
      | inr e ↦ c.if-number-n.false (ap (of_z w128) (sym e) ∙ simp to_z-of_z)
    ]
