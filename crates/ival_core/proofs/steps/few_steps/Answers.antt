use Rattle.std.proofs.Common.{◌≡◌, ◌+◌, ◌*◌, ◌+ℤ◌, pos, ◌++◌, ◌∷◌, [], length, ap, sym, ◌∙◌, arith, add-one, lit<, subst}
use Rattle.std.specs.Int.{w128}
use Rattle.std.specs.Prelude.{FitsSigned}
use Rattle.std.proofs.lemmas.Int.{to_z-of_z}
use Rattle.ival_core.specs.Sets.{steps_from, IsSmallSet}
use Rattle.ival_core.proofs.Runs.{length-steps_from, steps_from-suc}
use Rattle.ival_core.proofs.RunShapes.{steps_from-small, step_value}
use Rattle.ival_core.proofs.steps.few_steps.Goals as goal

pub push-requires : goal.push-requires
push-requires c =
    let e : length c.loop-k.few.items ≡ c.loop-k.k = ap length c.loop-k.invariant ∙ length-steps_from _ _ c.loop-k.k in
    (lit< tt, omega arith)

pub loop-k-preserved : goal.loop-k-preserved
loop-k-preserved c =
    let f : FitsSigned w128 c.args.first = c.ranges.first in
    let items : c.loop-k.few.items ≡ steps_from c.args.first c.args.stride c.loop-k.k = simp to_z-of_z at c.loop-k.invariant in
    simp to_z-of_z
    (c.push.ensures.items
    ∙ ap (λ x. c.loop-k.few.items ++ x ∷ []) (step_value c.args.first c.args.stride c.args.more c.loop-k.k c.requires.first c.requires.last c.loop-k-test.true)
    ∙ ap (λ xs. xs ++ (c.args.first +ℤ pos (c.loop-k.k * c.args.stride)) ∷ []) items
    ∙ sym (steps_from-suc c.args.first c.args.stride c.loop-k.k)
    ∙ ap (steps_from c.args.first c.args.stride) (sym (add-one c.loop-k.k)))

pub invariant_of-result : goal.invariant_of-result
invariant_of-result c =
    let f : FitsSigned w128 c.args.first = c.ranges.first in
    let k : c.loop-k.k ≡ c.args.more + 1 = omega arith in
    let items : c.loop-k.few.items ≡ steps_from c.args.first c.args.stride c.loop-k.k = simp to_z-of_z at c.loop-k.invariant in
    record { valid = subst IsSmallSet (sym (items ∙ ap (steps_from c.args.first c.args.stride) k)) (steps_from-small c.args.first c.args.stride c.args.more c.requires.first c.requires.last c.requires.moves c.requires.small) }
