use Rattle.std.proofs.Common.{pos, rules, slice_index_or, take, take_all, ◌+◌, subst, sym, ap, ◌∙◌, refl}
use Rattle.std.specs.Int.{w128}
use Rattle.std.specs.Prelude.{FitsSigned}
use Rattle.std.proofs.lemmas.Int.{to_z-of_z}
use Rattle.ival_core.specs.Ivals.{Holds}
use Rattle.ival_core.proofs.Kept.{Kept, Kept-taken, Kept-left, Kept-small}
use Rattle.ival_core.proofs.Decisions.{untrue}
use Rattle.ival_core.proofs.meeting.common.Goals as goal
use Rattle.ival_core.proofs.meeting.common.Goals.{then-contains, else-contains}

pub loop-number-preserved : goal.loop-number-preserved
loop-number-preserved c =
    let f : FitsSigned w128 (slice_index_or c.args.numbers.now c.loop-number.number-index (pos 0)) = search rules in
    elim c.if-contains.branch [
      | then-contains w ↦
          subst (Kept (Holds c.args.set.now) (take (c.loop-number.number-index + 1) c.args.numbers.now)) (sym (ap (λ v. v.items) w.few-is ∙ (simp to_z-of_z at w.push.ensures.items)))
          (Kept-taken (Holds c.args.set.now) c.args.numbers.now c.loop-number.few.items c.loop-number.number-index (pos 0) c.loop-number-test.true c.requires.ascending c.loop-number.invariant ((simp to_z-of_z at w.if-contains.ensures).0 refl))
      | else-contains w ↦
          subst (Kept (Holds c.args.set.now) (take (c.loop-number.number-index + 1) c.args.numbers.now)) (sym (ap (λ v. v.items) w.few-is))
          (Kept-left (Holds c.args.set.now) c.args.numbers.now c.loop-number.few.items c.loop-number.number-index (pos 0) c.loop-number-test.true c.loop-number.invariant (λ p. untrue ((simp to_z-of_z at w.if-contains.ensures).1 p)))
    ]

pub invariant_of-result : goal.invariant_of-result
invariant_of-result c = record {
  valid = Kept-small (Holds c.args.set.now) c.args.numbers.now c.loop-number.few.items c.requires
      (subst (λ l. Kept (Holds c.args.set.now) l c.loop-number.few.items) (take_all c.loop-number.number-index c.args.numbers.now c.loop-number-test.false) c.loop-number.invariant);
}
