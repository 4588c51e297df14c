use Rattle.std.proofs.Common.{pos, rules, slice_index_or, inl, inr, subst, sym, refl}
use Rattle.std.specs.Int.{w128}
use Rattle.std.specs.Prelude.{FitsSigned}
use Rattle.std.proofs.lemmas.Int.{to_z-of_z}
use Rattle.ival_core.specs.Ivals.{Holds}
use Rattle.ival_core.proofs.Counting.{Among-take_more}
use Rattle.ival_core.proofs.Ends.{Among-at}
use Rattle.ival_core.proofs.Decisions.{never, untrue}
use Rattle.ival_core.proofs.lattice.all_in.Goals as goal

pub returns-then-not-contains : goal.returns-then-not-contains
returns-then-not-contains c =
    let f : FitsSigned w128 (slice_index_or c.args.numbers.now c.loop-number.number-index (pos 0)) = search rules in
    let missing : Holds c.args.set.now (slice_index_or c.args.numbers.now c.loop-number.number-index (pos 0)) → ⊥ = λ k. untrue ((simp to_z-of_z at c.if-not-contains.ensures).1 k) in
    never _ (λ h. missing (h _ (Among-at c.args.numbers.now c.loop-number.number-index (pos 0) c.loop-number-test.true)))

pub loop-number-preserved : goal.loop-number-preserved
loop-number-preserved c n m =
    let f : FitsSigned w128 (slice_index_or c.args.numbers.now c.loop-number.number-index (pos 0)) = search rules in
    let held : Holds c.args.set.now (slice_index_or c.args.numbers.now c.loop-number.number-index (pos 0)) = (simp to_z-of_z at c.if-not-contains.ensures).0 refl in
    elim (Among-take_more c.args.numbers.now c.loop-number.number-index (pos 0) n c.loop-number-test.true m) [
      | inl a ↦ c.loop-number.invariant n a
      | inr e ↦ subst (Holds c.args.set.now) (sym e) held
    ]
