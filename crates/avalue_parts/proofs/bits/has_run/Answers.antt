use Rattle.std.proofs.Common.{◌≡◌, ◌+◌, true, false, pos, rules, slice_index_or, sym, ◌∙◌}
use Rattle.std.specs.Int.{w128}
use Rattle.std.specs.Prelude.{FitsSigned}
use Rattle.std.proofs.lemmas.Int.{to_z-of_z}
use Rattle.ival_core.proofs.Ends.{Among-at}
use Rattle.ival_core.proofs.Insertion.{AllNumbers-among}
use Rattle.avalue_base.specs.Numbers.{has_all_from}
use Rattle.avalue_parts.proofs.Rows.{any_here, any_next, any_end}
use Rattle.avalue_parts.proofs.bits.has_run.Goals as goal

pub has_all_from-requires-clause-first : goal.has_all_from-requires-clause-first
has_all_from-requires-clause-first c =
    let f : FitsSigned w128 (slice_index_or c.args.starts.now c.loop-first.first-index (pos 0)) = search rules in
    simp to_z-of_z (AllNumbers-among c.args.starts.now c.requires.starts _ (Among-at c.args.starts.now c.loop-first.first-index (pos 0) c.loop-first-test.true))

pub returns-then-has_all_from : goal.returns-then-has_all_from
returns-then-has_all_from c =
    let f : FitsSigned w128 (slice_index_or c.args.starts.now c.loop-first.first-index (pos 0)) = search rules in
    let t : has_all_from c.args.numbers.now.shape (c.args.more + 1) (slice_index_or c.args.starts.now c.loop-first.first-index (pos 0)) ≡ true = sym (simp to_z-of_z at c.has_all_from.ensures) ∙ c.if-has_all_from.true in
    any_here (has_all_from c.args.numbers.now.shape (c.args.more + 1)) c.args.starts.now c.loop-first.first-index (pos 0) c.loop-first-test.true t c.loop-first.invariant

pub loop-first-preserved : goal.loop-first-preserved
loop-first-preserved c =
    let f : FitsSigned w128 (slice_index_or c.args.starts.now c.loop-first.first-index (pos 0)) = search rules in
    let t : has_all_from c.args.numbers.now.shape (c.args.more + 1) (slice_index_or c.args.starts.now c.loop-first.first-index (pos 0)) ≡ false = sym (simp to_z-of_z at c.has_all_from.ensures) ∙ c.if-has_all_from.false in
    any_next (has_all_from c.args.numbers.now.shape (c.args.more + 1)) c.args.starts.now c.loop-first.first-index (pos 0) c.loop-first-test.true t c.loop-first.invariant

pub returns : goal.returns
returns c = any_end (has_all_from c.args.numbers.now.shape (c.args.more + 1)) c.args.starts.now c.loop-first.first-index c.loop-first-test.false c.loop-first.invariant
