use Rattle.std.proofs.Common.{pos, rules, slice_index_or}
use Rattle.std.specs.Int.{w128}
use Rattle.std.specs.Prelude.{FitsSigned}
use Rattle.std.proofs.lemmas.Int.{to_z-of_z}
use Rattle.ival_core.proofs.Ends.{Among-at}
use Rattle.ival_core.proofs.Insertion.{AllNumbers-among}
use Rattle.ival_core.proofs.Joins.{with_next}
use Rattle.ival_core.proofs.lattice.with_all.Goals as goal

pub with-all-requires : goal.with-all-requires
with-all-requires c =
    let f : FitsSigned w128 (slice_index_or c.args.numbers.now c.loop-number.number-index (pos 0)) = search rules in
    simp to_z-of_z (AllNumbers-among c.args.numbers.now c.requires _ (Among-at c.args.numbers.now c.loop-number.number-index (pos 0) c.loop-number-test.true))

pub loop-number-preserved : goal.loop-number-preserved
loop-number-preserved c =
    let f : FitsSigned w128 (slice_index_or c.args.numbers.now c.loop-number.number-index (pos 0)) = search rules in
    with_next c.args.set.now c.loop-number.all c.with-all.result c.args.numbers.now c.loop-number.number-index (pos 0) c.loop-number-test.true c.loop-number.invariant (simp to_z-of_z at c.with-all.ensures)
