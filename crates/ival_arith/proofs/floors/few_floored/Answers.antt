use Rattle.std.proofs.Common.{map, slice_index_or, pos, FitsSigned, ap, ◌∙◌, rules}
use Rattle.std.specs.Int.{w128}
use Rattle.std.proofs.lemmas.Int.{to_z-of_z}
use Rattle.c_base.specs.Operators.{floor}
use Rattle.ival_core.specs.Joined.{with_number}
use Rattle.ival_core.proofs.Ends.{Among-at}
use Rattle.ival_core.proofs.Insertion.{AllNumbers-among}
use Rattle.ival_arith.specs.Pieces.{gathered}
use Rattle.ival_arith.proofs.Codes.{step_with, with_end, gathered_start}
use Rattle.ival_arith.proofs.floors.few_floored.Goals as goal

pub loop-n-init : goal.loop-n-init
loop-n-init c = gathered_start c.empty-all.result.shape (map (λ n. floor n c.args.d) c.args.few.now) c.empty-all.ensures.value

pub floor-requires-clause-number : goal.floor-requires-clause-number
floor-requires-clause-number c =
    let f : FitsSigned w128 (slice_index_or c.args.few.now c.loop-n.n-index (pos 0)) = search rules in
    simp to_z-of_z (AllNumbers-among c.args.few.now c.requires.numbers (slice_index_or c.args.few.now c.loop-n.n-index (pos 0)) (Among-at c.args.few.now c.loop-n.n-index (pos 0) c.loop-n-test.true))

pub loop-n-preserved : goal.loop-n-preserved
loop-n-preserved c =
    let f : FitsSigned w128 (slice_index_or c.args.few.now c.loop-n.n-index (pos 0)) = search rules in
    let g : FitsSigned w128 c.floor.result = search rules in
    step_with (λ n. floor n c.args.d) c.args.few.now c.loop-n.n-index (pos 0) c.loop-n.all.shape c.with-all.result.shape (gathered (map (λ n. floor n c.args.d) c.args.few.now)) c.loop-n-test.true c.loop-n.invariant
    ((simp to_z-of_z at c.with-all.ensures) ∙ ap (with_number c.loop-n.all.shape) (simp to_z-of_z at c.floor.ensures.value))

pub returns : goal.returns
returns c = with_end (λ n. floor n c.args.d) c.args.few.now c.loop-n.n-index c.loop-n.all.shape (gathered (map (λ n. floor n c.args.d) c.args.few.now)) c.loop-n-test.false c.loop-n.invariant
