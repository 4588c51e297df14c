use Rattle.std.proofs.Common.{◌≡◌, map, slice_index_or, pos, FitsSigned, refl, sym, subst, ap, ◌∙◌, rules}
use Rattle.std.specs.Int.{w128}
use Rattle.std.proofs.lemmas.Int.{to_z-of_z}
use Rattle.ival_core.specs.Sets.{IsNumber}
use Rattle.ival_core.specs.Joined.{with_number}
use Rattle.ival_core.proofs.Ends.{Among-at}
use Rattle.ival_core.proofs.Insertion.{AllNumbers-among}
use Rattle.ival_arith.specs.Pieces.{changed, gathered}
use Rattle.ival_arith.proofs.Parts.{among-map}
use Rattle.ival_arith.proofs.Codes.{step_with, with_end, gathered_start}
use Rattle.ival_arith.proofs.pieces.few_changed.Goals as goal

pub loop-n-init : goal.loop-n-init
loop-n-init c = gathered_start c.empty-all.result.shape (map (changed c.args.change) c.args.few.now) c.empty-all.ensures.value

numbered : (c : goal.After-change_of) → IsNumber (changed c.args.change (slice_index_or c.args.few.now c.loop-n.n-index (pos 0)))
numbered c = AllNumbers-among (map (changed c.args.change) c.args.few.now) c.requires _
    (among-map (changed c.args.change) c.args.few.now _ (record { from = slice_index_or c.args.few.now c.loop-n.n-index (pos 0); has = Among-at c.args.few.now c.loop-n.n-index (pos 0) c.loop-n-test.true; is = refl }))

pub change_of-requires : goal.change_of-requires
change_of-requires c =
    let f : FitsSigned w128 (slice_index_or c.args.few.now c.loop-n.n-index (pos 0)) = search rules in
    simp to_z-of_z (AllNumbers-among (map (changed c.args.change) c.args.few.now) c.requires _
    (among-map (changed c.args.change) c.args.few.now _ (record { from = slice_index_or c.args.few.now c.loop-n.n-index (pos 0); has = Among-at c.args.few.now c.loop-n.n-index (pos 0) c.loop-n-test.true; is = refl })))

pub with-all-requires : goal.with-all-requires
with-all-requires c =
    let f : FitsSigned w128 (slice_index_or c.args.few.now c.loop-n.n-index (pos 0)) = search rules in
    let g : FitsSigned w128 c.change_of.result = search rules in
    let e : c.change_of.result ≡ changed c.args.change (slice_index_or c.args.few.now c.loop-n.n-index (pos 0)) = simp to_z-of_z at c.change_of.ensures in
    simp to_z-of_z (subst IsNumber (sym e) (numbered c))

pub loop-n-preserved : goal.loop-n-preserved
loop-n-preserved c =
    let f : FitsSigned w128 (slice_index_or c.args.few.now c.loop-n.n-index (pos 0)) = search rules in
    let g : FitsSigned w128 c.change_of.result = search rules in
    let e : c.change_of.result ≡ changed c.args.change (slice_index_or c.args.few.now c.loop-n.n-index (pos 0)) = simp to_z-of_z at c.change_of.ensures in
    let h : c.with-all.result.shape ≡ with_number c.loop-n.all.shape c.change_of.result = simp to_z-of_z at c.with-all.ensures in
    step_with (changed c.args.change) c.args.few.now c.loop-n.n-index (pos 0) c.loop-n.all.shape c.with-all.result.shape (gathered (map (changed c.args.change) c.args.few.now)) c.loop-n-test.true c.loop-n.invariant
    (h ∙ ap (with_number c.loop-n.all.shape) e)

pub returns : goal.returns
returns c = with_end (changed c.args.change) c.args.few.now c.loop-n.n-index c.loop-n.all.shape (gathered (map (changed c.args.change) c.args.few.now)) c.loop-n-test.false c.loop-n.invariant
