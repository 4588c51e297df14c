use Rattle.std.proofs.Common.{◌≡◌, map, slice_index_or, pos, to_z, FitsSigned, ap, ◌∙◌, arith, rules}
use Rattle.std.specs.Int.{w128}
use Rattle.std.proofs.lemmas.Int.{to_z-of_z, to_z_pos}
use Rattle.c_base.specs.Integers.{residue}
use Rattle.ival_core.specs.Joined.{with_number}
use Rattle.ival_arith.specs.Pieces.{gathered}
use Rattle.ival_arith.proofs.Codes.{step_with, with_end, gathered_start}
use Rattle.ival_arith.proofs.values.few_residues.Goals as goal

pub loop-n-init : goal.loop-n-init
loop-n-init c = gathered_start c.empty-all.result.shape (map (λ n. pos (residue c.args.m n)) c.args.few.now) c.empty-all.ensures.value

pub loop-n-preserved : goal.loop-n-preserved
loop-n-preserved c =
    let f : FitsSigned w128 (slice_index_or c.args.few.now c.loop-n.n-index (pos 0)) = search rules in
    let e : c.residue.result ≡ residue c.args.m (slice_index_or c.args.few.now c.loop-n.n-index (pos 0)) = simp to_z-of_z at c.residue.ensures.value in
    let b = c.residue.ensures.below in
    let d : to_z w128 c.residue.result ≡ pos c.residue.result = to_z_pos w128 c.residue.result (omega arith) in
    step_with (λ n. pos (residue c.args.m n)) c.args.few.now c.loop-n.n-index (pos 0) c.loop-n.all.shape c.with-all.result.shape (gathered (map (λ n. pos (residue c.args.m n)) c.args.few.now)) c.loop-n-test.true c.loop-n.invariant
    (c.with-all.ensures ∙ ap (with_number c.loop-n.all.shape) (d ∙ ap pos e))

pub returns : goal.returns
returns c = with_end (λ n. pos (residue c.args.m n)) c.args.few.now c.loop-n.n-index c.loop-n.all.shape (gathered (map (λ n. pos (residue c.args.m n)) c.args.few.now)) c.loop-n-test.false c.loop-n.invariant
