use Rattle.std.proofs.Common.{◌≡◌, ◌∙◌, ◌&&◌, ap, ℕ, false, length, arith, subst}
use Rattle.std.specs.Prelude.{is_some}
use Rattle.std.specs.FinSet.{contains-from_list_nat}
use Rattle.c_memory.specs.Memories as memories
use Rattle.stepper_values.specs.Views.{layout_of, value_of, number_of}
use Rattle.stepper_memory.specs.Views.{plain}
use Rattle.stepper_accesses.proofs.Reaching.{among, found_is, least_done, IsLeast}
use Rattle.stepper_accesses.proofs.reached.reached.Goals as goal

pub returns : goal.returns
returns c =
    let l = layout_of c.args.layout.now in
    let m = plain c.args.memory.now in
    let at = c.args.at.now in
    let p : ℕ → _ = memories.is_reached l m c.args.bytes (value_of at) in
    let others : (n : ℕ) → among at.bases n ≡ false → p n ≡ false =
    λ n e. ap (λ t. t && (is_some (m n) && memories.is_within l c.args.bytes n (number_of at.number))) (contains-from_list_nat at.bases n ∙ e) in
    let all = least_done p (length c.args.layout.now.objects) c.as_slice-base-items.result.now c.loop-base.base-index c.loop-base.found (omega arith) c.loop-base.invariant in
    found_is p (length c.args.layout.now.objects) at.bases others c.loop-base.found
    (subst (λ bs. IsLeast p (length c.args.layout.now.objects) bs c.loop-base.found) c.as_slice-base-items.ensures all)
