use Rattle.std.proofs.Common.{◌∙◌, ◌*◌, arith, refl, ap, replicate, get_or, Some}
use Rattle.c_memory.specs.Memories.{with_base}
use Rattle.c_memory.specs.Values.{Uninit}
use Rattle.stepper_values.specs.Views.{layout_of}
use Rattle.stepper_memory.specs.Views.{plain}
use Rattle.stepper_accesses.proofs.Births.{born_next, born_done}
use Rattle.stepper_accesses.proofs.scopes.bear.Goals as goal

pub loop-base-preserved : goal.loop-base-preserved
loop-base-preserved c =
    born_next (layout_of c.args.layout.now) c.args.bases.now c.loop-base.base-index _ _ _ _ (omega arith) refl c.loop-base.invariant
    (c.in_ok-bear.ensures ∙ ap (λ o. with_base (plain c.loop-base.memory) (get_or c.args.bases.now c.loop-base.base-index 0) (Some (replicate (8 * o.size) Uninit))) c.object_of.ensures)

pub returns : goal.returns
returns c = born_done (layout_of c.args.layout.now) c.args.bases.now c.loop-base.base-index _ _ (omega arith) c.loop-base.invariant
