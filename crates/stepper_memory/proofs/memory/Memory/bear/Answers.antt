use Rattle.std.proofs.Common.{◌∙◌, ◌*◌, ap, replicate, Some}
use Rattle.c_memory.specs.Memories.{with_base}
use Rattle.c_memory.specs.Values.{Uninit}
use Rattle.stepper_memory.specs.Views.{plain}
use Rattle.stepper_memory.proofs.Tables.{on_ok}
use Rattle.stepper_memory.proofs.memory.Memory.bear.Goals as goal

pub returns : goal.returns
returns c =
    on_ok c.bear.result
    (λ done. done c.self.inside.deaths ∙ ap (λ m. with_base (plain m) c.args.base (Some (replicate (8 * c.args.bytes) Uninit))) c.self.view_is) c.bear.ensures.done
