use Rattle.std.proofs.Common.{◌∙◌, ap, map, Some}
use Rattle.c_memory.specs.Memories.{with_base}
use Rattle.stepper_values.specs.Views.{cell_of}
use Rattle.stepper_memory.specs.Views.{plain}
use Rattle.stepper_memory.proofs.Tables.{on_ok}
use Rattle.stepper_memory.proofs.memory.Memory.place.Goals as goal

pub returns : goal.returns
returns c =
    on_ok c.place_base.result
    (λ done. done c.self.inside.deaths c.self.invariant.died ∙ ap (λ m. with_base (plain m) c.args.base (Some (map cell_of c.args.new.now))) c.self.view_is)
    c.place_base.ensures.done
