use Rattle.std.proofs.Common.{◌∙◌, ap, map, take, drop}
use Rattle.c_memory.specs.Memories.{cells_at}
use Rattle.stepper_memory.specs.Putting.{bits_at}
use Rattle.stepper_memory.specs.Views.{plain, seen}
use Rattle.stepper_memory.proofs.Tables.{if_ok, part_at}
use Rattle.stepper_memory.proofs.memory.Memory.read.Goals as goal

pub returns : goal.returns
returns c =
    let deaths = c.self.inside.deaths in
    if_ok c.seen_all.result
    (λ cells e.
    e ∙ ap (λ d. map (seen d) c.front-part.result.now) c.as_slice.ensures
    ∙ ap (map (seen deaths)) (c.front-part.ensures.value ∙ ap (take c.args.count) (c.back.ensures ∙ ap (drop c.args.first) (c.bits.ensures ∙ ap (λ t. bits_at t c.args.base) c.deref.ensures.value)))
    ∙ part_at deaths c.self.inside.table.items c.args.base c.args.first c.args.count
    ∙ ap (λ m. cells_at (plain m) c.args.base c.args.first c.args.count) c.self.view_is)
    c.seen_all.ensures
