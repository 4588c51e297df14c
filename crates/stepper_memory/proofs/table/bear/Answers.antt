use Rattle.std.proofs.Common.{◌∙◌, ◌*◌, ap, replicate, Some}
use Rattle.c_memory.specs.Values.{Uninit}
use Rattle.c_memory.specs.Memories.{with_base}
use Rattle.stepper_memory.specs.Views.{memory_of}
use Rattle.stepper_memory.proofs.Tables.{set_is, before_set}
use Rattle.stepper_memory.proofs.table.bear.Goals as goal

pub returns-in_err-grow-clause-times : goal.returns-in_err-grow-clause-times
returns-in_err-grow-clause-times c = c.grow.ensures.times c.args.now

pub returns-in_err-cells-clause-times : goal.returns-in_err-cells-clause-times
returns-in_err-cells-clause-times c = c.grow.ensures.times c.args.now

pub returns-clause-done : goal.returns-clause-done
returns-clause-done c = λ deaths.
    set_is deaths c.grow.new.table.items c.args.base (Some c.in_ok-cells.cells) c.in_ok-grow.ensures.room
    ∙ ap (λ cs. with_base (memory_of deaths c.grow.new.table.items) c.args.base (Some cs)) (c.in_ok-cells.ensures.cells deaths)
    ∙ ap (λ m. with_base m c.args.base (Some (replicate (8 * c.args.bytes) Uninit))) (c.grow.ensures.same deaths)

pub returns-clause-times : goal.returns-clause-times
returns-clause-times c = λ all.
    before_set c.args.now c.grow.new.table.items c.args.base (Some c.in_ok-cells.cells) c.in_ok-cells.ensures.times (c.grow.ensures.times c.args.now all)
