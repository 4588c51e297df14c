use Rattle.std.proofs.Common.{◌∙◌, ap, map, subst, sym, [], Some}
use Rattle.std.specs.List.{AllByRecursion}
use Rattle.c_memory.specs.Memories.{with_base, overwritten}
use Rattle.stepper_values.specs.Views.{cell_of}
use Rattle.stepper_memory.specs.Views.{memory_of, seen, IsBefore}
use Rattle.stepper_memory.proofs.Tables.{set_is, before_set}
use Rattle.stepper_memory.proofs.Written.{over_is}
use Rattle.stepper_memory.proofs.table.place_base.Goals as goal

pub returns-in_err-grow-clause-times : goal.returns-in_err-grow-clause-times
returns-in_err-grow-clause-times c = c.grow.ensures.times c.args.now

pub returns-clause-done : goal.returns-clause-done
returns-clause-done c = λ deaths all.
    set_is deaths c.grow.new.table.items c.args.base (Some c.write_cells.new.cells) c.in_ok-grow.ensures.room
    ∙ ap (λ cs. with_base (memory_of deaths c.grow.new.table.items) c.args.base (Some cs))
    (c.in_ok-write_cells.ensures.done deaths all
    ∙ ap (λ cs. overwritten (map (seen deaths) cs) 0 (map cell_of c.args.new.now)) c.new-cells.ensures ∙ over_is [] 0 (map cell_of c.args.new.now))
    ∙ ap (λ m. with_base m c.args.base (Some (map cell_of c.args.new.now))) (c.grow.ensures.same deaths)

pub returns-clause-times : goal.returns-clause-times
returns-clause-times c = λ all.
    before_set c.args.now c.grow.new.table.items c.args.base (Some c.write_cells.new.cells)
    (c.write_cells.ensures.times (subst (AllByRecursion (IsBefore c.args.now)) (sym c.new-cells.ensures) tt)) (c.grow.ensures.times c.args.now all)
