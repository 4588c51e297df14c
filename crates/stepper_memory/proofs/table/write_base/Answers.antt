use Rattle.std.proofs.Common.{map, refl, subst, sym}
use Rattle.std.specs.List.{AllByRecursion}
use Rattle.stepper_values.specs.Views.{cell_of}
use Rattle.stepper_memory.specs.Views.{IsBefore}
use Rattle.stepper_memory.proofs.Tables.{written_base, before_back, before_at, on_ok}
use Rattle.stepper_memory.proofs.table.write_base.Goals as goal

pub returns-in_err-grow-clause-times : goal.returns-in_err-grow-clause-times
returns-in_err-grow-clause-times c = c.grow.ensures.times c.args.now

pub returns-clause-done : goal.returns-clause-done
returns-clause-done c =
    on_ok c.write_cells-done.result
    (λ done deaths all.
    written_base deaths c.args.table.now.items c.grow.new.table.items c.take-cells.new.table.items _ c.args.base c.args.first c.take-cells.result
    c.write_cells-done.new.cells (map cell_of c.args.new.now) (c.grow.ensures.same deaths) c.in_ok-grow.ensures.room c.take-cells.ensures.cells
    c.take-cells.ensures.rest refl (done deaths all))
    c.write_cells-done.ensures.done

pub returns-clause-times : goal.returns-clause-times
returns-clause-times c = λ all.
    let grown = c.grow.ensures.times c.args.now all in
    let taken = subst (AllByRecursion (IsBefore c.args.now)) (sym c.take-cells.ensures.cells) (before_at c.args.now c.grow.new.table.items c.args.base grown) in
    before_back c.args.now c.grow.new.table.items c.take-cells.new.table.items _ c.args.base c.write_cells-done.new.cells c.take-cells.ensures.rest refl
    (c.write_cells-done.ensures.times taken) grown
