use Rattle.std.proofs.Common.{◌≡◌, ◌+◌, arith}
use Rattle.stepper_memory.proofs.Written.{writes_next, writes_done, fresh_before}
use Rattle.stepper_memory.proofs.cells.write_cells.Goals as goal

pub loop-cell-preserved : goal.loop-cell-preserved
loop-cell-preserved c =
    let i = c.loop-cell.invariant in
    let from : c.loop-cell.at ≡ c.args.first + c.loop-cell.cell-index = i.0 in (
      omega arith,
      (
        writes_next c.args.now c.args.cells.now c.args.first c.args.new.now c.loop-cell.cells c.put.new.cells c.loop-cell.at c.loop-cell.cell-index c.cell-item.result
            c.in_ok-fresh.field-0 (omega arith) c.cell-item.is c.in_ok-fresh.ensures c.in_ok-put.ensures.done i.1.0,
        λ before. c.in_ok-put.ensures.times c.args.now (fresh_before c.args.now c.cell-item.result c.in_ok-fresh.field-0 c.in_ok-fresh.ensures) (i.1.1 before),
      ),
    )

pub returns-clause-done : goal.returns-clause-done
returns-clause-done c =
    writes_done c.args.now c.args.cells.now c.args.first c.args.new.now c.loop-cell.cells c.loop-cell.at c.loop-cell.cell-index (omega arith) c.loop-cell.invariant.1.0
