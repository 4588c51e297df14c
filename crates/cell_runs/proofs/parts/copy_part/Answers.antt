use Rattle.std.proofs.Common.{◌<◌, ◌+◌, ◌^◌, arith, sym, subst, List}
use Rattle.cell_laws.specs.Elements.{AllFine, width}
use Rattle.cell_runs.specs.declared.runs.Run.{Run}
use Rattle.cell_runs.specs.Runs.{elements, AllSome}
use Rattle.cell_runs.proofs.Taking.{along, fine_at, fine_drop_runs, some_drop, tail_is, width-drop-le, front_fine, front_small, part_copied, part_end}
use Rattle.cell_runs.proofs.parts.copy_part.Goals as goal

pub returns-then-index-runs : goal.returns-then-index-runs
returns-then-index-runs g c =
    part_end g.C.Cells.ops c.args.runs.now c.args.at c.args.n c.locate-index.result.0 c.locate-index.result.1 c.args.out.now.items c.locate-index.ensures (omega arith)

pub drop_run-requires-clause-fine : goal.drop_run-requires-clause-fine
drop_run-requires-clause-fine g c =
    fine_at g.C.Cells.fine c.args.runs.now c.locate-index.result.0 c.index-runs-index.result (omega arith) c.index-runs-index.is c.requires.some c.requires.fine

pub take_runs-requires-clause-fine : goal.take_runs-requires-clause-fine
take_runs-requires-clause-fine g c =
    front_fine g.C.Cells.ops g.C.Cells.fine g.met.C.Cells.part_laws c.new-front.result.items c.deref.result.now c.index-runs-index.result c.locate-index.result.1 c.new-front.ensures.items
    (fine_at g.C.Cells.fine c.args.runs.now c.locate-index.result.0 c.index-runs-index.result (omega arith) c.index-runs-index.is c.requires.some c.requires.fine)
    (along g.C.Cells.ops c.new-front.result.items c.drop_run.new.out.items c.deref.result.now _ c.deref.ensures.value c.in_ok-drop_run.ensures)

pub take_runs-requires-clause-small : goal.take_runs-requires-clause-small
take_runs-requires-clause-small g c =
    front_small g.C.Cells.ops c.args.runs.now c.new-front.result.items c.deref.result.now c.args.at c.locate-index.result.0 c.locate-index.result.1 c.index-runs-index.result c.new-front.ensures.items
    c.locate-index.ensures (omega arith) c.index-runs-index.is c.requires.small
    (along g.C.Cells.ops c.new-front.result.items c.drop_run.new.out.items c.deref.result.now _ c.deref.ensures.value c.in_ok-drop_run.ensures)

pub take_runs-requires-2-clause-some : goal.take_runs-requires-2-clause-some
take_runs-requires-2-clause-some g c =
    subst AllSome (sym (tail_is c.args.runs.now (c.locate-index.result.0 + 1))) (some_drop (c.locate-index.result.0 + 1) c.args.runs.now c.requires.some)

pub take_runs-requires-2-clause-fine : goal.take_runs-requires-2-clause-fine
take_runs-requires-2-clause-fine g c =
    subst (λ (x : List (Run g.row.C.Denot)). AllFine g.C.Cells.fine (elements x)) (sym (tail_is c.args.runs.now (c.locate-index.result.0 + 1)))
    (fine_drop_runs g.C.Cells.fine (c.locate-index.result.0 + 1) c.args.runs.now c.requires.fine)

pub take_runs-requires-2-clause-small : goal.take_runs-requires-2-clause-small
take_runs-requires-2-clause-small g c =
    subst (λ (x : List (Run g.row.C.Denot)). width (elements x) < 2 ^ 64) (sym (tail_is c.args.runs.now (c.locate-index.result.0 + 1)))
    (let w = width-drop-le (c.locate-index.result.0 + 1) c.args.runs.now in let s = c.requires.small in omega arith)

pub returns : goal.returns
returns g c =
    part_copied g.C.Cells.ops c.args.runs.now _ c.args.at c.args.n c.locate-index.result.0 c.locate-index.result.1 c.in_ok-more.more c.in_ok-take_runs.field-0 c.index-runs-index.result
    c.new-front.result.items c.deref.result.now c.args.out.now.items c.take_runs.new.out.items c.take_runs-2.new.out.items (tail_is c.args.runs.now (c.locate-index.result.0 + 1)) c.new-front.ensures.items
    c.requires.some c.locate-index.ensures (omega arith) c.index-runs-index.is
    (along g.C.Cells.ops c.new-front.result.items c.drop_run.new.out.items c.deref.result.now _ c.deref.ensures.value c.in_ok-drop_run.ensures) c.in_ok-more.ensures c.in_ok-take_runs.ensures
