use Rattle.std.proofs.Common.{◌+◌, arith, sym, subst}
use Rattle.cell_runs.specs.Runs.{AllSome}
use Rattle.std.proofs.lemmas.Result.{on_ok_weaker}
use Rattle.cell_runs.proofs.Pushing.{extends-none, extends-along}
use Rattle.cell_runs.proofs.Taking.{fine_at, some_drop, tail_is, located_end, rest_copied}
use Rattle.cell_runs.proofs.parts.copy_rest.Goals as goal

pub returns-then-index-runs : goal.returns-then-index-runs
returns-then-index-runs g c =
    extends-along c.args.out.now.items c.args.out.now.items _ _
    (sym (located_end g.C.Cells.ops c.args.runs.now c.args.n c.locate-index.result.0 c.locate-index.result.1 c.locate-index.ensures (omega arith))) (extends-none c.args.out.now.items)

pub drop_run-requires-clause-fine : goal.drop_run-requires-clause-fine
drop_run-requires-clause-fine g c =
    fine_at g.C.Cells.fine c.args.runs.now c.locate-index.result.0 c.index-runs-index.result (omega arith) c.index-runs-index.is c.requires.some c.requires.fine

pub copy_runs-requires : goal.copy_runs-requires
copy_runs-requires g c =
    record { some = subst AllSome (sym (tail_is c.args.runs.now (c.locate-index.result.0 + 1))) (some_drop (c.locate-index.result.0 + 1) c.args.runs.now c.requires.some) }

pub returns : goal.returns
returns g c =
    on_ok_weaker c.copy_runs.result
    (rest_copied g.C.Cells.ops c.args.runs.now _ c.args.n c.locate-index.result.0 c.locate-index.result.1 c.index-runs-index.result c.args.out.now.items c.drop_run.new.out.items c.copy_runs.new.out.items
    (tail_is c.args.runs.now (c.locate-index.result.0 + 1)) c.requires.some c.locate-index.ensures (omega arith) c.index-runs-index.is c.in_ok-drop_run.ensures) c.copy_runs.ensures
