use Rattle.std.proofs.Common.{arith, sym, ◌∙◌}
use Rattle.cell_runs.proofs.Taking.{fine_at}
use Rattle.run_orders.proofs.Alone.{single_step, single_stop, single_end}
use Rattle.run_orders.proofs.singles.are_single.Goals as goal

pub is_single-requires : goal.is_single-requires
is_single-requires g c = record { fine = fine_at g.C.Cells.fine c.args.runs.now c.loop-i.i c.index-runs-i.result c.loop-i-test.true c.index-runs-i.is c.requires.some c.requires.fine }

pub returns-then-not-is_single : goal.returns-then-not-is_single
returns-then-not-is_single g c =
    single_stop (g.S.Singles.single c.args.by.now) c.args.runs.now c.loop-i.i c.index-runs-i.result c.requires.some c.loop-i-test.true c.index-runs-i.is (sym c.is_single.ensures ∙ c.if-not-is_single.true) c.loop-i.invariant

pub loop-i-preserved : goal.loop-i-preserved
loop-i-preserved g c =
    single_step (g.S.Singles.single c.args.by.now) c.args.runs.now c.loop-i.i c.index-runs-i.result c.loop-i-test.true c.index-runs-i.is (sym c.is_single.ensures ∙ c.if-not-is_single.false) c.loop-i.invariant

pub returns : goal.returns
returns g c = single_end (g.S.Singles.single c.args.by.now) c.args.runs.now c.loop-i.i (omega arith) c.loop-i.invariant
