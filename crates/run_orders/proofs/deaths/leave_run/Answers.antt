use Rattle.std.proofs.Common.{sym, ◌∙◌}
use Rattle.std.proofs.lemmas.Result.{on_ok_weaker}
use Rattle.run_orders.proofs.Leaving.{run_blank, run_whole}
use Rattle.run_orders.proofs.deaths.leave_run.Goals as goal

pub returns-then-is_blank : goal.returns-then-is_blank
returns-then-is_blank g c =
    on_ok_weaker c.push.result
    (run_blank g.C.Cells.ops (g.D.Death.left c.args.death.now) c.args.run.now c.in_ok-cell.cell c.args.out.now.items c.push.new.out.items c.in_ok-cell.ensures (sym c.is_blank.ensures ∙ c.if-is_blank.true)) c.push.ensures

pub returns : goal.returns
returns g c =
    on_ok_weaker c.push-2.result
    (run_whole g.C.Cells.ops (g.D.Death.left c.args.death.now) c.args.run.now c.in_ok-cell.cell c.args.out.now.items c.push-2.new.out.items c.in_ok-cell.ensures (sym c.is_blank.ensures ∙ c.if-is_blank.false)) c.push-2.ensures
