use Rattle.std.proofs.Common.{sym, ◌∙◌}
use Rattle.std.proofs.lemmas.Result.{on_ok_weaker}
use Rattle.offmap.proofs.Building.{filled_blank, filled_whole}
use Rattle.offmap.proofs.access.push_filled.Goals as goal

pub returns-then-is_blank : goal.returns-then-is_blank
returns-then-is_blank g c =
    on_ok_weaker c.push.result
    (filled_blank g.C.Cells.ops c.args.size c.args.count c.args.cell.now c.in_ok-cell.cell c.args.out.now.items c.push.new.out.items (sym c.is_blank.ensures ∙ c.if-is_blank.true) c.in_ok-cell.ensures) c.push.ensures

pub returns : goal.returns
returns g c =
    on_ok_weaker c.push-2.result
    (filled_whole g.C.Cells.ops c.args.size c.args.count c.args.cell.now c.in_ok-cell.cell c.args.out.now.items c.push-2.new.out.items (sym c.is_blank.ensures ∙ c.if-is_blank.false) c.in_ok-cell.ensures) c.push-2.ensures
