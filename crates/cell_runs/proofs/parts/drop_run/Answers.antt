use Rattle.std.proofs.lemmas.Result.{on_ok_weaker}
use Rattle.cell_runs.proofs.Portions.{dropped_whole, dropped_cut}
use Rattle.cell_runs.proofs.parts.drop_run.Goals as goal

pub returns-then-cut-eq0 : goal.returns-then-cut-eq0
returns-then-cut-eq0 g c =
    on_ok_weaker c.push_copy.result
    (dropped_whole g.C.Cells.ops c.args.run.now c.args.n c.args.out.now.items c.push_copy.new.out.items c.requires.bits c.requires.inside c.if-cut-eq0.true) c.push_copy.ensures

pub returns : goal.returns
returns g c =
    on_ok_weaker c.push_copy-2.result
    (dropped_cut g.C.Cells.ops c.args.run.now c.args.n c.args.out.now.items c.push_piece.new.out.items c.push_copy-2.new.out.items c.requires.bits c.requires.inside c.if-cut-eq0.false
    c.in_ok-push_piece.ensures) c.push_copy-2.ensures
