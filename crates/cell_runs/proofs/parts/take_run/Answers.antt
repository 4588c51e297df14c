use Rattle.std.proofs.lemmas.Result.{on_ok_weaker}
use Rattle.cell_runs.proofs.Portions.{took}
use Rattle.cell_runs.proofs.parts.take_run.Goals as goal

pub returns : goal.returns
returns g c =
    on_ok_weaker c.push_piece.result
    (took g.C.Cells.ops c.args.run.now c.args.n c.args.out.now.items c.push_copy.new.out.items c.push_piece.new.out.items c.requires.bits c.requires.inside c.in_ok-push_copy.ensures) c.push_piece.ensures
