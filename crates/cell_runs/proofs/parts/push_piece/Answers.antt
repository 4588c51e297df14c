use Rattle.std.proofs.Common.{arith, sym}
use Rattle.std.proofs.lemmas.Result.{on_ok_weaker}
use Rattle.cell_runs.specs.Runs.{element_of}
use Rattle.cell_runs.proofs.Pushing.{extends-none, extends-along}
use Rattle.cell_runs.proofs.Portions.{piece_none, pieced}
use Rattle.cell_runs.proofs.parts.push_piece.Goals as goal

pub returns-then-count-eq0 : goal.returns-then-count-eq0
returns-then-count-eq0 g c =
    extends-along c.args.out.now.items c.args.out.now.items _ _ (sym (piece_none g.C.Cells.ops (element_of c.args.run.now) c.args.low c.args.count (omega arith)))
    (extends-none c.args.out.now.items)

pub returns : goal.returns
returns g c =
    on_ok_weaker c.push.result
    (pieced g.C.Cells.ops (element_of c.args.run.now) c.args.low c.args.count c.in_ok-cell.cell c.args.out.now.items c.push.new.out.items c.if-count-eq0.false c.in_ok-cell.ensures) c.push.ensures
