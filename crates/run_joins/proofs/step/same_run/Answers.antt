use Rattle.std.proofs.Common.{subst, sym}
use Rattle.cell_runs.proofs.Taking.{bits_at, fine_at}
use Rattle.run_joins.proofs.Running.{same_bits}
use Rattle.run_joins.proofs.Walking.{same_steps}
use Rattle.run_joins.proofs.step.same_run.Goals as goal

pub returns : goal.returns
returns g c =
    same_steps g.C.Cells.ops (g.M.Merge.merged c.args.merge.now) c.args.a.now c.args.b.now c.args.i.now c.advance.new.at c.args.j.now c.advance-2.new.at c.index-a-i.result c.index-b-j.result c.min-n.result c.in_ok-cell.cell
    c.args.out.now.items c.push.new.out.items c.requires.first c.index-a-i.is c.requires.second c.index-b-j.is c.requires.maps.some_first c.requires.maps.some_second c.requires.even c.requires.same
    c.min-n.ensures c.in_ok-cell.ensures c.in_ok-push.ensures c.advance.ensures.rest c.advance.ensures.cursor c.advance-2.ensures.rest c.advance-2.ensures.cursor

pub merge-requires-clause-first : goal.merge-requires-clause-first
merge-requires-clause-first g c =
    fine_at g.C.Cells.fine c.args.a.now c.args.i.now.index c.index-a-i.result c.requires.first c.index-a-i.is c.requires.maps.some_first c.requires.maps.fine_first

pub merge-requires-clause-second : goal.merge-requires-clause-second
merge-requires-clause-second g c =
    let f = fine_at g.C.Cells.fine c.args.b.now c.args.j.now.index c.index-b-j.result c.requires.second c.index-b-j.is c.requires.maps.some_second c.requires.maps.fine_second in
    let e = same_bits c.args.a.now c.args.b.now c.args.i.now.index c.args.j.now.index c.index-a-i.result c.index-b-j.result c.requires.first c.requires.second c.index-a-i.is c.index-b-j.is c.requires.same in
    subst (λ n. g.C.Cells.fine n c.index-b-j.result.cell) (sym e) f

pub push-requires-clause-bits : goal.push-requires-clause-bits
push-requires-clause-bits g c = bits_at c.args.a.now c.args.i.now.index c.index-a-i.result c.requires.first c.index-a-i.is c.requires.maps.some_first
