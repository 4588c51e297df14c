use Rattle.std.proofs.Common.{arith}
use Rattle.run_joins.proofs.Opening.{join_begin, join_step, join_done}
use Rattle.run_joins.proofs.join.join.Goals as goal

pub loop-i-init : goal.loop-i-init
loop-i-init g c =
    join_begin g.C.Cells.ops (g.M.Merge.merged c.args.merge.now) c.args.a.now c.args.b.now c.args.out.now.items c.requires.maps.some_first c.requires.maps.some_second c.requires.even c.requires.small

pub loop-i-preserved : goal.loop-i-preserved
loop-i-preserved g c =
    join_step g.C.Cells.ops (g.M.Merge.merged c.args.merge.now) c.args.a.now c.args.b.now c.loop-i.i c.step.new.i c.loop-i.j c.step.new.j c.args.out.now.items c.loop-i.out.items c.step.new.out.items
    c.loop-i.invariant c.in_ok-step.ensures

pub returns : goal.returns
returns g c =
    join_done g.C.Cells.ops (g.M.Merge.merged c.args.merge.now) c.args.a.now c.args.b.now c.loop-i.i c.loop-i.j c.args.out.now.items c.loop-i.out.items c.requires.maps.some_second (omega arith)
    c.loop-i.invariant
