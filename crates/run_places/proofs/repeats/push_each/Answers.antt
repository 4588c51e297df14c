use Rattle.std.proofs.Common.{arith}
use Rattle.run_places.proofs.Adding.{add_begin, add_step, add_end}
use Rattle.run_places.proofs.repeats.push_each.Goals as goal

pub loop-left-init : goal.loop-left-init
loop-left-init g c = add_begin c.args.runs.now c.args.out.now.items c.args.count

pub loop-left-preserved : goal.loop-left-preserved
loop-left-preserved g c =
    add_step c.args.runs.now c.args.out.now.items c.loop-left.out.items c.copy_runs.new.out.items c.args.count c.loop-left.left c.loop-left-test.true c.in_ok-copy_runs.ensures c.loop-left.invariant

pub returns : goal.returns
returns g c = add_end c.args.runs.now c.args.out.now.items c.loop-left.out.items c.args.count c.loop-left.left (omega arith) c.loop-left.invariant
