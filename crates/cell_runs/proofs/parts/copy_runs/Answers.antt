use Rattle.std.proofs.Common.{arith}
use Rattle.cell_runs.proofs.Taking.{bits_at, copies_step, copies_all}
use Rattle.cell_runs.proofs.parts.copy_runs.Goals as goal

pub push_copy-requires : goal.push_copy-requires
push_copy-requires g c = record { bits = bits_at c.args.runs.now c.loop-i.i c.index-runs-i.result c.loop-i-test.true c.index-runs-i.is c.requires.some }

pub loop-i-preserved : goal.loop-i-preserved
loop-i-preserved g c =
    copies_step c.args.runs.now c.loop-i.i c.args.out.now.items c.loop-i.out.items c.push_copy.new.out.items c.index-runs-i.result c.loop-i-test.true c.index-runs-i.is
    c.loop-i.invariant c.in_ok-push_copy.ensures

pub returns : goal.returns
returns g c = copies_all c.args.runs.now c.loop-i.i c.args.out.now.items c.loop-i.out.items (omega arith) c.loop-i.invariant
