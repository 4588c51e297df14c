use Rattle.std.proofs.Common.{arith}
use Rattle.cell_runs.proofs.Taking.{bits_at, fine_at}
use Rattle.run_orders.proofs.Including.{all_begin, all_fits, all_step, all_fail, all_end, allowed_yes, allowed_no}
use Rattle.run_orders.proofs.inclusion.included.Goals as goal

pub loop-i-init : goal.loop-i-init
loop-i-init g c = all_begin g.C.Cells.ops c.args.first.now c.args.second.now c.requires.first.some c.requires.even

pub allow-requires-clause-fine : goal.allow-requires-clause-fine
allow-requires-clause-fine g c =
    fine_at g.C.Cells.fine c.args.second.now c.loop-i.i c.index-second-i.result c.loop-i-test.true c.index-second-i.is c.requires.second.some c.requires.second.fine

pub allow-requires-clause-some : goal.allow-requires-clause-some
allow-requires-clause-some g c = bits_at c.args.second.now c.loop-i.i c.index-second-i.result c.loop-i-test.true c.index-second-i.is c.requires.second.some

pub allow-requires-clause-few : goal.allow-requires-clause-few
allow-requires-clause-few g c =
    g.met.C.Cells.fine_laws.few_bits c.index-second-i.result.bits c.index-second-i.result.cell
    (fine_at g.C.Cells.fine c.args.second.now c.loop-i.i c.index-second-i.result c.loop-i-test.true c.index-second-i.is c.requires.second.some c.requires.second.fine)

pub allow-requires-clause-enough : goal.allow-requires-clause-enough
allow-requires-clause-enough g c =
    all_fits g.C.Cells.ops c.args.first.now c.args.second.now c.loop-i.spot c.loop-i.i c.index-second-i.result c.loop-i-test.true c.index-second-i.is c.loop-i.invariant

pub returns-in_default : goal.returns-in_default
returns-in_default g c =
    all_fail g.C.Cells.ops c.args.first.now c.args.second.now c.loop-i.spot c.loop-i.i c.index-second-i.result c.loop-i-test.true c.index-second-i.is
    (allowed_no g.C.Cells.ops c.args.first.now _ _ c.allow.result c.in_default.is c.allow.ensures) c.loop-i.invariant

pub loop-i-preserved : goal.loop-i-preserved
loop-i-preserved g c =
    all_step g.C.Cells.ops c.args.first.now c.args.second.now c.loop-i.spot c.in-Some.next c.loop-i.i c.index-second-i.result c.loop-i-test.true c.index-second-i.is
    (allowed_yes g.C.Cells.ops c.args.first.now _ _ c.allow.result c.in-Some.next c.in-Some.is c.allow.ensures) c.loop-i.invariant

pub returns : goal.returns
returns g c = all_end g.C.Cells.ops c.args.first.now c.args.second.now c.loop-i.spot c.loop-i.i (omega arith) c.loop-i.invariant
