use Rattle.std.proofs.Common.{◌^◌, arith}
use Rattle.avalue_base.specs.Ops.{Fine}
use Rattle.c_base.specs.declared.integer.Machine.TheVariants.{Lp64}
use Rattle.cell_runs.proofs.Taking.{some_at, fine_at, small_at}
use Rattle.map_rows.proofs.Gathering.{gather_begin, gather_small, gather_step, gather_end}
use Rattle.map_rows.proofs.entries_of.Goals as goal

pub loop-i-init : goal.loop-i-init
loop-i-init c = gather_begin c.args.base.0 c.args.runs.now c.new-entries.result c.new-entries.ensures

pub entry_of-requires-clause-bits : goal.entry_of-requires-clause-bits
entry_of-requires-clause-bits c = (some_at c.args.runs.now c.loop-i.i c.index-runs-i.result c.loop-i-test.true c.index-runs-i.is c.requires.some).0

pub entry_of-requires-clause-few : goal.entry_of-requires-clause-few
entry_of-requires-clause-few c = (fine_at (Fine Lp64) c.args.runs.now c.loop-i.i c.index-runs-i.result c.loop-i-test.true c.index-runs-i.is c.requires.some c.requires.fine).few_bits

pub entry_of-requires-clause-count : goal.entry_of-requires-clause-count
entry_of-requires-clause-count c = (some_at c.args.runs.now c.loop-i.i c.index-runs-i.result c.loop-i-test.true c.index-runs-i.is c.requires.some).1

pub entry_of-requires-clause-small : goal.entry_of-requires-clause-small
entry_of-requires-clause-small c = gather_small c.args.base.0 c.args.runs.now c.loop-i.low c.loop-i.i (2 ^ 64) c.index-runs-i.result c.loop-i.entries c.loop-i-test.true c.index-runs-i.is c.requires.small c.loop-i.invariant

pub overflow_mul-low : goal.overflow_mul-low
overflow_mul-low c = let s = gather_small c.args.base.0 c.args.runs.now c.loop-i.low c.loop-i.i (2 ^ 64) c.index-runs-i.result c.loop-i.entries c.loop-i-test.true c.index-runs-i.is c.requires.small c.loop-i.invariant in omega arith

pub overflow_add-low : goal.overflow_add-low
overflow_add-low c = let s = gather_small c.args.base.0 c.args.runs.now c.loop-i.low c.loop-i.i (2 ^ 64) c.index-runs-i.result c.loop-i.entries c.loop-i-test.true c.index-runs-i.is c.requires.small c.loop-i.invariant in omega arith

pub loop-i-preserved : goal.loop-i-preserved
loop-i-preserved c =
    gather_step c.args.base.0 c.args.runs.now c.loop-i.low c.loop-i.i c.index-runs-i.result c.loop-i.entries c.push.new.self c.in_ok-entry.entry c.loop-i-test.true c.index-runs-i.is c.in_ok-entry.ensures c.in_ok-push.ensures.ok c.loop-i.invariant

pub returns : goal.returns
returns c = gather_end c.args.base.0 c.args.runs.now c.loop-i.low c.loop-i.i c.loop-i.entries (omega arith) c.loop-i.invariant
