use Rattle.std.proofs.Common.{arith, sym, ◌∙◌}
use Rattle.cell_runs.proofs.Taking.{bits_at, fine_at}
use Rattle.run_places.proofs.Knowing.{know_begin, know_range, know_stop, know_step, know_end}
use Rattle.run_places.proofs.places.known_bits.Goals as goal

pub loop-left-init : goal.loop-left-init
loop-left-init g c = know_begin g.C.Cells.ops c.args.runs.now c.args.spot c.args.bits c.args.out.now.items c.requires.none c.requires.enough c.requires.spot

pub offset_bounds-runs-at : goal.offset_bounds-runs-at
offset_bounds-runs-at g c =
    let h = know_range g.C.Cells.ops c.args.runs.now c.args.spot c.args.bits c.loop-left.at c.loop-left.left c.loop-left.out.items c.loop-left-test.true c.loop-left.invariant in omega arith

pub bounds-runs-at : goal.bounds-runs-at
bounds-runs-at g c = know_range g.C.Cells.ops c.args.runs.now c.args.spot c.args.bits c.loop-left.at c.loop-left.left c.loop-left.out.items c.loop-left-test.true c.loop-left.invariant

pub nonzero_rem-at : goal.nonzero_rem-at
nonzero_rem-at g c =
    let h = know_range g.C.Cells.ops c.args.runs.now c.args.spot c.args.bits c.loop-left.at c.loop-left.left c.loop-left.out.items c.loop-left-test.true c.loop-left.invariant in
    bits_at c.args.runs.now c.loop-left.at.index c.index-runs-at.result h c.index-runs-at.is c.requires.runs.some

pub known_bit-requires-clause-fine : goal.known_bit-requires-clause-fine
known_bit-requires-clause-fine g c =
    let h = know_range g.C.Cells.ops c.args.runs.now c.args.spot c.args.bits c.loop-left.at c.loop-left.left c.loop-left.out.items c.loop-left-test.true c.loop-left.invariant in
    fine_at g.C.Cells.fine c.args.runs.now c.loop-left.at.index c.index-runs-at.result h c.index-runs-at.is c.requires.runs.some c.requires.runs.fine

pub known_bit-requires-clause-inside : goal.known_bit-requires-clause-inside
known_bit-requires-clause-inside g c =
    let h = know_range g.C.Cells.ops c.args.runs.now c.args.spot c.args.bits c.loop-left.at c.loop-left.left c.loop-left.out.items c.loop-left-test.true c.loop-left.invariant in
    let b = bits_at c.args.runs.now c.loop-left.at.index c.index-runs-at.result h c.index-runs-at.is c.requires.runs.some in
    grind arith

pub returns-in_default : goal.returns-in_default
returns-in_default g c =
    let h = know_range g.C.Cells.ops c.args.runs.now c.args.spot c.args.bits c.loop-left.at c.loop-left.left c.loop-left.out.items c.loop-left-test.true c.loop-left.invariant in
    let b = bits_at c.args.runs.now c.loop-left.at.index c.index-runs-at.result h c.index-runs-at.is c.requires.runs.some in
    know_stop g.C.Cells.ops c.args.runs.now c.args.spot c.args.bits c.loop-left.at c.loop-left.left c.loop-left.out.items c.index-runs-at.result h c.index-runs-at.is b c.loop-left-test.true
    (sym c.known_bit.ensures ∙ c.in_default.is) c.loop-left.invariant

pub step_along-requires-clause-inside : goal.step_along-requires-clause-inside
step_along-requires-clause-inside g c =
    know_range g.C.Cells.ops c.args.runs.now c.args.spot c.args.bits c.loop-left.at c.loop-left.left c.loop-left.out.items c.loop-left-test.true c.loop-left.invariant

pub loop-left-preserved : goal.loop-left-preserved
loop-left-preserved g c =
    let h = know_range g.C.Cells.ops c.args.runs.now c.args.spot c.args.bits c.loop-left.at c.loop-left.left c.loop-left.out.items c.loop-left-test.true c.loop-left.invariant in
    let b = bits_at c.args.runs.now c.loop-left.at.index c.index-runs-at.result h c.index-runs-at.is c.requires.runs.some in
    know_step g.C.Cells.ops c.args.runs.now c.args.spot c.args.bits c.loop-left.at c.loop-left.left c.loop-left.out.items c.push.new.self.items c.step_along.result c.index-runs-at.result c.in-Some.bit
    h c.index-runs-at.is b c.loop-left-test.true c.step_along.ensures (sym c.in-Some.is ∙ c.known_bit.ensures) c.push.ensures.items c.loop-left.invariant

pub returns : goal.returns
returns g c = know_end g.C.Cells.ops c.args.runs.now c.args.spot c.args.bits c.loop-left.at c.loop-left.left c.loop-left.out.items (omega arith) c.loop-left.invariant
