use Rattle.std.proofs.Common.{arith, sym, ◌∙◌}
use Rattle.run_merges.proofs.Allowing.{know_begin, know_stop, know_step, know_end}
use Rattle.run_merges.proofs.allowed.known_bits.Goals as goal

pub loop-i-init : goal.loop-i-init
loop-i-init g c = know_begin g.C.Cells.ops c.args.bits c.args.cell.now c.args.out.now.items c.requires.none

pub returns-in_default : goal.returns-in_default
returns-in_default g c =
    know_stop g.C.Cells.ops c.args.bits c.args.cell.now c.loop-i.i c.loop-i.out.items c.loop-i-test.true (sym c.known_bit.ensures ∙ c.in_default.is) c.loop-i.invariant

pub loop-i-preserved : goal.loop-i-preserved
loop-i-preserved g c =
    know_step g.C.Cells.ops c.args.bits c.args.cell.now c.loop-i.i c.loop-i.out.items c.push.new.self.items c.in-Some.bit c.loop-i-test.true (sym c.in-Some.is ∙ c.known_bit.ensures)
    c.push.ensures.items c.loop-i.invariant

pub returns : goal.returns
returns g c = know_end g.C.Cells.ops c.args.bits c.args.cell.now c.loop-i.i c.loop-i.out.items (omega arith) c.loop-i.invariant
