use Rattle.std.proofs.Common.{sym, ap, subst, arith}
use Rattle.memory_reads.specs.Reads.{AllFitIn}
use Rattle.memory_writes.specs.Writes.{weak_all}
use Rattle.memory_writes.proofs.Fitting.{writes_fit, writes_next, writes_end}
use Rattle.memory_writes.proofs.writes.write_weak.Goals as goal

pub loop-i-init : goal.loop-i-init
loop-i-init g c = record {
  same = ap (weak_all g.C.Cells.ops c.args.bits c.args.cell.now c.args.places.now) c.in_ok-made.ensures;
  fit = subst (λ x. AllFitIn x c.args.bits c.args.places.now) (sym c.in_ok-made.ensures) c.requires.fit;
}

pub write_weak_at-requires-clause-fits : goal.write_weak_at-requires-clause-fits
write_weak_at-requires-clause-fits g c =
    writes_fit g.C.Cells.ops g.C.Cells.fine g.met.C.Cells.fine_laws g.met.C.Cells.order_laws g.met.C.Cells.join_laws g.met.C.Cells.part_laws c.args.bits c.args.cell.now c.args.places.now c.loop-i.i c.index-places-i.result _ c.loop-i.made c.loop-i-test.true c.index-places-i.is c.loop-i.invariant

pub loop-i-preserved : goal.loop-i-preserved
loop-i-preserved g c =
    writes_next g.C.Cells.ops g.C.Cells.fine g.met.C.Cells.fine_laws g.met.C.Cells.order_laws g.met.C.Cells.join_laws g.met.C.Cells.part_laws c.args.bits c.args.cell.now c.args.places.now c.loop-i.i c.index-places-i.result _ c.loop-i.made c.in_ok-made-2.made c.requires.size c.facts.ensures c.loop-i-test.true c.index-places-i.is
    c.in_ok-made-2.ensures c.loop-i.invariant

pub returns : goal.returns
returns g c = writes_end g.C.Cells.ops g.C.Cells.fine g.met.C.Cells.fine_laws g.met.C.Cells.order_laws g.met.C.Cells.join_laws g.met.C.Cells.part_laws c.args.bits c.args.cell.now c.args.places.now c.loop-i.i _ c.loop-i.made (omega arith) c.loop-i.invariant
