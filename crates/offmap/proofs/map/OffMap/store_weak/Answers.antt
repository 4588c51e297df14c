use Rattle.std.proofs.Common.{arith, refl, get_or}
use Rattle.offmap.proofs.Building.{seen}
use Rattle.offmap.proofs.Weakening.{weak_begin, weak_inside, weak_even, weak_step, weak_end}
use Rattle.offmap.proofs.map.OffMap.store_weak.Goals as goal

pub loop-i-init : goal.loop-i-init
loop-i-init g c =
    let s = seen g.C.Cells.fine c.self.inside.bits c.self.inside.runs.items c.self.inside.runs.items c.args.self.now c.self.invariant c.self.view_is refl in
    weak_begin g.C.Cells.ops g.C.Cells.fine g.met.C.Cells.fine_laws g.met.C.Cells.order_laws g.met.C.Cells.join_laws g.met.C.Cells.part_laws c.args.self.now c.in_ok-map.map c.args.offsets.now c.args.bits
    c.args.cell.now c.self.inside.bits s.wide s.fine c.in_ok-map.ensures

pub returns : goal.returns
returns g c =
    weak_end g.C.Cells.ops g.C.Cells.fine g.met.C.Cells.fine_laws g.met.C.Cells.order_laws g.met.C.Cells.join_laws g.met.C.Cells.part_laws c.args.self.now c.loop-i.map c.args.offsets.now c.args.bits
    c.args.cell.now c.loop-i.i (omega arith) c.loop-i.invariant

pub store-requires-clause-inside : goal.store-requires-clause-inside
store-requires-clause-inside g c =
    weak_inside g.C.Cells.ops g.C.Cells.fine g.met.C.Cells.fine_laws g.met.C.Cells.order_laws g.met.C.Cells.join_laws g.met.C.Cells.part_laws c.args.self.now c.loop-i.map c.args.offsets.now c.args.bits
    c.args.cell.now c.loop-i.i (get_or c.args.offsets.now c.loop-i.i 0) c.loop-i-test.true refl c.requires.inside c.loop-i.invariant

pub merge-requires : goal.merge-requires
merge-requires g c =
    let x = get_or c.args.offsets.now c.loop-i.i 0 in
    let h = weak_inside g.C.Cells.ops g.C.Cells.fine g.met.C.Cells.fine_laws g.met.C.Cells.order_laws g.met.C.Cells.join_laws g.met.C.Cells.part_laws c.args.self.now c.loop-i.map c.args.offsets.now
    c.args.bits c.args.cell.now c.loop-i.i x c.loop-i-test.true refl c.requires.inside c.loop-i.invariant in
    weak_even g.C.Cells.ops g.C.Cells.fine g.met.C.Cells.fine_laws g.met.C.Cells.order_laws g.met.C.Cells.join_laws g.met.C.Cells.part_laws c.loop-i.map c.in_ok-stored.stored c.args.bits c.args.cell.now x h
    c.in_ok-stored.ensures

pub loop-i-preserved : goal.loop-i-preserved
loop-i-preserved g c =
    weak_step g.C.Cells.ops g.C.Cells.fine g.met.C.Cells.fine_laws g.met.C.Cells.order_laws g.met.C.Cells.join_laws g.met.C.Cells.part_laws c.args.self.now c.loop-i.map c.in_ok-stored.stored c.in_ok-map-2.map
    c.args.offsets.now c.args.bits c.args.cell.now c.loop-i.i (get_or c.args.offsets.now c.loop-i.i 0) c.requires.size c.facts.ensures.fine c.loop-i-test.true refl c.requires.inside c.in_ok-stored.ensures
    c.in_ok-map-2.ensures c.loop-i.invariant
