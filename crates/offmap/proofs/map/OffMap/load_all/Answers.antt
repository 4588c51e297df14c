use Rattle.std.proofs.Common.{◌-◌, arith, refl, length, get_or}
use Rattle.cell_laws.specs.Elements.{width}
use Rattle.offmap.proofs.Gluing.{within_at, number_at, none_loaded, all_loaded}
use Rattle.offmap.proofs.map.OffMap.load_all.Goals as goal

pub loop-i-init : goal.loop-i-init
loop-i-init g c = record {
  cell = none_loaded g.C.Cells.ops c.args.self.now c.args.offsets.now c.args.bits c.in_ok-cell.cell (length c.args.offsets.now) (omega arith) c.in_ok-cell.ensures;
  inside = omega arith;
}

pub load-requires-clause-inside : goal.load-requires-clause-inside
load-requires-clause-inside g c =
    let i = c.loop-i.invariant.inside in
    within_at g.C.Cells.ops c.args.bits (width c.args.self.now) c.args.offsets.now (c.loop-i.i - 1) (get_or c.args.offsets.now (c.loop-i.i - 1) 0) (omega arith)
    (number_at g.C.Cells.ops c.args.offsets.now (c.loop-i.i - 1) (get_or c.args.offsets.now (c.loop-i.i - 1) 0) (omega arith) refl) c.requires.inside

pub loop-i-preserved : goal.loop-i-preserved
loop-i-preserved g c =
    let i = c.loop-i.invariant.inside in
    record {
      cell = all_loaded g.C.Cells.ops c.args.self.now c.args.offsets.now (c.loop-i.i - 1) c.loop-i.i c.args.bits (get_or c.args.offsets.now (c.loop-i.i - 1) 0) c.in_ok-here.here c.loop-i.cell c.in_ok-cell-2.cell
          (omega arith) (omega arith)
          (number_at g.C.Cells.ops c.args.offsets.now (c.loop-i.i - 1) (get_or c.args.offsets.now (c.loop-i.i - 1) 0) (omega arith) refl)
          c.in_ok-here.ensures c.loop-i.invariant.cell c.in_ok-cell-2.ensures;
      inside = omega arith;
    }
