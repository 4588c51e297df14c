use Rattle.std.proofs.Common.{arith, ◌∙◌}
use Rattle.cell_runs.proofs.Taking.{bits_at}
use Rattle.run_places.proofs.Passing.{in_range}
use Rattle.run_places.proofs.Knowing.{start_bits, start_cut, start_is}
use Rattle.run_places.proofs.places.starts_in.Goals as goal

pub offset_bounds-runs-spot : goal.offset_bounds-runs-spot
offset_bounds-runs-spot g c = let e = c.requires.enough in let s = c.requires.some in let h = in_range c.args.runs.now c.args.spot (omega arith) in omega arith

pub bounds-runs-spot : goal.bounds-runs-spot
bounds-runs-spot g c = let e = c.requires.enough in let s = c.requires.some in in_range c.args.runs.now c.args.spot (omega arith)

pub returns-then-run-bits : goal.returns-then-run-bits
returns-then-run-bits g c =
    let e = c.requires.enough in
    let s = c.requires.some in
    let h = in_range c.args.runs.now c.args.spot (omega arith) in
    start_bits g.C.Cells.ops c.args.runs.now c.args.spot c.args.bits c.args.cell.now c.index-runs-spot.result h c.index-runs-spot.is
    (bits_at c.args.runs.now c.args.spot.index c.index-runs-spot.result h c.index-runs-spot.is c.requires.runs.some) c.requires.spot s c.if-run-bits.true

pub returns-then-spot-bits-ne0 : goal.returns-then-spot-bits-ne0
returns-then-spot-bits-ne0 g c =
    let e = c.requires.enough in
    let s = c.requires.some in
    let h = in_range c.args.runs.now c.args.spot (omega arith) in
    start_cut g.C.Cells.ops c.args.runs.now c.args.spot c.args.bits c.args.cell.now c.index-runs-spot.result h c.index-runs-spot.is
    (bits_at c.args.runs.now c.args.spot.index c.index-runs-spot.result h c.index-runs-spot.is c.requires.runs.some) c.requires.spot s c.if-run-bits.false c.if-spot-bits-ne0.true

pub returns : goal.returns
returns g c =
    let e = c.requires.enough in
    let s = c.requires.some in
    let h = in_range c.args.runs.now c.args.spot (omega arith) in
    c.is_included.ensures ∙ start_is g.C.Cells.ops c.args.runs.now c.args.spot c.args.bits c.args.cell.now c.index-runs-spot.result h c.index-runs-spot.is
    (bits_at c.args.runs.now c.args.spot.index c.index-runs-spot.result h c.index-runs-spot.is c.requires.runs.some) c.requires.spot s c.if-run-bits.false c.if-spot-bits-ne0.false
