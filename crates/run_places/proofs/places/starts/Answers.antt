use Rattle.std.proofs.Common.{arith, refl}
use Rattle.cell_runs.proofs.Taking.{bits_at}
use Rattle.run_places.proofs.Passing.{in_range}
use Rattle.run_places.proofs.Knowing.{starts_other, starts_same}
use Rattle.run_places.proofs.places.starts.Goals as goal

pub offset_bounds-runs-spot : goal.offset_bounds-runs-spot
offset_bounds-runs-spot g c = let e = c.requires.enough in let s = c.requires.some in let h = in_range c.args.runs.now c.args.spot (omega arith) in omega arith

pub bounds-runs-spot : goal.bounds-runs-spot
bounds-runs-spot g c = let e = c.requires.enough in let s = c.requires.some in in_range c.args.runs.now c.args.spot (omega arith)

pub returns-then-run-bits : goal.returns-then-run-bits
returns-then-run-bits g c =
    let e = c.requires.enough in
    let s = c.requires.some in
    let h = in_range c.args.runs.now c.args.spot (omega arith) in
    starts_other c.args.runs.now c.args.spot c.args.bits c.index-runs-spot.result h c.index-runs-spot.is (bits_at c.args.runs.now c.args.spot.index c.index-runs-spot.result h c.index-runs-spot.is c.requires.runs.some)
    c.requires.spot s c.if-run-bits.true

pub returns : goal.returns
returns g c =
    let e = c.requires.enough in
    let s = c.requires.some in
    let h = in_range c.args.runs.now c.args.spot (omega arith) in
    starts_same c.args.runs.now c.args.spot c.args.bits c.index-runs-spot.result _ h c.index-runs-spot.is (bits_at c.args.runs.now c.args.spot.index c.index-runs-spot.result h c.index-runs-spot.is c.requires.runs.some)
    c.requires.spot s c.if-run-bits.false refl
