use Rattle.std.proofs.Common.{◌*◌, ◌-◌, arith, refl}
use Rattle.cell_runs.proofs.Taking.{bits_at, fine_at, small_at}
use Rattle.run_places.proofs.Repeating.{chunk_one, chunk_many, chunk_fits, chunk_inside, few_small, period_small}
use Rattle.run_places.proofs.chunks.chunk_at.Goals as goal

pub offset_bounds-runs-spot : goal.offset_bounds-runs-spot
offset_bounds-runs-spot g c = let h = chunk_inside c.args.runs.now c.args.spot c.args.bits c.args.left c.requires.some c.requires.left c.requires.enough in omega arith

pub bounds-runs-spot : goal.bounds-runs-spot
bounds-runs-spot g c = chunk_inside c.args.runs.now c.args.spot c.args.bits c.args.left c.requires.some c.requires.left c.requires.enough

pub overflow_mul-rest : goal.overflow_mul-rest
overflow_mul-rest g c =
    let i = chunk_inside c.args.runs.now c.args.spot c.args.bits c.args.left c.requires.some c.requires.left c.requires.enough in
    let h = small_at c.args.runs.now c.args.spot.index c.index-runs-spot.result i c.index-runs-spot.is c.requires.runs.small in
    omega arith

pub period-size-requires-clause-some : goal.period-size-requires-clause-some
period-size-requires-clause-some g c =
    let i = chunk_inside c.args.runs.now c.args.spot c.args.bits c.args.left c.requires.some c.requires.left c.requires.enough in
    bits_at c.args.runs.now c.args.spot.index c.index-runs-spot.result i c.index-runs-spot.is c.requires.runs.some

pub period-size-requires-clause-small : goal.period-size-requires-clause-small
period-size-requires-clause-small g c =
    let i = chunk_inside c.args.runs.now c.args.spot c.args.bits c.args.left c.requires.some c.requires.left c.requires.enough in
    let f = fine_at g.C.Cells.fine c.args.runs.now c.args.spot.index c.index-runs-spot.result i c.index-runs-spot.is c.requires.runs.some c.requires.runs.fine in
    few_small c.index-runs-spot.result.bits c.args.bits (g.met.C.Cells.fine_laws.few_bits c.index-runs-spot.result.bits c.index-runs-spot.result.cell f) c.requires.few

pub overflow_mul-wide : goal.overflow_mul-wide
overflow_mul-wide g c =
    let i = chunk_inside c.args.runs.now c.args.spot c.args.bits c.args.left c.requires.some c.requires.left c.requires.enough in
    let f = fine_at g.C.Cells.fine c.args.runs.now c.args.spot.index c.index-runs-spot.result i c.index-runs-spot.is c.requires.runs.some c.requires.runs.fine in
    let s = few_small c.index-runs-spot.result.bits c.args.bits (g.met.C.Cells.fine_laws.few_bits c.index-runs-spot.result.bits c.index-runs-spot.result.cell f) c.requires.few in
    let p = period_small c.index-runs-spot.result.bits c.args.bits c.period-size.result c.period-size.ensures.few s in
    omega arith

pub returns-then-repeats-eq0 : goal.returns-then-repeats-eq0
returns-then-repeats-eq0 g c =
    chunk_one c.args.runs.now c.args.spot c.skip_bits-next.result c.args.bits c.args.left c.requires.left c.requires.enough c.skip_bits-next.ensures.ahead c.skip_bits-next.ensures.spot

pub overflow_mul-repeats : goal.overflow_mul-repeats
overflow_mul-repeats g c =
    let i = chunk_inside c.args.runs.now c.args.spot c.args.bits c.args.left c.requires.some c.requires.left c.requires.enough in
    let h = small_at c.args.runs.now c.args.spot.index c.index-runs-spot.result i c.index-runs-spot.is c.requires.runs.small in
    let f = chunk_fits c.args.left c.period-size.result (c.index-runs-spot.result.bits * c.index-runs-spot.result.count - c.args.spot.skip) (c.period-size.result * c.args.bits) c.min-repeats.result c.min-repeats.ensures in
    omega arith

pub step_along-requires-clause-inside : goal.step_along-requires-clause-inside
step_along-requires-clause-inside g c = chunk_inside c.args.runs.now c.args.spot c.args.bits c.args.left c.requires.some c.requires.left c.requires.enough

pub returns : goal.returns
returns g c =
    let i = chunk_inside c.args.runs.now c.args.spot c.args.bits c.args.left c.requires.some c.requires.left c.requires.enough in
    chunk_many c.args.runs.now c.args.spot c.args.bits c.args.left c.period-size.result (c.period-size.result * c.args.bits) (c.index-runs-spot.result.bits * c.index-runs-spot.result.count - c.args.spot.skip)
    c.min-repeats.result c.index-runs-spot.result c.step_along.result i c.index-runs-spot.is (bits_at c.args.runs.now c.args.spot.index c.index-runs-spot.result i c.index-runs-spot.is c.requires.runs.some) c.requires.spot
    c.requires.some c.period-size.ensures refl refl c.min-repeats.ensures c.if-repeats-eq0.false c.step_along.ensures
