use Rattle.std.proofs.Common.{arith}
use Rattle.cell_runs.proofs.Taking.{small_at}
use Rattle.run_places.proofs.Ahead.{spot_in, front_past, front_inside}
use Rattle.run_places.proofs.spots.step_along.Goals as goal

pub overflow_mul-bits : goal.overflow_mul-bits
overflow_mul-bits g c = let h = small_at c.args.runs.now c.args.spot.index c.index-runs-spot.result c.requires.inside c.index-runs-spot.is c.requires.runs.small in omega arith

pub overflow_add-skip : goal.overflow_add-skip
overflow_add-skip g c =
    let h = small_at c.args.runs.now c.args.spot.index c.index-runs-spot.result c.requires.inside c.index-runs-spot.is c.requires.runs.small in
    let l = spot_in c.args.runs.now c.args.spot c.index-runs-spot.result c.requires.inside c.index-runs-spot.is c.requires.spot in
    let m = c.min-count.ensures in
    omega arith

pub returns-then-skip-bits : goal.returns-then-skip-bits
returns-then-skip-bits g c =
    front_past c.args.runs.now c.args.spot c.args.most c.min-count.result c.index-runs-spot.result c.requires.runs.some c.requires.inside c.index-runs-spot.is c.requires.spot
    c.min-count.ensures c.if-skip-bits.true

pub returns : goal.returns
returns g c =
    front_inside c.args.runs.now c.args.spot c.args.most c.min-count.result c.index-runs-spot.result c.requires.inside c.index-runs-spot.is c.requires.spot
    c.min-count.ensures c.if-skip-bits.false
