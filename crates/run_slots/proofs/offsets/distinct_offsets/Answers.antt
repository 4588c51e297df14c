use Rattle.std.proofs.Common.{◌*◌, ◌+◌, ◌-◌, suc, arith, ap, ℕ}
use Rattle.run_places.proofs.Ahead.{spot_next}
use Rattle.run_slots.specs.Walks.{bits_before}
use Rattle.run_slots.proofs.Walking.{at_before, at_along, first_at}
use Rattle.run_slots.proofs.Again.{again_along}
use Rattle.run_slots.proofs.Representing.{size_most, last_inside, find_begin, left_inside, far_inside, find_all, find_step}
use Rattle.run_slots.proofs.Stretching.{tell_begin, tell_step, tell_all}
use Rattle.run_slots.proofs.offsets.distinct_offsets.Goals as goal

pub walk-spot-requires-clause-spot : goal.walk-spot-requires-clause-spot
walk-spot-requires-clause-spot g c = at_before c.args.runs.now 0 (record { index = 0; skip = 0 }) (first_at c.args.runs.now (spot_next c.args.runs.now 0 c.requires.runs.some))

pub walk-spot-requires-clause-enough : goal.walk-spot-requires-clause-enough
walk-spot-requires-clause-enough g c =
    let z = (first_at c.args.runs.now (spot_next c.args.runs.now 0 c.requires.runs.some)).before in
    let h = c.requires.inside in
    omega arith

pub loop-left-init : goal.loop-left-init
loop-left-init g c =
    let t = tell_begin c.args.runs.now c.args.bits c.args.steps.first c.args.steps.step c.args.steps.more c.new-offsets.result.items c.new-offsets.ensures.items in
    let z = (first_at c.args.runs.now (spot_next c.args.runs.now 0 c.requires.runs.some)).before in
    let f = find_begin g.C.Cells.ops c.args.runs.now c.args.bits c.args.steps.first c.args.steps.step c.args.steps.more c.walk-spot.result c.new-offsets.result.items c.new-offsets.ensures.items
    (at_along c.args.runs.now (bits_before c.args.runs.now (record { index = 0; skip = 0 }) + c.args.steps.first) c.args.steps.first c.walk-spot.result (omega arith) c.walk-spot.ensures) in
    (f, t)

pub push_steps-requires : goal.push_steps-requires
push_steps-requires g c =
    let w = last_inside c.args.steps.first c.args.steps.step c.args.steps.more c.args.bits _ c.requires.inside in
    let e = c.stretch_at-next.ensures.again in
    let l = size_most c.stretch_at-next.result.size c.stretch_at-next.result.repeats c.loop-left.left e.again e.most in
    let i = left_inside g.C.Cells.ops c.args.runs.now c.args.bits c.args.steps.first c.args.steps.step (suc c.args.steps.more) c.loop-left.left c.loop-left.at c.stretch_at-next.result.size c.loop-left.spot
    c.loop-left.offsets.items w c.loop-left.invariant.0 l in
    let s = c.requires.runs.small in
    record { small = omega arith }

pub returns-then-count-left-clause-all : goal.returns-then-count-left-clause-all
returns-then-count-left-clause-all g c =
    let m = c.max-reach.ensures in
    find_all g.C.Cells.ops c.args.runs.now c.args.bits c.args.steps.first c.args.steps.step (suc c.args.steps.more) c.loop-left.left c.loop-left.at c.max-reach.result c.stretch_at-next.result.size
    c.stretch_at-next.result.repeats c.loop-left.spot c.loop-left.offsets.items c.push_steps.new.out.items (omega arith) (last_inside c.args.steps.first c.args.steps.step c.args.steps.more c.args.bits _ c.requires.inside)
    (again_along g.C.Cells.ops _ (bits_before c.args.runs.now c.loop-left.spot) c.loop-left.at c.args.steps.step c.max-reach.result c.loop-left.left c.stretch_at-next.result.size c.stretch_at-next.result.repeats
    c.loop-left.invariant.0.spot.before c.stretch_at-next.ensures.again) c.in_ok-push_steps.ensures c.if-count-left.true c.loop-left.invariant.0

pub returns-then-count-left-clause-value : goal.returns-then-count-left-clause-value
returns-then-count-left-clause-value g c =
    let t = tell_step c.args.runs.now c.args.bits c.args.steps.first c.args.steps.step (suc c.args.steps.more) c.loop-left.left c.loop-left.at c.max-reach.result (bits_before c.args.runs.now c.loop-left.spot)
    c.stretch_at-next.result c.loop-left.offsets.items c.push_steps.new.out.items c.requires.runs.some c.loop-left-test.true c.max-reach.ensures c.loop-left.invariant.0.spot.before c.stretch_at-next.ensures.value
    c.in_ok-push_steps.ensures c.loop-left.invariant.1 in
    let e = c.if-count-left.true in
    tell_all c.args.runs.now c.args.bits c.args.steps.first c.args.steps.step (suc c.args.steps.more) (c.loop-left.left - c.stretch_at-next.result.size * c.stretch_at-next.result.repeats) _ c.push_steps.new.out.items (omega arith) t

pub walk-spot-requires-in-loop-left-clause-enough : goal.walk-spot-requires-in-loop-left-clause-enough
walk-spot-requires-in-loop-left-clause-enough g c =
    let b = c.loop-left.invariant.0.spot.before in
    let f = far_inside g.C.Cells.ops c.args.runs.now c.args.bits c.args.steps.first c.args.steps.step (suc c.args.steps.more) c.loop-left.left c.loop-left.at
    (c.stretch_at-next.result.size * c.stretch_at-next.result.repeats) c.loop-left.spot c.loop-left.offsets.items
    (last_inside c.args.steps.first c.args.steps.step c.args.steps.more c.args.bits _ c.requires.inside) c.loop-left.invariant.0 c.stretch_at-next.ensures.again.most c.if-count-left.false in
    omega arith

pub overflow_add-at : goal.overflow_add-at
overflow_add-at g c =
    let s = c.requires.runs.small in
    let f = far_inside g.C.Cells.ops c.args.runs.now c.args.bits c.args.steps.first c.args.steps.step (suc c.args.steps.more) c.loop-left.left c.loop-left.at
    (c.stretch_at-next.result.size * c.stretch_at-next.result.repeats) c.loop-left.spot c.loop-left.offsets.items
    (last_inside c.args.steps.first c.args.steps.step c.args.steps.more c.args.bits _ c.requires.inside) c.loop-left.invariant.0 c.stretch_at-next.ensures.again.most c.if-count-left.false in
    omega arith

pub loop-left-preserved : goal.loop-left-preserved
loop-left-preserved g c =
    let m = c.max-reach.ensures in
    let t = tell_step c.args.runs.now c.args.bits c.args.steps.first c.args.steps.step (suc c.args.steps.more) c.loop-left.left c.loop-left.at c.max-reach.result (bits_before c.args.runs.now c.loop-left.spot)
    c.stretch_at-next.result c.loop-left.offsets.items c.push_steps.new.out.items c.requires.runs.some c.loop-left-test.true c.max-reach.ensures c.loop-left.invariant.0.spot.before c.stretch_at-next.ensures.value
    c.in_ok-push_steps.ensures c.loop-left.invariant.1 in
    let n = c.stretch_at-next.result.size * c.stretch_at-next.result.repeats * c.args.steps.step in
    let f = find_step g.C.Cells.ops c.args.runs.now c.args.bits c.args.steps.first c.args.steps.step (suc c.args.steps.more) c.loop-left.left c.loop-left.at c.max-reach.result c.stretch_at-next.result.size
    c.stretch_at-next.result.repeats c.loop-left.spot c.walk-spot-in-loop-left.result c.loop-left.offsets.items c.push_steps.new.out.items (omega arith)
    (last_inside c.args.steps.first c.args.steps.step c.args.steps.more c.args.bits _ c.requires.inside) (again_along g.C.Cells.ops _ (bits_before c.args.runs.now c.loop-left.spot) c.loop-left.at c.args.steps.step c.max-reach.result c.loop-left.left c.stretch_at-next.result.size c.stretch_at-next.result.repeats
    c.loop-left.invariant.0.spot.before c.stretch_at-next.ensures.again) c.in_ok-push_steps.ensures c.if-count-left.false
    (at_along c.args.runs.now (bits_before c.args.runs.now c.loop-left.spot + n) (c.loop-left.at + n) c.walk-spot-in-loop-left.result (ap (λ (x : ℕ). x + n) c.loop-left.invariant.0.spot.before) c.walk-spot-in-loop-left.ensures)
    c.loop-left.invariant.0 in
    (f, t)
