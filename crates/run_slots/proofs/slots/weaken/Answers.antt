use Rattle.std.proofs.Common.{◌+◌, arith}
use Rattle.std.proofs.lemmas.Result.{on_ok_weaker}
use Rattle.cell_runs.specs.Runs.{elements}
use Rattle.run_slots.specs.Walks.{bits_before}
use Rattle.run_slots.proofs.Walking.{at_before, at_along, first_at}
use Rattle.run_places.proofs.Ahead.{spot_next}
use Rattle.run_slots.proofs.Weakening.{all_weakened}
use Rattle.run_slots.proofs.slots.weaken.Goals as goal

pub walk-first-requires-clause-spot : goal.walk-first-requires-clause-spot
walk-first-requires-clause-spot g c = at_before c.args.runs.now 0 (record { index = 0; skip = 0 }) (first_at c.args.runs.now (spot_next c.args.runs.now 0 c.requires.runs.some))

pub walk-first-requires-clause-enough : goal.walk-first-requires-clause-enough
walk-first-requires-clause-enough g c = let z = (first_at c.args.runs.now (spot_next c.args.runs.now 0 c.requires.runs.some)).before in let h = c.requires.enough in omega arith

pub weaken_slots-requires-clause-spot : goal.weaken_slots-requires-clause-spot
weaken_slots-requires-clause-spot g c = at_before c.args.runs.now _ c.walk-first.result c.walk-first.ensures

pub weaken_slots-requires-clause-enough : goal.weaken_slots-requires-clause-enough
weaken_slots-requires-clause-enough g c = let z = (first_at c.args.runs.now (spot_next c.args.runs.now 0 c.requires.runs.some)).before in let b = c.walk-first.ensures.before in let h = c.requires.enough in omega arith

pub weaken_slot-requires-clause-spot : goal.weaken_slot-requires-clause-spot
weaken_slot-requires-clause-spot g c = at_before c.args.runs.now _ c.in_ok-last.last c.in_ok-last.ensures.spot

pub weaken_slot-requires-clause-enough : goal.weaken_slot-requires-clause-enough
weaken_slot-requires-clause-enough g c =
    let z = (first_at c.args.runs.now (spot_next c.args.runs.now 0 c.requires.runs.some)).before in let b = c.walk-first.ensures.before in let l = c.in_ok-last.ensures.spot.before in let h = c.requires.enough in omega arith

pub overflow_add-end : goal.overflow_add-end
overflow_add-end g c = let a = c.requires.apart in omega arith

pub returns : goal.returns
returns g c =
    let z = (first_at c.args.runs.now (spot_next c.args.runs.now 0 c.requires.runs.some)).before in
    let h = c.requires.enough in
    on_ok_weaker c.copy_rest.result
    (λ y. all_weakened g.C.Cells.ops c.args.runs.now (elements c.args.put.now) c.args.slots c.args.at c.args.more c.in_ok-take_runs.field-0 c.walk-first.result c.in_ok-last.last c.args.out.now.items
    c.take_runs.new.out.items c.weaken_slots.new.out.items c.weaken_slot.new.out.items c.copy_rest.new.out.items (omega arith) c.in_ok-take_runs.ensures
    (at_along c.args.runs.now (bits_before c.args.runs.now (record { index = 0; skip = 0 }) + c.args.at) c.args.at c.walk-first.result (omega arith) c.walk-first.ensures) c.in_ok-last.ensures c.in_ok-weaken_slot.ensures y) c.copy_rest.ensures
