use Rattle.std.proofs.Common.{◌∙◌, ◌+◌, ◌-◌, ◌*◌, ◌≤◌, arith}
use Rattle.std.proofs.lemmas.Result.{IfOk-weaker}
use Rattle.cell_laws.specs.Elements.{width}
use Rattle.map_accesses.proofs.Fitting.{run_fits, along, along_last}
use Rattle.map_accesses.proofs.Turning.{by_turns, by_each, each_within}
use Rattle.map_accesses.proofs.accesses.store_along.Goals as goal

pub steps_of-steps-requires-clause-low : goal.steps_of-steps-requires-clause-low
steps_of-steps-requires-clause-low g c =
    let i = (run_fits c.args.unit c.args.bits (width c.args.map.now) c.args.run c.requires.unit c.requires.long c.requires.inside).first in
    let s = c.facts.ensures.small in
    omega arith

pub steps_of-steps-requires-clause-first : goal.steps_of-steps-requires-clause-first
steps_of-steps-requires-clause-first g c =
    let i = (run_fits c.args.unit c.args.bits (width c.args.map.now) c.args.run c.requires.unit c.requires.long c.requires.inside).inside in
    let s = c.facts.ensures.small in
    omega arith

pub steps_of-steps-requires-clause-stride : goal.steps_of-steps-requires-clause-stride
steps_of-steps-requires-clause-stride g c =
    let i = (run_fits c.args.unit c.args.bits (width c.args.map.now) c.args.run c.requires.unit c.requires.long c.requires.inside).stride in
    let s = c.facts.ensures.small in
    omega arith

pub steps_of-steps-requires-clause-step : goal.steps_of-steps-requires-clause-step
steps_of-steps-requires-clause-step g c =
    let i = (run_fits c.args.unit c.args.bits (width c.args.map.now) c.args.run c.requires.unit c.requires.long c.requires.inside).steps in
    let s = c.facts.ensures.small in
    omega arith

pub steps_of-steps-requires-clause-more : goal.steps_of-steps-requires-clause-more
steps_of-steps-requires-clause-more g c =
    let i = (run_fits c.args.unit c.args.bits (width c.args.map.now) c.args.run c.requires.unit c.requires.long c.requires.inside).more in
    let s = c.facts.ensures.small in
    omega arith

pub store_turns-requires-clause-step : goal.store_turns-requires-clause-step
store_turns-requires-clause-step g c =
    let i = (run_fits c.args.unit c.args.bits (width c.args.map.now) c.args.run c.requires.unit c.requires.long c.requires.inside).some in
    let e = c.steps_of-steps.ensures.step in
    omega arith

pub store_turns-requires-clause-inside : goal.store_turns-requires-clause-inside
store_turns-requires-clause-inside g c =
    let r = run_fits c.args.unit c.args.bits (width c.args.map.now) c.args.run c.requires.unit c.requires.long c.requires.inside in
    along c.steps_of-steps.result.first c.steps_of-steps.result.step c.steps_of-steps.result.more _ _ _ c.args.bits (width c.args.map.now)
    c.steps_of-steps.ensures.first c.steps_of-steps.ensures.step c.steps_of-steps.ensures.more r.inside

pub returns-then-steps-ge200 : goal.returns-then-steps-ge200
returns-then-steps-ge200 g c =
    IfOk-weaker c.store_turns.result _ _
    (λ d e. e ∙ by_turns g.C.Cells.ops c.args.map.now c.args.unit c.args.bits c.steps_of-steps.result.first c.steps_of-steps.result.step c.steps_of-steps.result.more c.args.run c.args.cell.now
    c.steps_of-steps.ensures.first c.steps_of-steps.ensures.step c.steps_of-steps.ensures.more c.if-steps-ge200.true) c.store_turns.ensures

pub push_steps-requires : goal.push_steps-requires
push_steps-requires g c =
    let r = run_fits c.args.unit c.args.bits (width c.args.map.now) c.args.run c.requires.unit c.requires.long c.requires.inside in
    let s = c.facts.ensures.small in
    let size = c.requires.size.some in
    let i = along_last c.steps_of-steps.result.first c.steps_of-steps.result.step c.steps_of-steps.result.more c.args.bits (width c.args.map.now)
    (along c.steps_of-steps.result.first c.steps_of-steps.result.step c.steps_of-steps.result.more _ _ _ c.args.bits (width c.args.map.now)
    c.steps_of-steps.ensures.first c.steps_of-steps.ensures.step c.steps_of-steps.ensures.more r.inside) in
    record { small = omega arith }

pub store_weak-requires-clause-inside : goal.store_weak-requires-clause-inside
store_weak-requires-clause-inside g c =
    let r = run_fits c.args.unit c.args.bits (width c.args.map.now) c.args.run c.requires.unit c.requires.long c.requires.inside in
    each_within g.C.Cells.ops c.args.bits (width c.args.map.now) c.steps_of-steps.result.first c.steps_of-steps.result.step (c.steps_of-steps.result.more + 1) c.deref.result.now _ _
    c.deref.ensures.value c.in_ok-push_steps.ensures c.new-offsets.ensures.items
    (along_last c.steps_of-steps.result.first c.steps_of-steps.result.step c.steps_of-steps.result.more c.args.bits (width c.args.map.now)
    (along c.steps_of-steps.result.first c.steps_of-steps.result.step c.steps_of-steps.result.more _ _ _ c.args.bits (width c.args.map.now)
    c.steps_of-steps.ensures.first c.steps_of-steps.ensures.step c.steps_of-steps.ensures.more r.inside))

pub returns : goal.returns
returns g c =
    IfOk-weaker c.store_weak.result _ _
    (λ d e. e ∙ by_each g.C.Cells.ops c.args.map.now c.args.unit c.args.bits c.steps_of-steps.result.first c.steps_of-steps.result.step c.steps_of-steps.result.more c.args.run c.args.cell.now
    c.deref.result.now _ _ c.steps_of-steps.ensures.first c.steps_of-steps.ensures.step c.steps_of-steps.ensures.more (omega arith) c.deref.ensures.value c.in_ok-push_steps.ensures c.new-offsets.ensures.items) c.store_weak.ensures
