use Rattle.std.proofs.Common.{◌∙◌, arith}
use Rattle.std.proofs.lemmas.Result.{IfOk-weaker}
use Rattle.cell_laws.specs.Elements.{width}
use Rattle.map_accesses.proofs.Fitting.{few_small, set_few, set_run, long_run}
use Rattle.map_accesses.proofs.Turning.{few_offsets, stores_few, stores_run}
use Rattle.map_accesses.proofs.accesses.store_weak.Goals as goal

pub offsets_of-requires : goal.offsets_of-requires
offsets_of-requires g c =
    few_small c.args.unit c.args.bits (width c.args.map.now) c.as_slice.result.now c.requires.unit c.facts.ensures.small
    (set_few c.args.unit c.args.bits (width c.args.map.now) c.args.at.now.shape c.shape.result.now _ c.as_slice.result.now c.shape.ensures c.in-Few.is c.as_slice.ensures.value c.requires.inside)

pub store_weak-requires-clause-inside : goal.store_weak-requires-clause-inside
store_weak-requires-clause-inside g c =
    few_offsets g.C.Cells.ops c.args.unit c.args.bits (width c.args.map.now) c.as_slice.result.now c.deref.result.now _ c.deref.ensures.value c.in_ok-offsets-in-Few.ensures
    (set_few c.args.unit c.args.bits (width c.args.map.now) c.args.at.now.shape c.shape.result.now _ c.as_slice.result.now c.shape.ensures c.in-Few.is c.as_slice.ensures.value c.requires.inside)

pub returns-in_ok-offsets-in-Few : goal.returns-in_ok-offsets-in-Few
returns-in_ok-offsets-in-Few g c =
    IfOk-weaker c.store_weak.result _ _
    (λ d e. e ∙ stores_few g.C.Cells.ops c.args.map.now c.args.unit c.args.bits c.args.cell.now c.args.at.now.shape c.shape.result.now _ c.as_slice.result.now c.deref.result.now _ c.shape.ensures c.in-Few.is c.as_slice.ensures.value
    c.deref.ensures.value c.in_ok-offsets-in-Few.ensures) c.store_weak.ensures

pub store_along-requires-clause-long : goal.store_along-requires-clause-long
store_along-requires-clause-long g c = long_run c.args.at.now c.shape.result.now _ c.shape.ensures c.in-Many.is

pub store_along-requires-clause-inside : goal.store_along-requires-clause-inside
store_along-requires-clause-inside g c = set_run c.args.unit c.args.bits (width c.args.map.now) c.args.at.now.shape c.shape.result.now _ c.shape.ensures c.in-Many.is c.requires.inside

pub returns-in-Many : goal.returns-in-Many
returns-in-Many g c =
    IfOk-weaker c.store_along.result _ _
    (λ d e. e ∙ stores_run g.C.Cells.ops c.args.map.now c.args.unit c.args.bits c.args.cell.now c.args.at.now.shape c.shape.result.now _ c.shape.ensures c.in-Many.is) c.store_along.ensures
