use Rattle.ival_core.specs.Sets.{IsNumber}
use Rattle.ival_core.proofs.Runs.{Steps-low}
use Rattle.ival_arith.specs.Pieces.{changed}
use Rattle.ival_arith.proofs.Parts.{map-numbers}
use Rattle.ival_arith.proofs.Codes.{changed_few, changed_run, has_few, has_run, valid_run}
use Rattle.ival_arith.proofs.pieces.changed.Goals as goal

pub few_changed-requires : goal.few_changed-requires
few_changed-requires c =
    map-numbers (changed c.args.change) c.as_slice.result.now
    (has_few (λ n. IsNumber (changed c.args.change n)) c.args.set.now.shape c.shape.result.now _ c.as_slice.result.now c.shape.ensures c.in-Few.is c.as_slice.ensures.value (λ n h. c.requires.numbers n h))

pub run_with-requires-clause-low : goal.run_with-requires-clause-low
run_with-requires-clause-low c =
    c.requires.numbers _ (has_run c.args.set.now.shape c.shape.result.now _ c.shape.ensures c.in-Many.is _
    (Steps-low _ (valid_run c.args.set.now.shape c.shape.result.now _ c.shape.ensures c.in-Many.is c.args.set.now.valid)))

pub returns-in-Few : goal.returns-in-Few
returns-in-Few c = changed_few c.args.change c.args.set.now.shape c.shape.result.now c.few_changed.result.shape _ c.as_slice.result.now c.shape.ensures c.in-Few.is c.as_slice.ensures.value c.few_changed.ensures

pub returns-in-Many : goal.returns-in-Many
returns-in-Many c = changed_run c.args.change c.args.set.now.shape c.shape.result.now c.run_with.result.shape _ c.shape.ensures c.in-Many.is c.run_with.ensures
