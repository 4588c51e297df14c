use Rattle.std.proofs.Common.{◌≡◌, drop}
use Rattle.ival_core.specs.Joined.{with_numbers}
use Rattle.ival_arith.specs.Pieces.{gathered}
use Rattle.ival_arith.specs.Values.{rows}
use Rattle.ival_arith.proofs.values.few_results.Given as goal

abbrev pub invariant-loop-x : goal.invariant-loop-x
invariant-loop-x l =
    with_numbers l.all.shape (rows l.op l.format.signed l.format.width (drop l.x-index l.numbers) l.others) ≡ gathered (rows l.op l.format.signed l.format.width l.numbers l.others)
