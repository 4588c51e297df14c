use Rattle.std.proofs.Common.{◌≡◌, Some, drop}
use Rattle.ival_arith.specs.Pieces.{none}
use Rattle.ival_arith.specs.Values.{numbers_divided}
use Rattle.ival_arith.proofs.divisors.numbers_divided.Given as goal

abbrev pub invariant-loop-x : goal.invariant-loop-x
invariant-loop-x l =
    numbers_divided l.part l.format.signed l.format.width l.divisors.shape (Some l.all.shape) (drop l.x-index l.numbers) ≡ numbers_divided l.part l.format.signed l.format.width l.divisors.shape (Some none) l.numbers
