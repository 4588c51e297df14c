use Rattle.std.proofs.Common.{◌+ℤ◌, FitsSigned}
use Rattle.std.specs.Int.{w128}
use Rattle.std.proofs.lemmas.Int.{to_z-of_z}
use Rattle.ival_core.specs.Sets.{IsNumber}
use Rattle.ival_arith.proofs.Codes.{has_few}
use Rattle.ival_arith.proofs.SumCodes.{sums-few}
use Rattle.ival_arith.proofs.sums.sums.Goals as goal

pub sums_with-requires-clause-sums : goal.sums_with-requires-clause-sums
sums_with-requires-clause-sums c x y h m = has_few (λ n. IsNumber (x +ℤ n)) c.args.b.now.shape c.shape.result.now _ c.as_slice.result.now c.shape.ensures c.in-Few.is c.as_slice.ensures.value (λ n k. c.requires.sums x n h k) y m

pub returns-in-Few : goal.returns-in-Few
returns-in-Few c =
    let g : FitsSigned w128 c.args.lo = c.ranges.lo in
    let i : FitsSigned w128 c.args.hi = c.ranges.hi in
    sums-few c.args.lo c.args.hi c.args.a.now.shape c.args.b.now.shape c.shape.result.now c.sums_with.result.shape _ c.as_slice.result.now c.shape.ensures c.in-Few.is c.as_slice.ensures.value (simp to_z-of_z at c.sums_with.ensures)
