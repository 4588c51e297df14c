use Rattle.std.proofs.Common.{◌≡◌, FitsSigned}
use Rattle.std.specs.Int.{w128}
use Rattle.std.proofs.lemmas.Int.{to_z-of_z}
use Rattle.ival_arith.specs.Pieces.{none}
use Rattle.ival_arith.specs.Sums.{sums_onto}
use Rattle.ival_arith.proofs.SumCodes.{few_case, not_few}
use Rattle.ival_arith.proofs.sums.few_sums.Goals as goal

pub returns-in-Few : goal.returns-in-Few
returns-in-Few c w h =
    let g : FitsSigned w128 c.args.lo = c.ranges.lo in
    let i : FitsSigned w128 c.args.hi = c.ranges.hi in
    few_case (λ xs. c.sums_with.result.shape ≡ sums_onto c.args.lo c.args.hi none c.args.set.now.shape xs) c.args.others.now.shape c.shape.result.now _ w c.as_slice.result.now c.shape.ensures c.in-Few.is c.as_slice.ensures.value h
    (simp to_z-of_z at c.sums_with.ensures)

pub returns-in-Many : goal.returns-in-Many
returns-in-Many c w h = absurd (not_few c.args.others.now.shape c.shape.result.now w _ c.shape.ensures c.in-Many.is h)
