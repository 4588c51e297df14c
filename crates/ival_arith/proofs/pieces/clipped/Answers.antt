use Rattle.std.proofs.Common.{FitsSigned}
use Rattle.std.specs.Int.{w128}
use Rattle.std.proofs.lemmas.Int.{to_z-of_z}
use Rattle.ival_arith.proofs.Codes.{clipped_few, clipped_run}
use Rattle.ival_arith.proofs.pieces.clipped.Goals as goal

pub returns-in-Few : goal.returns-in-Few
returns-in-Few c =
    let g : FitsSigned w128 c.args.lo = c.ranges.lo in
    let h : FitsSigned w128 c.args.hi = c.ranges.hi in
    clipped_few c.args.lo c.args.hi c.args.set.now.shape c.shape.result.now c.few_clipped.result.shape _ c.as_slice.result.now c.shape.ensures c.in-Few.is c.as_slice.ensures.value (simp to_z-of_z at c.few_clipped.ensures)

pub returns-in-Many : goal.returns-in-Many
returns-in-Many c =
    let g : FitsSigned w128 c.args.lo = c.ranges.lo in
    let h : FitsSigned w128 c.args.hi = c.ranges.hi in
    clipped_run c.args.lo c.args.hi c.args.set.now.shape c.shape.result.now c.run_clipped.result.shape _ c.shape.ensures c.in-Many.is (simp to_z-of_z at c.run_clipped.ensures)
