use Rattle.std.proofs.Common.{◌+ℤ◌, FitsSigned, sym, subst}
use Rattle.std.specs.Int.{w128}
use Rattle.std.proofs.lemmas.Int.{to_z-of_z}
use Rattle.ival_core.specs.Sets.{IsNumber, Has}
use Rattle.ival_arith.proofs.Codes.{has_few, has_run}
use Rattle.ival_arith.proofs.Adding.{turned}
use Rattle.ival_arith.proofs.SumCodes.{sums-few_run, sums-run}
use Rattle.ival_arith.proofs.sums.sums_with_run.Goals as goal

pub sums_with-requires-clause-sums : goal.sums_with-requires-clause-sums
sums_with-requires-clause-sums c x y h m =
    subst IsNumber (turned y x) (has_few (λ n. IsNumber (n +ℤ x)) c.args.a.now.shape c.shape.result.now _ c.as_slice.result.now c.shape.ensures c.in-Few.is c.as_slice.ensures.value (λ n k. c.requires.sums n x k h) y m)

pub run_sums-requires-clause-sums : goal.run_sums-requires-clause-sums
run_sums-requires-clause-sums c x y h k =
    c.requires.sums x y (has_run c.args.a.now.shape c.shape.result.now _ c.shape.ensures c.in-Many.is x h) (subst (λ s. Has s y) (sym c.requires.run) k)

pub returns-in-Few : goal.returns-in-Few
returns-in-Few c =
    let g : FitsSigned w128 c.args.lo = c.ranges.lo in
    let i : FitsSigned w128 c.args.hi = c.ranges.hi in
    sums-few_run c.args.lo c.args.hi c.args.a.now.shape c.args.b.now.shape c.shape.result.now c.sums_with.result.shape _ c.as_slice.result.now c.args.q c.requires.run c.shape.ensures c.in-Few.is c.as_slice.ensures.value (simp to_z-of_z at c.sums_with.ensures)

pub returns-in-Many : goal.returns-in-Many
returns-in-Many c =
    let g : FitsSigned w128 c.args.lo = c.ranges.lo in
    let i : FitsSigned w128 c.args.hi = c.ranges.hi in
    sums-run c.args.lo c.args.hi c.args.a.now.shape c.args.b.now.shape c.shape.result.now c.run_sums.result.shape _ c.args.q c.requires.run c.shape.ensures c.in-Many.is (simp to_z-of_z at c.run_sums.ensures)
