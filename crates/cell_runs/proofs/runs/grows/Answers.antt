use Rattle.std.proofs.Common.{◌-◌, arith, length}
use Rattle.cell_runs.proofs.Pushing.{stays}
use Rattle.cell_runs.proofs.runs.grows.Goals as goal

pub returns-then-last-run-clause-other : goal.returns-then-last-run-clause-other
returns-then-last-run-clause-other g c h =
    stays c.args.out.now c.index-out-n.result c.args.run.now (length c.args.out.now - 1) (omega arith) c.index-out-n.is (λ b d. absurd (c.if-last-run.true b))

pub returns-then-last-run-2-clause-other : goal.returns-then-last-run-2-clause-other
returns-then-last-run-2-clause-other g c h =
    stays c.args.out.now c.index-out-n.result c.args.run.now (length c.args.out.now - 1) (omega arith) c.index-out-n.is (λ b d. omega arith)

pub returns-clause-same : goal.returns-clause-same
returns-clause-same g c h = record {
  at = length c.args.out.now - 1;
  last = c.index-out-n.result;
  one_more = omega arith;
  is = c.index-out-n.is;
  bits = omega arith;
  cell = c.is_same.ensures.same h;
  fits = omega arith;
}

pub returns-clause-other : goal.returns-clause-other
returns-clause-other g c h =
    stays c.args.out.now c.index-out-n.result c.args.run.now (length c.args.out.now - 1) (omega arith) c.index-out-n.is (λ b d. absurd (c.is_same.ensures.other h d))
