use Rattle.ival_core.specs.Sets.{Steps}
use Rattle.ival_core.proofs.Hulls.{Spans-run}
use Rattle.ival_core.proofs.Joins.{run_long, run_least}
use Rattle.ival_core.proofs.Runs.{Steps-number}
use Rattle.ival_core.proofs.lattice.join_runs.Goals as goal

pub invariant_of-result : goal.invariant_of-result
invariant_of-result c = record {
  valid = run_long (Steps c.args.second) c.args.first c.args.second c.hull.result c.requires.first (λ n m. Steps-number c.args.second n c.requires.second m) (Spans-run c.args.second c.requires.second) c.hull.ensures;
}

pub returns : goal.returns
returns c = run_least (Steps c.args.second) c.args.first c.args.second c.hull.result c.requires.first (Spans-run c.args.second c.requires.second) c.hull.ensures
