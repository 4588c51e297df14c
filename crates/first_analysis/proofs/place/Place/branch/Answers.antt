use Rattle.first_analysis.proofs.Branching.{branches}
use Rattle.first_analysis.proofs.place.Place.branch.Goals as goal

pub returns-in_ok-split-in-Some-clause-branches : goal.returns-in_ok-split-in-Some-clause-branches
returns-in_ok-split-in-Some-clause-branches c = branches (record c.args.self.now { kinds = c.in_ok-split-in-Some.split.kinds }) c.as_slice.result.now _ c.in_ok-split-in-Some.split (cc) c.in_ok-split-in-Some.ensures
