use Rattle.ival_core.proofs.Queries.{not_only-option, not_only-many}
use Rattle.ival_core.proofs.value.Ival.as_single.Goals as goal

pub returns-in-Few-clause-none : goal.returns-in-Few-clause-none
returns-in-Few-clause-none c = not_only-option c.args.self.now _ c.as_slice.result.now _ c.in-Few.is c.as_slice.ensures.value c.only.ensures.none

pub returns-in-Many-clause-none : goal.returns-in-Many-clause-none
returns-in-Many-clause-none c = not_only-many c.args.self.now _ c.in-Many.is
