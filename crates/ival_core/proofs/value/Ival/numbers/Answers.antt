use Rattle.ival_core.proofs.Queries.{HoldsMany-many}
use Rattle.ival_core.proofs.value.Ival.numbers.Goals as goal

pub returns-in-Many-clause-none : goal.returns-in-Many-clause-none
returns-in-Many-clause-none c = HoldsMany-many c.args.self.now _ c.in-Many.is
