use Rattle.avalue_values.proofs.Values.{joined_first, joined_second, joined_least}
use Rattle.avalue_values.proofs.value.AVal.join.Goals as goal

pub returns-clause-first : goal.returns-clause-first
returns-clause-first c = joined_first c.join_parts.result c.args.self.now c.args.o.now c.join_parts.ensures

pub returns-clause-second : goal.returns-clause-second
returns-clause-second c = joined_second c.join_parts.result c.args.self.now c.args.o.now c.join_parts.ensures

pub returns-clause-least : goal.returns-clause-least
returns-clause-least c = joined_least c.join_parts.result c.args.self.now c.args.o.now c.join_parts.ensures
