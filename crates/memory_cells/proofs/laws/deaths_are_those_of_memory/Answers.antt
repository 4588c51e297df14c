use Rattle.memory_cells.proofs.Withering.{scope_is}
use Rattle.memory_cells.proofs.laws.deaths_are_those_of_memory.Goals as goal

pub returns : goal.returns
returns c = λ l bs m memory held i a d. scope_is l bs m memory held i a d
