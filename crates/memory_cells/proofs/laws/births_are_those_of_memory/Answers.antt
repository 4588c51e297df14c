use Rattle.memory_cells.proofs.Births.{born_describes}
use Rattle.memory_cells.proofs.laws.births_are_those_of_memory.Goals as goal

pub returns : goal.returns
returns c = λ l size_of bs m memory held e d. born_describes l size_of e bs m memory held d
