use Rattle.aops_relations.proofs.Differing.{far_same}
use Rattle.aops_relations.proofs.differences.far_numbers.Goals as goal

pub returns : goal.returns
returns c = far_same c.run_from.result c.run_from.ensures.value
