use Rattle.cell_contents.proofs.Singles.{single_laws}
use Rattle.cell_instances.proofs.laws.single_cells_have_one_content.Goals as goal

pub returns : goal.returns
returns c = single_laws
