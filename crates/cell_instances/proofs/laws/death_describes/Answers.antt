use Rattle.cell_contents.proofs.Deaths.{death_laws}
use Rattle.cell_instances.proofs.laws.death_describes.Goals as goal

pub returns : goal.returns
returns c = death_laws
