use Rattle.offmap_laws.proofs.Among.{among}
use Rattle.cell_laws.proofs.Accesses.{loaded_all_gives}
use Rattle.offmap_laws.proofs.laws.load_gives.Goals as goal

pub returns : goal.returns
returns g c = λ world m ats at k ks s f h w d i. loaded_all_gives g.C.Cells.ops g.C.Cells.fine (g.M.Concrete.allows world) (g.M.Concrete.gives world) g.met.C.Cells.part_laws (g.met.M.Concrete.access_laws world) m ats at k ks g.met.C.Cells.fine_laws s f h w d (among ats at i)
