use Rattle.exact_laws.proofs.Closing.{single_parts}
use Rattle.exact_laws.proofs.Reading.{load_reads}
use Rattle.exact_laws.proofs.laws.load_is_exact.Goals as goal

pub returns : goal.returns
returns g c = λ world m at k ks ls z f s l h r w v d e.
    load_reads g.C.Cells.ops g.C.Cells.fine (g.M.Concrete.allows world) (g.M.Concrete.gives world) g.M.Concrete.reads g.S.Sole.sole g.S.Sole.rigid g.S.Sole.settled g.met.C.Cells.fine_laws (g.met.M.Concrete.access_laws world) (g.met.S.Sole.read_laws world) g.met.C.Cells.part_laws (g.met.S.Sole.sole_laws world).piece_sole (g.met.S.Sole.sole_laws world).piece_loose m at k ks z f (single_parts g.S.Sole.sole m s) l h r w v d ls e
