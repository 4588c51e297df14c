use Rattle.exact_laws.proofs.Closing.{parts_single, sole_put, sole_put_blank}
use Rattle.cell_laws.specs.Access.{put}
use Rattle.exact_laws.proofs.laws.put_is_sole.Goals as goal

pub returns-clause-whole : goal.returns-clause-whole
returns-clause-whole g c = λ k x f s. parts_single g.S.Sole.sole (put g.C.Cells.ops k x) (sole_put g.C.Cells.ops g.C.Cells.fine g.S.Sole.sole g.met.C.Cells.fine_laws g.met.C.Cells.part_laws k x f s)

pub returns-clause-blank : goal.returns-clause-blank
returns-clause-blank g c = λ world k x z f b s. parts_single g.S.Sole.sole (put g.C.Cells.ops k x) (sole_put_blank g.C.Cells.ops g.S.Sole.sole k x b s ((g.met.S.Sole.sole_laws world).fit_blank k x z.some z.few f s b))
