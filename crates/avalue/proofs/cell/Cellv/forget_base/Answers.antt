use Rattle.avalue.proofs.Cells.{forgotten_allows}
use Rattle.avalue.proofs.cell.Cellv.forget_base.Goals as goal

pub returns-clause-meaning : goal.returns-clause-meaning
returns-clause-meaning c = forgotten_allows c.forget_part.result c.args.base.0 c.args.self.now c.forget_part.ensures
