use Rattle.std.proofs.Common.{sym, ◌∙◌}
use Rattle.avalue_base.proofs.Meanings.{allows_more}
use Rattle.avalue.proofs.cell.Cellv.included.Goals as goal

pub returns-clause-meaning : goal.returns-clause-meaning
returns-clause-meaning c h l k cells f a = allows_more l k c.args.self.now c.args.o.now cells f (sym c.parts_included.ensures ∙ h) a
