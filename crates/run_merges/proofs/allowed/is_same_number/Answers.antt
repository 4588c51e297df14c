use Rattle.std.proofs.Common.{sym, ◌∙◌}
use Rattle.run_merges.proofs.Allowing.{other_number, one_number}
use Rattle.run_merges.proofs.allowed.is_same_number.Goals as goal

pub returns-then-not-is_known : goal.returns-then-not-is_known
returns-then-not-is_known g c = other_number g.C.Cells.ops c.args.bits c.args.first.now c.args.second.now (sym c.is_known.ensures ∙ c.if-not-is_known.true)

pub returns : goal.returns
returns g c = c.is_known-2.ensures ∙ one_number g.C.Cells.ops c.args.bits c.args.first.now c.args.second.now (sym c.is_known.ensures ∙ c.if-not-is_known.false)
