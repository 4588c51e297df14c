use Rattle.std.proofs.Common.{sym, ◌∙◌}
use Rattle.run_merges.proofs.Allowing.{allowed_start, allowed_any, allowed_bare, allowed_known}
use Rattle.run_merges.proofs.allowed.is_allowed.Goals as goal

pub returns-then-is_included : goal.returns-then-is_included
returns-then-is_included g c =
    allowed_start g.C.Cells.ops c.args.bits c.args.first.now c.args.second.now c.requires.some (sym c.is_included.ensures ∙ c.if-is_included.true)

pub returns-then-admits : goal.returns-then-admits
returns-then-admits g c =
    allowed_any g.C.Cells.ops c.args.bits c.args.first.now c.args.second.now c.requires.some (sym c.is_included.ensures ∙ c.if-is_included.false) (sym c.admits.ensures ∙ c.if-admits.true)

pub returns-then-is_bare : goal.returns-then-is_bare
returns-then-is_bare g c =
    allowed_bare g.C.Cells.ops c.args.bits c.args.first.now c.args.second.now c.requires.some (sym c.is_included.ensures ∙ c.if-is_included.false) (sym c.admits.ensures ∙ c.if-admits.false)
    (sym c.is_bare.ensures ∙ c.if-is_bare.true)

pub returns : goal.returns
returns g c =
    c.is_known.ensures ∙ allowed_known g.C.Cells.ops c.args.bits c.args.first.now c.args.second.now c.requires.some (sym c.is_included.ensures ∙ c.if-is_included.false)
    (sym c.admits.ensures ∙ c.if-admits.false) (sym c.is_bare.ensures ∙ c.if-is_bare.false)
