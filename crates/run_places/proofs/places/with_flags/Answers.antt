use Rattle.std.proofs.Common.{sym, ◌∙◌}
use Rattle.run_places.proofs.places.with_flags.Goals as goal

pub returns-then-is_within : goal.returns-then-is_within
returns-then-is_within g c =
    sym (g.met.C.Cells.join_laws.shade_same c.args.run.now.bits c.args.bits c.args.run.now.cell c.args.cell c.requires.run c.requires.fine c.requires.blank (sym c.is_within.ensures ∙ c.if-is_within.true))
