use Rattle.std.proofs.Common.{◌∙◌, sym}
use Rattle.stepper_values.proofs.Cells.{piece-none, piece-some}
use Rattle.stepper_values.proofs.value.piece_of.Goals as goal

pub returns-then-is_empty : goal.returns-then-is_empty
returns-then-is_empty c = sym (piece-none c.args.bases.now c.args.index (sym c.is_empty.ensures ∙ c.if-is_empty.true))

pub returns-else-is_empty : goal.returns-else-is_empty
returns-else-is_empty c = sym (piece-some c.args.bases.now c.args.index (sym c.is_empty.ensures ∙ c.if-is_empty.false))
