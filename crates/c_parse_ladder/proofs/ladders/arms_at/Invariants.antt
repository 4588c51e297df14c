use Rattle.std.proofs.Common.{◌≡◌, ◌≤◌, [], length}
use Rattle.c_parse_base.specs.KnownNames.{kept}
use Rattle.grammar.specs.Reading.{several}
use Rattle.grammar.proofs.Loops.{Midst}
use Rattle.c_grammar.specs.Leaves.{C}
use Rattle.c_grammar.specs.Table.{arm, on_else_if}
use Rattle.c_unit_tree.specs.Views.{arm_kids}
use Rattle.c_parse_initialisers.specs.Reads.{at}
use Rattle.c_parse_ladder.proofs.ladders.arms_at.Given as goal

abbrev pub invariant-climbing : goal.invariant-climbing
invariant-climbing g l =
    (kept l.names ≡ kept l.initial.names) × (length l.rest ≤ length l.tokens)
    × Midst C arm_kids (at (g.B.StatementsBelow.depth l.below) arm) on_else_if (several C (at (g.B.StatementsBelow.depth l.below) arm) on_else_if [] l.initial.names.names l.tokens) l.found.items l.names.names l.rest

abbrev pub decreases-climbing : goal.decreases-climbing
decreases-climbing g l = length l.rest
