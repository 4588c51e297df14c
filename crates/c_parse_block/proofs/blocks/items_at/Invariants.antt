use Rattle.std.proofs.Common.{◌≡◌, ◌≤◌, [], length}
use Rattle.c_base.specs.declared.token.Punctuator.TheVariants as mark
use Rattle.c_parse_base.specs.KnownNames.{kept}
use Rattle.grammar.specs.Reading.{several}
use Rattle.grammar.proofs.Loops.{Midst}
use Rattle.c_grammar.specs.Leaves.{C}
use Rattle.c_grammar.specs.Table.{block_item, until_mark}
use Rattle.c_unit_tree.specs.Views.{block_item_kids}
use Rattle.c_parse_initialisers.specs.Reads.{at}
use Rattle.c_parse_block.proofs.blocks.items_at.Given as goal

abbrev pub invariant-reading : goal.invariant-reading
invariant-reading g l =
    (kept l.names ≡ kept l.initial.names) × (length l.rest ≤ length l.tokens)
    × Midst C block_item_kids (at (g.B.StatementsBelow.depth l.below) block_item) (until_mark mark.CloseBrace)
    (several C (at (g.B.StatementsBelow.depth l.below) block_item) (until_mark mark.CloseBrace) [] l.initial.names.names l.tokens) l.found.items l.names.names l.rest

abbrev pub decreases-reading : goal.decreases-reading
decreases-reading g l = length l.rest
