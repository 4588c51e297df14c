use Rattle.std.proofs.Common.{◌+◌, ◌*◌, ◌≡◌, ◌≤◌, length, map}
use Rattle.c_base.specs.declared.token.Punctuator.TheVariants as mark
use Rattle.c_parse_base.specs.KnownNames.{kept}
use Rattle.grammar.specs.Forms.{Mark}
use Rattle.grammar.specs.Reading.{several}
use Rattle.grammar.proofs.Loops.{Midst}
use Rattle.c_grammar.specs.Leaves.{C}
use Rattle.c_grammar.specs.Table.{item, on_next_item}
use Rattle.c_unit_tree.specs.Views.{item_kids}
use Rattle.c_parse_initialisers.specs.Reads.{at}
use Rattle.c_parse_initialisers.proofs.initialisers.+braces.Given as goal

abbrev pub decreases-braces_at : goal.decreases-braces_at
decreases-braces_at l = 8 * l.depth

abbrev pub decreases-initialiser_at : goal.decreases-initialiser_at
decreases-initialiser_at l = 8 * l.depth + 1

abbrev pub decreases-item_at : goal.decreases-item_at
decreases-item_at l = 8 * l.depth + 2

abbrev pub decreases-next_item : goal.decreases-next_item
decreases-next_item l = 8 * l.depth + 3

abbrev pub decreases-more_items : goal.decreases-more_items
decreases-more_items l = 8 * l.depth + 4

abbrev pub decreases-items_at : goal.decreases-items_at
decreases-items_at l = 8 * l.depth + 5

abbrev pub decreases-braces_rule : goal.decreases-braces_rule
decreases-braces_rule l = 8 * l.depth + 6

abbrev pub invariant-more_items-reading : goal.invariant-more_items-reading
invariant-more_items-reading l =
    (kept l.names ≡ kept l.initial.names) × (length l.rest ≤ length l.tokens)
    × Midst C item_kids (at l.depth (Mark mark.Comma item)) on_next_item
    (several C (at l.depth (Mark mark.Comma item)) on_next_item (map item_kids l.initial.found.items) l.initial.names.names l.tokens) l.found.items l.names.names l.rest

abbrev pub decreases-more_items-reading : goal.decreases-more_items-reading
decreases-more_items-reading l = length l.rest
