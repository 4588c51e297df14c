use Rattle.std.proofs.Common.{◌≡◌, ◌≤◌, length, map}
use Rattle.c_base.specs.declared.token.Punctuator.TheVariants as mark
use Rattle.c_parse_base.specs.KnownNames.{kept}
use Rattle.grammar.specs.Forms.{Mark}
use Rattle.grammar.specs.Reading.{several}
use Rattle.grammar.proofs.Loops.{Midst}
use Rattle.c_grammar.specs.Leaves.{C}
use Rattle.c_grammar.specs.Table.{init_declarator, on_mark}
use Rattle.c_unit_tree.specs.Views.{init_kids}
use Rattle.c_parse_decl.specs.Headings.{leaf_of}
use Rattle.c_parse_initialisers.specs.Reads.{at}
use Rattle.c_parse_decl.proofs.declarations.more_declarators.Given as goal

abbrev pub invariant-reading : goal.invariant-reading
invariant-reading l =
    (kept l.names ≡ kept l.initial.names) × (length l.rest ≤ length l.tokens) × (length l.initial.found.items ≤ length l.found.items)
    × Midst C init_kids (at l.depth (Mark mark.Comma (init_declarator (leaf_of l.heading)))) (on_mark mark.Comma) (several C (at l.depth (Mark mark.Comma (init_declarator (leaf_of l.heading)))) (on_mark mark.Comma) (map init_kids l.initial.found.items) l.initial.names.names l.tokens)
    l.found.items l.names.names l.rest

abbrev pub decreases-reading : goal.decreases-reading
decreases-reading l = length l.rest
