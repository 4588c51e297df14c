use Rattle.std.proofs.Common.{◌≡◌, ◌≤◌, length, map}
use Rattle.c_parse_base.specs.KnownNames.{kept}
use Rattle.grammar.specs.Reading.{several}
use Rattle.grammar.proofs.Loops.{Midst}
use Rattle.c_grammar.specs.Leaves.{C}
use Rattle.c_grammar.specs.Table.{designator, on_designator}
use Rattle.c_unit_tree.specs.Views.{designator_kids}
use Rattle.c_parse_initialisers.specs.Reads.{at}
use Rattle.c_parse_initialisers.proofs.initialisers.more_designators.Given as goal

abbrev pub invariant-reading : goal.invariant-reading
invariant-reading l =
    (kept l.names ≡ kept l.initial.names) × (length l.rest ≤ length l.tokens) × (length l.initial.found.items ≤ length l.found.items)
    × Midst C designator_kids (at l.depth designator) on_designator (several C (at l.depth designator) on_designator (map designator_kids l.initial.found.items) l.initial.names.names l.tokens)
    l.found.items l.names.names l.rest

abbrev pub decreases-reading : goal.decreases-reading
decreases-reading l = length l.rest
