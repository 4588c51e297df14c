use Rattle.std.proofs.Common.{[], length}
use Rattle.grammar.specs.Forms.{Done, Sub}
use Rattle.grammar.specs.Reading.{several}
use Rattle.grammar.proofs.Loops.{Midst}
use Rattle.c_grammar.specs.declared.rule.Sort.TheVariants as sort
use Rattle.c_grammar.specs.Leaves.{C}
use Rattle.c_grammar.specs.Units.{on_token}
use Rattle.c_unit_tree.specs.Views.{external_kids}
use Rattle.c_parse_initialisers.specs.Reads.{at}
use Rattle.c_parse_unit.proofs.parse.externals_at.Given as goal

abbrev pub invariant-reading : goal.invariant-reading
invariant-reading l =
    Midst C external_kids (at l.depth (Sub sort.External Done)) on_token (several C (at l.depth (Sub sort.External Done)) on_token [] l.initial.names.names l.tokens) l.found.items l.names.names l.rest

abbrev pub decreases-reading : goal.decreases-reading
decreases-reading l = length l.rest
