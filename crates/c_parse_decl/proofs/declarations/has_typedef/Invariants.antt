use Rattle.std.proofs.Common.{◌≡◌, ◌||◌, drop}
use Rattle.c_tree.specs.Views.{specifiers_of}
use Rattle.c_grammar.specs.Table.{has_typedef}
use Rattle.c_parse_decl.proofs.declarations.has_typedef.Given as goal

abbrev pub invariant-loop-each : goal.invariant-loop-each
invariant-loop-each l = l.found || has_typedef (specifiers_of (drop l.each-index l.all)) ≡ has_typedef (specifiers_of l.all)
