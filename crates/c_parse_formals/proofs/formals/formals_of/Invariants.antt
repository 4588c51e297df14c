use Rattle.std.proofs.Common.{◌≡◌}
use Rattle.c_tree.specs.Nesting.{nest}
use Rattle.c_tree.specs.Trees.{Nil}
use Rattle.c_tree.specs.Views.{core_tree, declarator_tree, suffixes_of}
use Rattle.c_grammar.specs.Table.{behind_name}
use Rattle.c_parse_formals.proofs.formals.formals_of.Given as goal

abbrev pub invariant-entering : goal.invariant-entering
invariant-entering l = behind_name (declarator_tree l.declarator) Nil ≡ behind_name (core_tree l.inner.core) (suffixes_of l.outer)

abbrev pub decreases-entering : goal.decreases-entering
decreases-entering l = nest (declarator_tree l.inner)
