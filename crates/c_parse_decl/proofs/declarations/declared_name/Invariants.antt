use Rattle.std.proofs.Common.{◌≡◌}
use Rattle.c_tree.specs.Nesting.{nest}
use Rattle.c_tree.specs.Views.{declarator_tree}
use Rattle.c_tree.specs.WellFormed.{declared_name}
use Rattle.c_parse_decl.proofs.declarations.declared_name.Given as goal

abbrev pub invariant-entering : goal.invariant-entering
invariant-entering l = declared_name (declarator_tree l.declarator) ≡ declared_name (declarator_tree l.inner)

abbrev pub decreases-entering : goal.decreases-entering
decreases-entering l = nest (declarator_tree l.inner)
