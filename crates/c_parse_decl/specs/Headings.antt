-- What the specifiers of a declaration say of its declarators.
use Rattle.std.specs.Prelude.{◌≡◌}
use Rattle.c_tree.specs.Views.{specifiers_of}
use Rattle.c_parse_base.specs.Purposes.{before_of}
use Rattle.c_grammar.specs.Leaves.{Leaf, Specifiers}
use Rattle.c_grammar.specs.Table as table
use Rattle.c_grammar.specs.Table.{makes_typedef}
use Rattle.c_parse_decl.specs.declared.declarations.Heading.{Heading}

abbrev pub leaf_of : Heading → Leaf
leaf_of h = Specifiers (specifiers_of h.specifiers)

pub record IsHeading (h : Heading) : Type 0 where
  pub before : before_of h.before ≡ table.before_of (leaf_of h)
  pub typedef : h.is_typedef ≡ makes_typedef (leaf_of h)
