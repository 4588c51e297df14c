-- The formals that the code finds.
use Rattle.std.specs.Prelude.{List, Option, None, Some}
use Rattle.std.specs.Borrow.{Bor}
use Rattle.c_tree.specs.Trees.{Trees, Nil}
use Rattle.c_tree.specs.Views.{parameters_of}
use Rattle.c_tree.specs.declared.tree.TypeName.{TypeName}

abbrev pub formals_trees : Option (Bor (List TypeName)) → Trees
formals_trees None = Nil
formals_trees (Some all) = parameters_of all.now
