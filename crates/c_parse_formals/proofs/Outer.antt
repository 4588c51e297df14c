-- What stands behind a declarator's name, and what its parameters declare.
use Rattle.std.proofs.Common.{◌≡◌, ℕ, false, List, [], ◌∷◌, Option, None, Some, refl}
use Rattle.c_tree.specs.declared.tree.Pointer.{Pointer}
use Rattle.c_tree.specs.Trees.{Trees, Nil, Next}
use Rattle.c_tree.specs.WellFormed.{Names, declare}
use Rattle.c_grammar.specs.Table.{declare_as, suffixes_or}

pub own_alone : (own : Trees) (pointers : List Pointer) → suffixes_or own pointers Nil ≡ own
own_alone Nil [] = refl
own_alone Nil (p ∷ more) = refl
own_alone (Next t more) pointers = refl

pub ordinary_name : (name : Option (List ℕ)) (names : Names) → declare_as false name names ≡ declare name names
ordinary_name None names = refl
ordinary_name (Some name) names = refl
