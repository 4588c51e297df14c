-- The trees of what stands behind the specifiers of an external declaration.
use Rattle.std.specs.Prelude.{List, [], ◌∷◌, map}
use Rattle.c_tree.specs.Views.{declarator_tree}
use Rattle.c_unit_tree.specs.declared.declaration.InitDeclarator.{InitDeclarator}
use Rattle.grammar.specs.Forms.{Tree, Trees, Nil, Value}
use Rattle.c_grammar.specs.Leaves.{C, ADeclarator}
use Rattle.c_unit_tree.specs.Views.{body_tree, external_declarators, init_kids, kids, listing, other, rest_kids, some}
use Rattle.c_parse_unit.specs.declared.nodes.Declared.{Declared}
use Rattle.c_parse_unit.specs.declared.nodes.Declared.TheVariants as declared
use Rattle.c_parse_unit.specs.declared.nodes.Others.{Others}

-- what stands behind the first declarator, and further declarators
abbrev pub others_kids : Others → List (Trees C)
others_kids o = rest_kids o.first ∷ map init_kids o.more.items

abbrev pub objects_kids : List InitDeclarator → Trees C
objects_kids [] = Nil
objects_kids (d ∷ more) = kids (Value (ADeclarator (declarator_tree d.declarator)) ∷ other (listing (rest_kids d.rest ∷ map init_kids more) ∷ []) ∷ [])

abbrev pub declared_kids : Declared → Trees C
declared_kids (declared.Objects all) = objects_kids all
declared_kids (declared.Function declarator body) = kids (Value (ADeclarator (declarator_tree declarator)) ∷ some (some (body_tree body ∷ []) ∷ []) ∷ [])

-- a declarator is there
abbrev pub IsNamed : Declared → Type 0
IsNamed (declared.Objects []) = ⊥
IsNamed _ = Unit {0}
