-- The trees of the grammar that the code's trees stand for.
use Rattle.std.specs.Prelude.{true, false, List, [], ◌∷◌, map, Option, None, Some}
use Rattle.c_tree.specs.declared.tree.Attribute.{Attribute as CodeAttribute}
use Rattle.c_tree.specs.declared.tree.Expr.{Expr}
use Rattle.c_tree.specs.declared.tree.Specifier.{Specifier}
use Rattle.c_tree.specs.Views.{declarator_tree, specifiers_of, tree_of}
use Rattle.grammar.specs.Forms.{Tree, Place, Name, Value, Node, Group, Trees, Nil, Next}
use Rattle.grammar.specs.Reading.{groups}
use Rattle.c_grammar.specs.declared.rule.Rule.TheVariants as rule
use Rattle.c_grammar.specs.Leaves.{C, AnExpr, Specifiers, ADeclarator, Literals, Attributes, AnAttribute}
use Rattle.c_unit_tree.specs.declared.declaration.Assembly.{Assembly}
use Rattle.c_unit_tree.specs.declared.declaration.Declaration.{Declaration}
use Rattle.c_unit_tree.specs.declared.declaration.Declaration.TheVariants as declaration
use Rattle.c_unit_tree.specs.declared.declaration.DeclaratorRest.{DeclaratorRest}
use Rattle.c_unit_tree.specs.declared.declaration.Designator.{Designator}
use Rattle.c_unit_tree.specs.declared.declaration.Designator.TheVariants as designator
use Rattle.c_unit_tree.specs.declared.declaration.InitDeclarator.{InitDeclarator}
use Rattle.c_unit_tree.specs.declared.declaration.Initialiser.{Initialiser, fold-Initialiser}
use Rattle.c_unit_tree.specs.declared.declaration.Initialiser.TheOpen.{Initialiser-F, Item-F, Braces-F}
use Rattle.c_unit_tree.specs.declared.declaration.Braces.{Braces, fold-Braces}
use Rattle.c_unit_tree.specs.declared.declaration.Item.{Item, fold-Item}
use Rattle.c_unit_tree.specs.declared.statement.Arm.{Arm, fold-Arm}
use Rattle.c_unit_tree.specs.declared.statement.BlockItem.{BlockItem, fold-BlockItem}
use Rattle.c_unit_tree.specs.declared.statement.BlockItem.TheOpen.{Arm-F, BlockItem-F, Statement-F}
use Rattle.c_unit_tree.specs.declared.statement.First.{First}
use Rattle.c_unit_tree.specs.declared.statement.First.TheVariants as first
use Rattle.c_unit_tree.specs.declared.statement.Statement.{Statement, fold-Statement}
use Rattle.c_unit_tree.specs.declared.unit.Body.{Body}
use Rattle.c_unit_tree.specs.declared.unit.External.{External}
use Rattle.c_unit_tree.specs.declared.unit.External.TheVariants as external
use Rattle.c_unit_tree.specs.declared.unit.Unit.{Unit as CodeUnit}

abbrev pub kids : List (Tree C) → Trees C
kids [] = Nil
kids (t ∷ more) = Next t (kids more)

-- a part, the first of two alternatives, and a tree that is there
abbrev pub some : List (Tree C) → Tree C
some all = Group true (kids all)

-- the second of two alternatives
abbrev pub other : List (Tree C) → Tree C
other all = Group false (kids all)

-- one element after the other
abbrev pub listing : List (Trees C) → Tree C
listing all = Group true (groups C all)

abbrev pub expr_value : Expr → Tree C
expr_value e = Value (AnExpr (tree_of e))

abbrev pub optional_value : Option Expr → Tree C
optional_value None = other []
optional_value (Some e) = some (expr_value e ∷ [])

-- ---- initialisers

abbrev pub designator_kids : Designator Expr → Trees C
designator_kids (designator.Index e) = kids (some (expr_value e ∷ []) ∷ [])
designator_kids (designator.Member name) = kids (other (Name name ∷ []) ∷ [])

abbrev pub designation_of : List (Designator Expr) → Tree C
designation_of [] = other []
designation_of (d ∷ more) = some (listing (map designator_kids (d ∷ more)) ∷ [])

abbrev pub initialiser_step : Initialiser-F Expr (Tree C) (Tree C) (Trees C) → Tree C
initialiser_step (Initialiser-F.Expression e) = other (expr_value e ∷ [])
initialiser_step (Initialiser-F.Braces b) = some (b ∷ [])

abbrev pub braces_step : Braces-F Expr (Tree C) (Tree C) (Trees C) → Tree C
braces_step b = Node rule.Braces (kids (Place b.span ∷ listing b.items ∷ Group b.comma Nil ∷ []))

abbrev pub item_step : Item-F Expr (Tree C) (Tree C) (Trees C) → Trees C
item_step i = kids (designation_of i.designators ∷ i.value ∷ [])

abbrev pub initialiser_tree : Initialiser Expr → Tree C
initialiser_tree = fold-Initialiser Expr (Tree C) (Tree C) (Trees C) initialiser_step braces_step item_step

abbrev pub initialiser_kids : Initialiser Expr → Trees C
initialiser_kids i = kids (initialiser_tree i ∷ [])

abbrev pub braces_tree : Braces Expr → Tree C
braces_tree = fold-Braces Expr (Tree C) (Tree C) (Trees C) initialiser_step braces_step item_step

abbrev pub item_kids : Item Expr → Trees C
item_kids = fold-Item Expr (Tree C) (Tree C) (Trees C) initialiser_step braces_step item_step

-- ---- declarations

abbrev pub assembly_of : Option Assembly → Tree C
assembly_of None = other []
assembly_of (Some a) = some (Value (Literals a.literals) ∷ [])

abbrev pub initialiser_of : Option (Initialiser Expr) → Tree C
initialiser_of None = other []
initialiser_of (Some i) = some (initialiser_tree i ∷ [])

abbrev pub optional_initialiser : Option (Initialiser Expr) → Trees C
optional_initialiser i = kids (initialiser_of i ∷ [])

abbrev pub assembly_kids : Assembly → Trees C
assembly_kids a = kids (Value (Literals a.literals) ∷ [])

abbrev pub rest_kids : DeclaratorRest → Trees C
rest_kids r = kids (assembly_of r.assembly ∷ Value (Attributes r.attributes) ∷ initialiser_of r.initialiser ∷ [])

abbrev pub init_kids : InitDeclarator → Trees C
init_kids d = Next (Value (ADeclarator (declarator_tree d.declarator))) (rest_kids d.rest)

abbrev pub declarators_of : List InitDeclarator → Tree C
declarators_of [] = other []
declarators_of (d ∷ more) = some (listing (map init_kids (d ∷ more)) ∷ [])

abbrev pub specifiers_value : List Specifier → Tree C
specifiers_value all = Value (Specifiers (specifiers_of all))

abbrev pub declaration_tree : Declaration → Tree C
declaration_tree (declaration.Declarators span specifiers declarators) =
    Node rule.Declaration (kids (Place span ∷ specifiers_value specifiers ∷ declarators_of declarators ∷ []))
declaration_tree (declaration.Assertion span condition literals) = Node rule.Assertion (kids (Place span ∷ expr_value condition ∷ Value (Literals literals) ∷ []))

-- ---- statements

-- a substatement
abbrev pub branch_of : Tree C → Tree C
branch_of t = some (t ∷ [])

abbrev pub first_kids : First Expr Declaration → Trees C
first_kids (first.Declaration d) = kids (some (declaration_tree d ∷ []) ∷ [])
first_kids (first.Expression e) = kids (other (optional_value e ∷ []) ∷ [])

abbrev pub last_of : Option (Tree C) → Tree C
last_of None = other []
last_of (Some t) = some (branch_of t ∷ [])

abbrev pub block_item_step : BlockItem-F Expr Declaration CodeAttribute (Trees C) (Tree C) (Trees C) → Trees C
block_item_step (BlockItem-F.Declaration d) = kids (some (declaration_tree d ∷ []) ∷ [])
block_item_step (BlockItem-F.Statement s) = kids (other (s ∷ []) ∷ [])

abbrev pub arm_step : Arm-F Expr Declaration CodeAttribute (Trees C) (Tree C) (Trees C) → Trees C
arm_step a = kids (Place a.span ∷ expr_value a.condition ∷ branch_of a.branch ∷ [])

abbrev pub statement_step : Statement-F Expr Declaration CodeAttribute (Trees C) (Tree C) (Trees C) → Tree C
statement_step (Statement-F.Block span items) = Node rule.Block (kids (Place span ∷ some (listing items ∷ []) ∷ []))
statement_step (Statement-F.Expression span value) = Node rule.Expression (kids (Place span ∷ optional_value value ∷ []))
statement_step (Statement-F.Attribute span attribute) = Node rule.Attribute (kids (Place span ∷ Value (AnAttribute attribute) ∷ []))
statement_step (Statement-F.If span condition branch more otherwise) =
    Node rule.If (kids (Place span ∷ some (expr_value condition ∷ branch_of branch ∷ listing more ∷ last_of otherwise ∷ []) ∷ []))
statement_step (Statement-F.Switch span value body) = Node rule.Switch (kids (Place span ∷ some (expr_value value ∷ branch_of body ∷ []) ∷ []))
statement_step (Statement-F.While span condition body) = Node rule.While (kids (Place span ∷ some (expr_value condition ∷ branch_of body ∷ []) ∷ []))
statement_step (Statement-F.Do span body place condition) =
    Node rule.Do (kids (Place span ∷ some (branch_of body ∷ Place place ∷ expr_value condition ∷ []) ∷ []))
statement_step (Statement-F.For span begin second third body) =
    Node rule.For (kids (Place span ∷ some (Group true (first_kids begin) ∷ optional_value second ∷ optional_value third ∷ branch_of body ∷ []) ∷ []))
statement_step (Statement-F.Goto span name) = Node rule.Goto (kids (Place span ∷ Name name ∷ []))
statement_step (Statement-F.Continue span) = Node rule.Continue (kids (Place span ∷ []))
statement_step (Statement-F.Break span) = Node rule.Break (kids (Place span ∷ []))
statement_step (Statement-F.Return span value) = Node rule.Return (kids (Place span ∷ optional_value value ∷ []))
statement_step (Statement-F.Label span name labelled) = Node rule.Label (kids (Place span ∷ Name name ∷ labelled ∷ []))
statement_step (Statement-F.Case span value labelled) = Node rule.Case (kids (Place span ∷ expr_value value ∷ labelled ∷ []))
statement_step (Statement-F.Default span labelled) = Node rule.Default (kids (Place span ∷ labelled ∷ []))

abbrev pub statement_tree : Statement Expr Declaration CodeAttribute → Tree C
statement_tree = fold-Statement Expr Declaration CodeAttribute (Trees C) (Tree C) (Trees C) block_item_step statement_step arm_step

abbrev pub block_item_kids : BlockItem Expr Declaration CodeAttribute → Trees C
block_item_kids = fold-BlockItem Expr Declaration CodeAttribute (Trees C) (Tree C) (Trees C) block_item_step statement_step arm_step

abbrev pub arm_kids : Arm Expr Declaration CodeAttribute → Trees C
arm_kids = fold-Arm Expr Declaration CodeAttribute (Trees C) (Tree C) (Trees C) block_item_step statement_step arm_step

-- ---- units

abbrev pub body_tree : Body → Tree C
body_tree b = Node rule.Body (kids (Place b.span ∷ listing (map block_item_kids b.items) ∷ Place b.closing ∷ []))

-- the first declarator of an external declaration stands before what tells it from a function definition
abbrev pub external_declarators : List InitDeclarator → Tree C
external_declarators [] = other []
external_declarators (d ∷ more) =
    some (Value (ADeclarator (declarator_tree d.declarator)) ∷ other (listing (rest_kids d.rest ∷ map init_kids more) ∷ []) ∷ [])

abbrev pub external_tree : External → Tree C
external_tree (external.Empty span) = Node rule.Empty (kids (Place span ∷ []))
external_tree (external.Declaration (declaration.Declarators span specifiers declarators)) =
    Node rule.External (kids (Place span ∷ specifiers_value specifiers ∷ external_declarators declarators ∷ []))
external_tree (external.Declaration d) = declaration_tree d
external_tree (external.Function f) =
    Node rule.External (kids (Place f.span ∷ specifiers_value f.specifiers
    ∷ some (Value (ADeclarator (declarator_tree f.declarator)) ∷ some (some (body_tree f.body ∷ []) ∷ []) ∷ []) ∷ []))

abbrev pub external_kids : External → Trees C
external_kids e = kids (external_tree e ∷ [])

abbrev pub unit_kids : CodeUnit → Trees C
unit_kids u = kids (listing (map external_kids u.externals) ∷ [])
