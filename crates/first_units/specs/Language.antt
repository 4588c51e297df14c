-- The small language: which units are programs of it, and which program each is.
--
--     unit = "int" "main" "(" "void" ")" "{" { "int" name ";" } { stmt } "}"
--     stmt = name "=" sum ";" | "return" sum ";" | "while" "(" test ")" stmt | "{" { stmt } "}"
--          | "if" "(" test ")" stmt { "else" "if" "(" test ")" stmt } [ "else" stmt ]
--
-- `;` alone may stand before and behind the definition. The declared names differ, and each name that is used is declared. Sums and tests are C
-- expressions (C11 6.5): `Sums` says which.
use Rattle.std.specs.Prelude.{ℕ, ◌≤◌, ◌≡◌, nat_lt, Bool, true, false, cond, not, ◌&&◌, ◌||◌, List, [], ◌∷◌, ◌++◌, length, Option, None, Some, option_map, bytes_eq, codes}
use Rattle.std.specs.List.{list_any}
use denote.Enum.Bare.{sameb}
use Rattle.c_base.specs.contracts.token.Keyword.{the_type as key_type}
use Rattle.c_base.specs.declared.token.Keyword.{Keyword}
use Rattle.c_base.specs.declared.number.BaseId.{BaseId}
use Rattle.c_base.specs.declared.number.Span.{Span}
use Rattle.c_base.specs.declared.token.Keyword.TheVariants as key
use Rattle.c_base.specs.declared.token.Token.{Token}
use Rattle.c_base.specs.declared.token.Word.{Word}
use Rattle.c_base.specs.declared.token.Word.TheVariants as word
use Rattle.c_tree.specs.declared.operator.AssignmentOperator.TheVariants as assignment
use Rattle.c_tree.specs.Trees as c
use Rattle.c_tree.specs.WellFormed.{Names}
use Rattle.c_parse_rules.specs.Tokens.{◌>>=◌}
use Rattle.grammar.specs.Forms.{Tree, Place, Value, Node, Group, Trees, Nil, Next}
use Rattle.c_grammar.specs.declared.rule.Rule.TheVariants as rule
use Rattle.c_grammar.specs.Leaves.{C, AnExpr, Specifiers, ADeclarator, Attributes}
use Rattle.c_grammar.specs.Units.{IsUnit, nesting}
use Rattle.first_program.specs.Source.{Test, Stmt, Assign, Return, While, Block, Nothing, Program}
use Rattle.first_program.specs.SourceViews.{ladder, listed}
use Rattle.first_units.specs.Sums.{sum_of, test_of, variable_named}

-- ---- statements; the places of those that are numbered are added to those before them

-- a statement, and the places of all that are numbered so far
abbrev pub Read : Type 0
Read = Stmt × List Span

abbrev pub placed : List Span → Option Stmt → Option Read
placed spans None = None
placed spans (Some s) = Some (s, spans)

abbrev pub target_named : List (List ℕ) → c.Tree → Option BaseId
target_named variables (c.Name span text) = variable_named variables text
target_named variables _ = None

abbrev pub assigned_to : List (List ℕ) → c.Tree → c.Tree → Option Stmt
assigned_to variables target value = do
  base ← target_named variables target
  sum ← sum_of variables value
  Some (Assign base sum)

abbrev pub assigned_in : List (List ℕ) → c.Tree → Option Stmt
assigned_in variables (c.Assignment span target assignment.Plain value) = assigned_to variables target value
assigned_in variables _ = None

-- a test and the statement that it is for
abbrev pub with_test : Option Test → Option Read → Option ((Test × Stmt) × List Span)
with_test None read = None
with_test (Some test) None = None
with_test (Some test) (Some s) = Some ((test, s.0), s.1)

abbrev mutual
  pub stmt_in : List (List ℕ) → List Span → Tree C → Option Read
  stmt_in variables spans (Node rule.Expression (Next (Place span) (Next (Group true (Next (Value (AnExpr t)) Nil)) Nil))) =
      placed (spans ++ span ∷ []) (assigned_in variables t)
  stmt_in variables spans (Node rule.Return (Next (Place span) (Next (Group true (Next (Value (AnExpr t)) Nil)) Nil))) =
      placed (spans ++ span ∷ []) (option_map Return (sum_of variables t))
  stmt_in variables spans (Node rule.While (Next (Place span) (Next (Group true (Next (Value (AnExpr t)) (Next (Group true (Next body Nil)) Nil))) Nil))) = do
    arm ← with_test (test_of variables t) (stmt_in variables (spans ++ span ∷ []) body)
    Some (While arm.0.0 arm.0.1, arm.1)
  stmt_in variables spans (Node rule.If (Next (Place span) (Next (Group true (Next (Value (AnExpr t)) (Next (Group true (Next branch Nil)) (Next (Group true more) (Next last Nil))))) Nil))) = do
    first ← with_test (test_of variables t) (stmt_in variables (spans ++ span ∷ []) branch)
    arms ← arms_in variables (first.0 ∷ []) first.1 more
    last_in variables arms.0 arms.1 last
  stmt_in variables spans (Node rule.Block (Next (Place span) (Next (Group true (Next (Group true items) Nil)) Nil))) = do
    all ← stmts_in variables [] spans items
    Some (Block (listed all.0), all.1)
  stmt_in variables spans _ = None

  -- one `else if`
  pub arm_in : List (List ℕ) → List Span → Trees C → Option ((Test × Stmt) × List Span)
  arm_in variables spans (Next (Place span) (Next (Value (AnExpr t)) (Next (Group true (Next branch Nil)) Nil))) =
      with_test (test_of variables t) (stmt_in variables (spans ++ span ∷ []) branch)
  arm_in variables spans _ = None

  -- `else if`, one after the other, behind those that were found before
  pub arms_in : List (List ℕ) → List (Test × Stmt) → List Span → Trees C → Option (List (Test × Stmt) × List Span)
  arms_in variables found spans Nil = Some (found, spans)
  arms_in variables found spans (Next (Group true arm) more) = do
    a ← arm_in variables spans arm
    arms_in variables (found ++ a.0 ∷ []) a.1 more
  arms_in variables found spans _ = None

  -- the last `else` behind a ladder
  pub last_in : List (List ℕ) → List (Test × Stmt) → List Span → Tree C → Option Read
  last_in variables arms spans (Group false Nil) = Some (ladder arms Nothing, spans)
  last_in variables arms spans (Group true (Next (Group true (Next s Nil)) Nil)) = do
    last ← stmt_in variables spans s
    Some (ladder arms last.0, last.1)
  last_in variables arms spans _ = None

  -- an item of a block that is a statement
  pub item_in : List (List ℕ) → List Span → Trees C → Option Read
  item_in variables spans (Next (Group false (Next t Nil)) Nil) = stmt_in variables spans t
  item_in variables spans _ = None

  -- statements, one after the other, behind those that were found before
  pub stmts_in : List (List ℕ) → List Stmt → List Span → Trees C → Option (List Stmt × List Span)
  stmts_in variables found spans Nil = Some (found, spans)
  stmts_in variables found spans (Next (Group true item) more) = do
    s ← item_in variables spans item
    stmts_in variables (found ++ s.0 ∷ []) s.1 more
  stmts_in variables found spans _ = None

-- ---- declarations

-- this keyword alone
abbrev pub is_just : Keyword → c.Trees → Bool
is_just wanted (c.Next (c.Key span k) c.Nil) = sameb key_type k wanted
is_just wanted _ = false

-- a name alone
abbrev pub plain_name : c.Tree → Option (List ℕ)
plain_name (c.Declarator span [] (c.Declared place name) c.Nil) = Some name
plain_name _ = None

-- one declarator, behind which nothing stands
abbrev pub lone_name : Trees C → Option (List ℕ)
lone_name (Next (Group true (Next (Value (ADeclarator d)) (Next (Group false Nil) (Next (Value (Attributes [])) (Next (Group false Nil) Nil))))) Nil) = plain_name d
lone_name _ = None

-- `int name;`
abbrev pub variable_in : Tree C → Option (List ℕ)
variable_in (Node rule.Declaration (Next (Place span) (Next (Value (Specifiers all)) (Next (Group true (Next (Group true declarators) Nil)) Nil)))) =
    cond (is_just key.Int all) (lone_name declarators) None
variable_in _ = None

-- The names of the declarations in front of other items, behind those that were found before, and these items. The names differ.
abbrev pub variables_in : List (List ℕ) → Trees C → Option (List (List ℕ) × Trees C)
variables_in found (Next (Group true (Next (Group true (Next d Nil)) Nil)) more) = do
  name ← variable_in d
  cond (list_any (bytes_eq name) found) None (variables_in (found ++ name ∷ []) more)
variables_in found items = Some (found, items)

-- ---- programs

-- `void` alone, as a list of parameters
abbrev pub are_none : c.Trees → Bool
are_none (c.Next (c.TypeName span specifiers c.Nil) c.Nil) = is_just key.Void specifiers
are_none _ = false

-- `(void)`
abbrev pub takes_none : c.Trees → Bool
takes_none (c.Next (c.Function span parameters variadic) c.Nil) = not variadic && are_none parameters
takes_none _ = false

-- `main(void)`
abbrev pub is_main : c.Tree → Bool
is_main (c.Declarator span [] (c.Declared place name) suffixes) = bytes_eq name (codes "main") && takes_none suffixes
is_main _ = false

-- the statements of the block, and its closing brace, which is numbered too; at most 200,000 are
abbrev pub program_where : List (List ℕ) → Span → List Stmt × List Span → Option Program
program_where variables closing all =
    cond (nat_lt (length all.1) 200000) (Some (record { variables = variables; body = listed all.0; spans = all.1 ++ closing ∷ [] })) None

-- so many variables have numbers of their own
abbrev pub body_in : Tree C → Option Program
body_in (Node rule.Body (Next (Place span) (Next (Group true items) (Next (Place closing) Nil)))) = do
  declared ← variables_in [] items
  cond (nat_lt (length declared.0) 4294967295) (stmts_in declared.0 [] [] declared.1 >>= program_where declared.0 closing) None
body_in _ = None

abbrev pub main_in : Tree C → Option Program
main_in (Node rule.External (Next (Place span) (Next (Value (Specifiers all)) (Next (Group true (Next (Value (ADeclarator d)) (Next (Group true (Next (Group true (Next body Nil)) Nil)) Nil))) Nil)))) =
    cond (is_just key.Int all && is_main d) (body_in body) None
main_in _ = None

-- `;` alone
abbrev pub is_empty : Tree C → Bool
is_empty (Node rule.Empty kids) = true
is_empty _ = false

abbrev pub is_found : Option (Tree C) → Bool
is_found None = false
is_found (Some t) = true

-- the one external declaration that is not `;` alone, behind what was found before
abbrev pub lone_in : Option (Tree C) → Trees C → Option (Tree C)
lone_in found Nil = found
lone_in found (Next (Group true (Next t Nil)) more) = cond (is_empty t) (lone_in found more) (cond (is_found found) None (lone_in (Some t) more))
lone_in found _ = None

-- the program that a unit is, if it is one
abbrev pub program_in : Trees C → Option Program
program_in (Next (Group true externals) Nil) = lone_in None externals >>= main_in
program_in _ = None

-- ---- files

-- a word of an annotation
abbrev pub is_annotation : Word → Bool
is_annotation word.OpenAnnotation = true
is_annotation word.CloseAnnotation = true
is_annotation (word.AnnotationWord name) = true
is_annotation _ = false

abbrev pub has_annotation : List Token → Bool
has_annotation [] = false
has_annotation (t ∷ tokens) = is_annotation t.word || has_annotation tokens

-- The tokens spell a unit that is this program. None is of an annotation.
pub record Spells (tokens : List Token) (p : Program) : Type 0 where
  pub kids : Trees C
  pub names : Names
  pub unit : IsUnit kids tokens names
  pub shallow : nesting kids ≤ 200
  pub plain : has_annotation tokens ≡ false
  pub program : program_in kids ≡ Some p

-- The tokens spell a unit that is no program of the language.
pub record SpellsAnother (tokens : List Token) : Type 0 where
  pub kids : Trees C
  pub names : Names
  pub unit : IsUnit kids tokens names
  pub shallow : nesting kids ≤ 200
  pub program : program_in kids ≡ None
