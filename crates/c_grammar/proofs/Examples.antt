-- What is read of small lists of tokens.
use Rattle.std.proofs.Common.{◌≡◌, ℕ, true, false, List, [], ◌∷◌, Some, None, refl}
use Rattle.c_base.specs.declared.number.Span.{Span}
use Rattle.c_base.specs.declared.token.Keyword.{Keyword}
use Rattle.c_base.specs.declared.token.Keyword.TheVariants as key
use Rattle.c_base.specs.declared.token.Punctuator.{Punctuator}
use Rattle.c_base.specs.declared.token.Punctuator.TheVariants as mark
use Rattle.c_base.specs.declared.token.Token.{Token}
use Rattle.c_base.specs.declared.token.Word.TheVariants as word
use Rattle.c_tree.specs.Trees as plain
use Rattle.c_tree.specs.Trees.{Tree as Plain}
use Rattle.c_tree.specs.WellFormed.{Names}
use Rattle.c_parse_rules.specs.Measured.{declarator_within, specifiers_within}
use Rattle.c_parse_rules.specs.Rules.{expr_behind, primary_at, comma_at, assignment_at, postfix_at, value_at, conditional_at, run_at, branches_at, cast_at, parenthesised_at, sizeof_at, of_type_at, type_at, prefix_at, index_at, call_at, arguments_at}
use Rattle.c_parse_rules.specs.Tokens.{assigning_at, operator_at, behind_mark, behind_key, name_at, literal_at}
use Rattle.c_parse_rules.specs.TypeRules.{type_rule, specifiers_at, declarator_rule, declarator_behind, ellipsis_at, group_at, keyword_at, qualifier_at, attributes_at}
use Rattle.grammar.specs.Forms.{Tree, Place, Name, Value, Node, Group, Trees, Nil, Next}
use Rattle.grammar.specs.Reading.{listed, parse, several}
use Rattle.grammar.specs.Spelling.{place_at}
use Rattle.c_grammar.specs.declared.rule.Rule.TheVariants as rule
use Rattle.c_grammar.specs.declared.rule.Sort.TheVariants as sort
use Rattle.c_grammar.specs.Leaves.{C, ADeclarator, AnExpr, Attributes, Specifiers}
use Rattle.c_grammar.specs.Picking.{readers}
use Rattle.c_grammar.specs.Table.{arm, block_item, declarator_rest, designation, designator, external_declarator, for_first, init_declarator, initialiser, item, last, last_comma, message, assembly, with_initialiser, with_attributes, table}
use Rattle.c_grammar.specs.Units.{parse_unit}

-- ---- tokens, each with its number as its column

abbrev at : ℕ → Span
at col = record { line = 1; col = col }

abbrev id : ℕ → ℕ → Token
id name col = record { word = word.Identifier (name ∷ []); span = at col }

abbrev sign : Punctuator → ℕ → Token
sign p col = record { word = word.Punctuator p; span = at col }

abbrev key_at : Keyword → ℕ → Token
key_at k col = record { word = word.Keyword k; span = at col }

-- T is a typedef name
abbrev typedef : Names
typedef = record { name = 84 ∷ []; is_typedef = true } ∷ []

-- ---- trees

abbrev kids : List (Tree C) → Trees C
kids [] = Nil
kids (t ∷ more) = Next t (kids more)

abbrev some : List (Tree C) → Tree C
some all = Group true (kids all)

abbrev no : Tree C
no = Group false Nil

abbrev T_type : ℕ → Tree C
T_type col = Value (Specifiers (plain.Next (plain.Typedef (at col) (84 ∷ [])) plain.Nil))

abbrev named : ℕ → ℕ → Plain
named name col = plain.Declarator (at col) [] (plain.Declared (at col) (name ∷ [])) plain.Nil

-- an object without an initialiser
abbrev bare : Plain → Tree C
bare d = some (Value (ADeclarator d) ∷ no ∷ Value (Attributes []) ∷ no ∷ [])

abbrev use_of : ℕ → ℕ → Tree C
use_of name col = Value (AnExpr (plain.Name (at col) (name ∷ [])))

-- `x;`
abbrev mention : ℕ → ℕ → Tree C
mention name col = Node rule.Expression (kids (Place (at col) ∷ some (use_of name col ∷ []) ∷ []))

abbrev int_type : ℕ → Tree C
int_type col = Value (Specifiers (plain.Next (plain.Key (at col) key.Int) plain.Nil))

abbrev ordinary : ℕ → Names → Names
ordinary name names = record { name = name ∷ []; is_typedef = false } ∷ names

abbrev declaration : ℕ → Tree C → List (Tree C) → Tree C
declaration col specifiers declarators = Node rule.Declaration (kids (Place (at col) ∷ specifiers ∷ some declarators ∷ []))

abbrev an_object : Tree C → Tree C
an_object d = some (d ∷ [])

-- `T (T);` declares an object named T, of the type T
object : parse C table readers 6 sort.Declaration typedef (id 84 1 ∷ sign mark.OpenParenthesis 2 ∷ id 84 3 ∷ sign mark.CloseParenthesis 4 ∷ sign mark.Semicolon 5 ∷ [])
    ≡ Some (declaration 1 (T_type 1) (some (bare (plain.Declarator (at 2) [] (plain.Group (at 2) (named 84 3)) plain.Nil) ∷ []) ∷ []), ordinary 84 typedef, [])
unfolding expr_behind primary_at comma_at assignment_at postfix_at value_at conditional_at run_at branches_at cast_at parenthesised_at sizeof_at of_type_at type_at prefix_at index_at call_at arguments_at assigning_at operator_at behind_mark behind_key name_at literal_at type_rule specifiers_at declarator_rule declarator_behind ellipsis_at group_at keyword_at qualifier_at attributes_at declarator_within specifiers_within several listed place_at arm block_item declarator_rest designation designator external_declarator for_first init_declarator initialiser item last message last_comma assembly with_initialiser with_attributes
object = refl

-- `if(a)if(b)x;else y;`: the `else` belongs to the inner `if`
nearest : parse C table readers 6 sort.Statement [] (key_at key.If 1 ∷ sign mark.OpenParenthesis 2 ∷ id 97 3 ∷ sign mark.CloseParenthesis 4 ∷ key_at key.If 5 ∷ sign mark.OpenParenthesis 6
    ∷ id 98 7 ∷ sign mark.CloseParenthesis 8 ∷ id 120 9 ∷ sign mark.Semicolon 10 ∷ key_at key.Else 11 ∷ id 121 12 ∷ sign mark.Semicolon 13 ∷ [])
    ≡ Some (
      Node rule.If (kids (Place (at 1) ∷ some (use_of 97 3 ∷ some (
          Node rule.If (kids (Place (at 5) ∷ some (use_of 98 7 ∷ some (mention 120 9 ∷ []) ∷ some [] ∷ some (some (mention 121 12 ∷ []) ∷ []) ∷ []) ∷ []))
          ∷ []) ∷ some [] ∷ no ∷ []) ∷ [])),
      [],
      [],
    )
unfolding expr_behind primary_at comma_at assignment_at postfix_at value_at conditional_at run_at branches_at cast_at parenthesised_at sizeof_at of_type_at type_at prefix_at index_at call_at arguments_at assigning_at operator_at behind_mark behind_key name_at literal_at type_rule specifiers_at declarator_rule declarator_behind ellipsis_at group_at keyword_at qualifier_at attributes_at declarator_within specifiers_within several listed place_at arm block_item declarator_rest designation designator external_declarator for_first init_declarator initialiser item last message last_comma assembly with_initialiser with_attributes
nearest = refl

-- `{T T;T;}`: behind its declaration T is an object, up to the end of the block
hidden : parse C table readers 6 sort.Statement typedef (sign mark.OpenBrace 1 ∷ id 84 2 ∷ id 84 3 ∷ sign mark.Semicolon 4 ∷ id 84 5 ∷ sign mark.Semicolon 6 ∷ sign mark.CloseBrace 7 ∷ [])
    ≡ Some (
      Node rule.Block (kids (Place (at 1) ∷ some (some (
          some (some (declaration 2 (T_type 2) (some (bare (named 84 3) ∷ []) ∷ []) ∷ []) ∷ [])
          ∷ some (Group false (kids (mention 84 5 ∷ [])) ∷ []) ∷ []) ∷ []) ∷ [])),
      typedef,
      [],
    )
unfolding expr_behind primary_at comma_at assignment_at postfix_at value_at conditional_at run_at branches_at cast_at parenthesised_at sizeof_at of_type_at type_at prefix_at index_at call_at arguments_at assigning_at operator_at behind_mark behind_key name_at literal_at type_rule specifiers_at declarator_rule declarator_behind ellipsis_at group_at keyword_at qualifier_at attributes_at declarator_within specifiers_within several listed place_at arm block_item declarator_rest designation designator external_declarator for_first init_declarator initialiser item last message last_comma assembly with_initialiser with_attributes
hidden = refl

-- `int T=T;`: a name is declared before its own initialiser
own : parse C table readers 6 sort.Declaration typedef (key_at key.Int 1 ∷ id 84 2 ∷ sign mark.Assign 3 ∷ id 84 4 ∷ sign mark.Semicolon 5 ∷ [])
    ≡ Some (
      declaration 1 (int_type 1) (some (some (Value (ADeclarator (named 84 2)) ∷ no ∷ Value (Attributes [])
          ∷ some (Group false (kids (use_of 84 4 ∷ [])) ∷ []) ∷ []) ∷ []) ∷ []),
      ordinary 84 typedef,
      [],
    )
unfolding expr_behind primary_at comma_at assignment_at postfix_at value_at conditional_at run_at branches_at cast_at parenthesised_at sizeof_at of_type_at type_at prefix_at index_at call_at arguments_at assigning_at operator_at behind_mark behind_key name_at literal_at type_rule specifiers_at declarator_rule declarator_behind ellipsis_at group_at keyword_at qualifier_at attributes_at declarator_within specifiers_within several listed place_at arm block_item declarator_rest designation designator external_declarator for_first init_declarator initialiser item last message last_comma assembly with_initialiser with_attributes
own = refl

-- `{T:;}`: directly before a `:` a typedef name is a label
label : parse C table readers 6 sort.Statement typedef (sign mark.OpenBrace 1 ∷ id 84 2 ∷ sign mark.Colon 3 ∷ sign mark.Semicolon 4 ∷ sign mark.CloseBrace 5 ∷ [])
    ≡ Some (
      Node rule.Block (kids (Place (at 1) ∷ some (some (some (Group false (kids (
          Node rule.Label (kids (Place (at 2) ∷ Name (84 ∷ []) ∷ Node rule.Expression (kids (Place (at 4) ∷ no ∷ [])) ∷ [])) ∷ [])) ∷ []) ∷ []) ∷ []) ∷ [])),
      typedef,
      [],
    )
unfolding expr_behind primary_at comma_at assignment_at postfix_at value_at conditional_at run_at branches_at cast_at parenthesised_at sizeof_at of_type_at type_at prefix_at index_at call_at arguments_at assigning_at operator_at behind_mark behind_key name_at literal_at type_rule specifiers_at declarator_rule declarator_behind ellipsis_at group_at keyword_at qualifier_at attributes_at declarator_within specifiers_within several listed place_at arm block_item declarator_rest designation designator external_declarator for_first init_declarator initialiser item last message last_comma assembly with_initialiser with_attributes
label = refl

-- `int f(int T){T;}`: a formal is an object in the body; behind it the function is declared, and T is a typedef name again
formal : parse C table readers 6 sort.External typedef (key_at key.Int 1 ∷ id 102 2 ∷ sign mark.OpenParenthesis 3 ∷ key_at key.Int 4 ∷ id 84 5 ∷ sign mark.CloseParenthesis 6
    ∷ sign mark.OpenBrace 7 ∷ id 84 8 ∷ sign mark.Semicolon 9 ∷ sign mark.CloseBrace 10 ∷ [])
    ≡ Some (
      Node rule.External (kids (Place (at 1) ∷ int_type 1 ∷ some (Value (ADeclarator (plain.Declarator (at 2) [] (plain.Declared (at 2) (102 ∷ []))
          (plain.Next (plain.Function (at 3) (plain.Next (plain.TypeName (at 4) (plain.Next (plain.Key (at 4) key.Int) plain.Nil) (plain.Next (named 84 5) plain.Nil)) plain.Nil) false) plain.Nil)))
          ∷ some (some (Node rule.Body (kids (Place (at 7) ∷ some (some (Group false (kids (mention 84 8 ∷ [])) ∷ []) ∷ []) ∷ Place (at 10) ∷ [])) ∷ []) ∷ []) ∷ []) ∷ [])),
      ordinary 102 typedef,
      [],
    )
unfolding expr_behind primary_at comma_at assignment_at postfix_at value_at conditional_at run_at branches_at cast_at parenthesised_at sizeof_at of_type_at type_at prefix_at index_at call_at arguments_at assigning_at operator_at behind_mark behind_key name_at literal_at type_rule specifiers_at declarator_rule declarator_behind ellipsis_at group_at keyword_at qualifier_at attributes_at declarator_within specifiers_within several listed place_at arm block_item declarator_rest designation designator external_declarator for_first init_declarator initialiser item last message last_comma assembly with_initialiser with_attributes
formal = refl

-- `{1,}`: the last comma
braces : parse C table readers 6 sort.Braces [] (sign mark.OpenBrace 1 ∷ sign mark.Dot 2 ∷ id 97 3 ∷ sign mark.Assign 4 ∷ id 98 5 ∷ sign mark.Comma 6 ∷ sign mark.CloseBrace 7 ∷ [])
    ≡ Some (
      Node rule.Braces (kids (Place (at 1) ∷ some (some (some (some (some (Group false (kids (Name (97 ∷ []) ∷ [])) ∷ []) ∷ []) ∷ [])
          ∷ Group false (kids (use_of 98 5 ∷ [])) ∷ []) ∷ []) ∷ some [] ∷ [])),
      [],
      [],
    )
unfolding expr_behind primary_at comma_at assignment_at postfix_at value_at conditional_at run_at branches_at cast_at parenthesised_at sizeof_at of_type_at type_at prefix_at index_at call_at arguments_at assigning_at operator_at behind_mark behind_key name_at literal_at type_rule specifiers_at declarator_rule declarator_behind ellipsis_at group_at keyword_at qualifier_at attributes_at declarator_within specifiers_within several listed place_at arm block_item declarator_rest designation designator external_declarator for_first init_declarator initialiser item last message last_comma assembly with_initialiser with_attributes
braces = refl

-- `else` without an `if` begins no statement
alone : parse C table readers 6 sort.Statement [] (key_at key.Else 1 ∷ sign mark.Semicolon 2 ∷ []) ≡ None
unfolding expr_behind primary_at comma_at assignment_at postfix_at value_at conditional_at run_at branches_at cast_at parenthesised_at sizeof_at of_type_at type_at prefix_at index_at call_at arguments_at assigning_at operator_at behind_mark behind_key name_at literal_at type_rule specifiers_at declarator_rule declarator_behind ellipsis_at group_at keyword_at qualifier_at attributes_at declarator_within specifiers_within several listed place_at arm block_item declarator_rest designation designator external_declarator for_first init_declarator initialiser item last message last_comma assembly with_initialiser with_attributes
alone = refl

-- `typedef int T;int main(void){T (T);return 0;}`
unit : parse_unit 6 (key_at key.Typedef 1 ∷ key_at key.Int 2 ∷ id 84 3 ∷ sign mark.Semicolon 4 ∷ key_at key.Int 5 ∷ id 109 6 ∷ sign mark.OpenParenthesis 7 ∷ key_at key.Void 8 ∷ sign mark.CloseParenthesis 9
    ∷ sign mark.OpenBrace 10 ∷ id 84 11 ∷ sign mark.OpenParenthesis 12 ∷ id 84 13 ∷ sign mark.CloseParenthesis 14 ∷ sign mark.Semicolon 15 ∷ key_at key.Return 16 ∷ id 84 17
    ∷ sign mark.Semicolon 18 ∷ sign mark.CloseBrace 19 ∷ [])
    ≡ Some (
      kids (some (
          some (Node rule.External (kids (Place (at 1) ∷ Value (Specifiers (plain.Next (plain.Key (at 1) key.Typedef) (plain.Next (plain.Key (at 2) key.Int) plain.Nil)))
          ∷ some (Value (ADeclarator (named 84 3)) ∷ Group false (kids (some (some (no ∷ Value (Attributes []) ∷ no ∷ []) ∷ []) ∷ [])) ∷ []) ∷ [])) ∷ [])
          ∷ some (Node rule.External (kids (Place (at 5) ∷ int_type 5 ∷ some (Value (ADeclarator (plain.Declarator (at 6) [] (plain.Declared (at 6) (109 ∷ []))
          (plain.Next (plain.Function (at 7) (plain.Next (plain.TypeName (at 8) (plain.Next (plain.Key (at 8) key.Void) plain.Nil) plain.Nil) plain.Nil) false) plain.Nil)))
          ∷ some (some (Node rule.Body (kids (Place (at 10) ∷ some (
          some (some (declaration 11 (T_type 11) (some (bare (plain.Declarator (at 12) [] (plain.Group (at 12) (named 84 13)) plain.Nil) ∷ []) ∷ []) ∷ []) ∷ [])
          ∷ some (Group false (kids (Node rule.Return (kids (Place (at 16) ∷ some (use_of 84 17 ∷ []) ∷ [])) ∷ [])) ∷ []) ∷ [])
          ∷ Place (at 19) ∷ [])) ∷ []) ∷ []) ∷ []) ∷ [])) ∷ []) ∷ []) ∷ []),
      ordinary 109 typedef,
      [],
    )
unfolding expr_behind primary_at comma_at assignment_at postfix_at value_at conditional_at run_at branches_at cast_at parenthesised_at sizeof_at of_type_at type_at prefix_at index_at call_at arguments_at assigning_at operator_at behind_mark behind_key name_at literal_at type_rule specifiers_at declarator_rule declarator_behind ellipsis_at group_at keyword_at qualifier_at attributes_at declarator_within specifiers_within several listed place_at arm block_item declarator_rest designation designator external_declarator for_first init_declarator initialiser item last message last_comma assembly with_initialiser with_attributes
unit = refl
