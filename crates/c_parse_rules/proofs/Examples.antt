-- What the parsers find in small lists of tokens.
use Rattle.std.proofs.Common.{◌≡◌, ℕ, true, false, [], ◌∷◌, Some, None, refl, arith}
use Rattle.c_base.specs.declared.number.Span.{Span}
use Rattle.c_base.specs.declared.token.Keyword.{Keyword}
use Rattle.c_base.specs.declared.token.Keyword.TheVariants as key
use Rattle.c_base.specs.declared.token.Punctuator.{Punctuator}
use Rattle.c_base.specs.declared.token.Punctuator.TheVariants as mark
use Rattle.c_base.specs.declared.token.Token.{Token}
use Rattle.c_base.specs.declared.token.Word.TheVariants as word
use Rattle.c_tree.specs.declared.operator.AssignmentOperator.TheVariants as assignment
use Rattle.c_tree.specs.declared.operator.BinaryOperator.TheVariants as binary
use Rattle.c_tree.specs.declared.operator.TypeOperator.TheVariants as type_operator
use Rattle.c_tree.specs.declared.tree.CompositeSort.TheVariants as sort
use Rattle.c_tree.specs.Trees.{Tree, Name, Run, Operand, Cast, TypeName, Key, Typedef, Declarator, Absent, Declared, Function, Enum, Enumerator, Composite, Fields, Field, Assignment, Postfix, Call, Conditional, Parenthesised, OfType, Nil, Next}
use Rattle.c_tree.specs.WellFormed.{Names, IsWithin}
use Rattle.c_parse_rules.specs.Parsers.{expr_at}
use Rattle.c_parse_rules.specs.Rules.{expr_behind, primary_at, comma_at, assignment_at, postfix_at, value_at, conditional_at, run_at, branches_at, cast_at, parenthesised_at, sizeof_at, of_type_at, type_at, prefix_at, index_at, call_at, arguments_at, offsetof_at, dot_at}
use Rattle.c_parse_rules.specs.Tokens.{assigning_at, operator_at, behind_mark, behind_key, name_at, literal_at}
use Rattle.c_parse_rules.specs.TypeRules.{type_rule, specifiers_at, declarator_rule, declarator_behind, ellipsis_at, group_at, keyword_at, qualifier_at, constants_at, enum_untagged_at, enumerator_at, composite_at, untagged_at, body_at, attributes_at, fields_at, named_field_at, padding_at, attribute_behind}

abbrev at : ℕ → Span
at col = record { line = 1; col = col }

abbrev id : ℕ → ℕ → Token
id name col = record { word = word.Identifier (name ∷ []); span = at col }

abbrev sign : Punctuator → ℕ → Token
sign p col = record { word = word.Punctuator p; span = at col }

abbrev word_at : Keyword → ℕ → Token
word_at k col = record { word = word.Keyword k; span = at col }

abbrev known : Names
known = record { name = 84 ∷ []; is_typedef = true } ∷ []

-- `a+b*c`, which nests three deep
sum : expr_at 3 [] 0 (id 97 1 ∷ sign mark.Plus 2 ∷ id 98 3 ∷ sign mark.Star 4 ∷ id 99 5 ∷ [])
    ≡ Some (Run (at 1) (Name (at 1) (97 ∷ [])) (Next (Operand binary.Add (Run (at 3) (Name (at 3) (98 ∷ [])) (Next (Operand binary.Multiply (Name (at 5) (99 ∷ []))) Nil))) Nil), [])
unfolding expr_behind primary_at comma_at assignment_at postfix_at value_at conditional_at run_at branches_at cast_at parenthesised_at sizeof_at of_type_at type_at prefix_at index_at call_at arguments_at assigning_at operator_at behind_mark behind_key name_at literal_at type_rule specifiers_at declarator_rule declarator_behind ellipsis_at group_at keyword_at qualifier_at
sum = refl

-- of which only `a+b` nests two deep
shallow : expr_at 2 [] 0 (id 97 1 ∷ sign mark.Plus 2 ∷ id 98 3 ∷ sign mark.Star 4 ∷ id 99 5 ∷ [])
    ≡ Some (Run (at 1) (Name (at 1) (97 ∷ [])) (Next (Operand binary.Add (Name (at 3) (98 ∷ []))) Nil), sign mark.Star 4 ∷ id 99 5 ∷ [])
unfolding expr_behind primary_at comma_at assignment_at postfix_at value_at conditional_at run_at branches_at cast_at parenthesised_at sizeof_at of_type_at type_at prefix_at index_at call_at arguments_at assigning_at operator_at behind_mark behind_key name_at literal_at type_rule specifiers_at declarator_rule declarator_behind ellipsis_at group_at keyword_at qualifier_at
shallow = refl

-- `(T)b`, a cast where T is a typedef name
cast : expr_at 2 known 0 (sign mark.OpenParenthesis 1 ∷ id 84 2 ∷ sign mark.CloseParenthesis 3 ∷ id 98 4 ∷ [])
    ≡ Some (Cast (at 1) (TypeName (at 2) (Next (Typedef (at 2) (84 ∷ [])) Nil) Nil) (Name (at 4) (98 ∷ [])), [])
unfolding expr_behind primary_at comma_at assignment_at postfix_at value_at conditional_at run_at branches_at cast_at parenthesised_at sizeof_at of_type_at type_at prefix_at index_at call_at arguments_at assigning_at operator_at behind_mark behind_key name_at literal_at type_rule specifiers_at declarator_rule declarator_behind ellipsis_at group_at keyword_at qualifier_at
cast = refl

-- and an expression in parentheses where it is not
grouped : expr_at 2 [] 0 (sign mark.OpenParenthesis 1 ∷ id 84 2 ∷ sign mark.CloseParenthesis 3 ∷ id 98 4 ∷ [])
    ≡ Some (Parenthesised (at 1) (Name (at 2) (84 ∷ [])), id 98 4 ∷ [])
unfolding expr_behind primary_at comma_at assignment_at postfix_at value_at conditional_at run_at branches_at cast_at parenthesised_at sizeof_at of_type_at type_at prefix_at index_at call_at arguments_at assigning_at operator_at behind_mark behind_key name_at literal_at type_rule specifiers_at declarator_rule declarator_behind ellipsis_at group_at keyword_at qualifier_at
grouped = refl

-- `sizeof(int(T))`, whose type is that of functions of a T
size : expr_at 6 known 0 (word_at key.Sizeof 1 ∷ sign mark.OpenParenthesis 7 ∷ word_at key.Int 8 ∷ sign mark.OpenParenthesis 11 ∷ id 84 12 ∷ sign mark.CloseParenthesis 13 ∷ sign mark.CloseParenthesis 14 ∷ [])
    ≡ Some (
      OfType (at 1) type_operator.Sizeof
          (TypeName (at 8) (Next (Key (at 8) key.Int) Nil)
          (Next (Declarator (at 11) [] Absent (Next (Function (at 11) (Next (TypeName (at 12) (Next (Typedef (at 12) (84 ∷ [])) Nil) Nil) Nil) false) Nil)) Nil)),
      [],
    )
unfolding expr_behind primary_at comma_at assignment_at postfix_at value_at conditional_at run_at branches_at cast_at parenthesised_at sizeof_at of_type_at type_at prefix_at index_at call_at arguments_at assigning_at operator_at behind_mark behind_key name_at literal_at type_rule specifiers_at declarator_rule declarator_behind ellipsis_at group_at keyword_at qualifier_at
size = refl

-- `sizeof(enum{T})+T`: behind the enumeration constant, T is an ordinary name
scope : expr_at 4 known 0 (word_at key.Sizeof 1 ∷ sign mark.OpenParenthesis 2 ∷ word_at key.Enum 3 ∷ sign mark.OpenBrace 4 ∷ id 84 5 ∷ sign mark.CloseBrace 6 ∷ sign mark.CloseParenthesis 7 ∷ sign mark.Plus 8 ∷ id 84 9 ∷ [])
    ≡ Some (
      Run (at 1) (OfType (at 1) type_operator.Sizeof (TypeName (at 3) (Next (Enum (at 3) None (Next (Enumerator (at 5) (84 ∷ []) Nil) Nil) false) Nil) Nil))
          (Next (Operand binary.Add (Name (at 9) (84 ∷ []))) Nil),
      [],
    )
unfolding expr_behind primary_at comma_at assignment_at postfix_at value_at conditional_at run_at branches_at cast_at parenthesised_at sizeof_at of_type_at type_at prefix_at index_at call_at arguments_at assigning_at operator_at behind_mark behind_key name_at literal_at type_rule specifiers_at declarator_rule declarator_behind ellipsis_at group_at keyword_at qualifier_at constants_at enum_untagged_at enumerator_at composite_at untagged_at body_at attributes_at fields_at named_field_at padding_at attribute_behind offsetof_at dot_at
scope = refl

-- `sizeof(struct{T T:1;})`: a member with the name of its type
member : expr_at 6 known 0 (word_at key.Sizeof 1 ∷ sign mark.OpenParenthesis 2 ∷ word_at key.Struct 3 ∷ sign mark.OpenBrace 4 ∷ id 84 5 ∷ id 84 6 ∷ sign mark.Colon 7 ∷ id 98 8 ∷ sign mark.Semicolon 9 ∷ sign mark.CloseBrace 10 ∷ sign mark.CloseParenthesis 11 ∷ [])
    ≡ Some (
      OfType (at 1) type_operator.Sizeof (TypeName (at 3) (Next (Composite (at 3) sort.Struct [] None
          (Next (Fields (at 5) (Next (Typedef (at 5) (84 ∷ [])) Nil)
          (Next (Field (at 6) (Declarator (at 6) [] (Declared (at 6) (84 ∷ [])) Nil) (Next (Name (at 8) (98 ∷ [])) Nil) []) Nil)) Nil) []) Nil) Nil),
      [],
    )
unfolding expr_behind primary_at comma_at assignment_at postfix_at value_at conditional_at run_at branches_at cast_at parenthesised_at sizeof_at of_type_at type_at prefix_at index_at call_at arguments_at assigning_at operator_at behind_mark behind_key name_at literal_at type_rule specifiers_at declarator_rule declarator_behind ellipsis_at group_at keyword_at qualifier_at constants_at enum_untagged_at enumerator_at composite_at untagged_at body_at attributes_at fields_at named_field_at padding_at attribute_behind offsetof_at dot_at
member = refl

-- `f(a,b)=c`
call : expr_at 3 [] 1 (id 102 1 ∷ sign mark.OpenParenthesis 2 ∷ id 97 3 ∷ sign mark.Comma 4 ∷ id 98 5 ∷ sign mark.CloseParenthesis 6 ∷ sign mark.Assign 7 ∷ id 99 8 ∷ [])
    ≡ Some (Assignment (at 1) (Postfix (at 1) (Name (at 1) (102 ∷ [])) (Next (Call (at 2) (Next (Name (at 3) (97 ∷ [])) (Next (Name (at 5) (98 ∷ [])) Nil))) Nil)) assignment.Plain (Name (at 8) (99 ∷ [])), [])
unfolding expr_behind primary_at comma_at assignment_at postfix_at value_at conditional_at run_at branches_at cast_at parenthesised_at sizeof_at of_type_at type_at prefix_at index_at call_at arguments_at assigning_at operator_at behind_mark behind_key name_at literal_at type_rule specifiers_at declarator_rule declarator_behind ellipsis_at group_at keyword_at qualifier_at constants_at enum_untagged_at enumerator_at composite_at untagged_at body_at attributes_at fields_at named_field_at padding_at attribute_behind offsetof_at dot_at
call = refl

-- `a?b:c,` before a tail that is no expression
tail : expr_at 3 [] 0 (id 97 1 ∷ sign mark.Question 2 ∷ id 98 3 ∷ sign mark.Colon 4 ∷ id 99 5 ∷ sign mark.Comma 6 ∷ [])
    ≡ Some (Conditional (at 1) (Name (at 1) (97 ∷ [])) (Name (at 3) (98 ∷ [])) (Name (at 5) (99 ∷ [])), sign mark.Comma 6 ∷ [])
unfolding expr_behind primary_at comma_at assignment_at postfix_at value_at conditional_at run_at branches_at cast_at parenthesised_at sizeof_at of_type_at type_at prefix_at index_at call_at arguments_at assigning_at operator_at behind_mark behind_key name_at literal_at type_rule specifiers_at declarator_rule declarator_behind ellipsis_at group_at keyword_at qualifier_at constants_at enum_untagged_at enumerator_at composite_at untagged_at body_at attributes_at fields_at named_field_at padding_at attribute_behind offsetof_at dot_at
tail = refl

-- the tree of `a+b*c` is well formed, and so is `(T)b` where T is a typedef name
abbrev sum_tree : Tree
sum_tree = Run (at 1) (Name (at 1) (97 ∷ [])) (Next (Operand binary.Add (Run (at 3) (Name (at 3) (98 ∷ [])) (Next (Operand binary.Multiply (Name (at 5) (99 ∷ []))) Nil))) Nil)

sum_within : IsWithin [] 0 3 sum_tree
sum_within = record {
  shape = (record { place = refl; tight = omega arith }, refl, tt {0}, ((refl, omega arith, (record { place = refl; tight = omega arith }, refl, tt {0}, ((refl, omega arith, refl), tt {0}))), tt {0}));
  tight = omega arith;
  shallow = omega arith;
}

cast_within : IsWithin known 0 2 (Cast (at 1) (TypeName (at 2) (Next (Typedef (at 2) (84 ∷ [])) Nil) Nil) (Name (at 4) (98 ∷ [])))
cast_within = record {
  shape = ((refl, ((tt {0}, refl), tt {0}), tt {0}), omega arith, refl);
  tight = omega arith;
  shallow = omega arith;
}
