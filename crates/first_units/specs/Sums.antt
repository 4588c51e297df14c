-- Which of C's expressions are the sums and tests of the language.
use Rattle.std.specs.Prelude.{ℕ, suc, nat_le, Bool, true, false, not, cond, ◌&&◌, List, [], ◌∷◌, Option, None, Some, option_map, position, bytes_eq}
use Rattle.c_base.specs.declared.number.BaseId.{BaseId}
use Rattle.c_base.specs.declared.token.IntegerConstant.{IntegerConstant}
use Rattle.c_base.specs.declared.token.Length.{Length}
use Rattle.c_base.specs.declared.token.Length.TheVariants.{Plain, Long, LongLong}
use Rattle.c_tree.specs.declared.operator.BinaryOperator.{BinaryOperator}
use Rattle.c_tree.specs.declared.operator.BinaryOperator.TheVariants as operator
use Rattle.c_parse_rules.specs.Tokens.{◌>>=◌}
use Rattle.c_tree.specs.Trees as c
use Rattle.c_tree.specs.Trees.{Tree, Trees}
use Rattle.c_base.specs.declared.operators.Rel.{Rel}
use Rattle.c_base.specs.declared.operators.Rel.TheVariants.{Lt, Le, Gt, Ge, Eq, Ne}
use Rattle.first_program.specs.declared.tree.Sign.{Sign}
use Rattle.first_program.specs.declared.tree.Sign.TheVariants.{Plus, Minus}
use Rattle.first_program.specs.Source.{Sum, Number, Variable, Parenthesised, Run, Test, Compare, Enclosed}
use Rattle.first_program.specs.SourceViews.{addends}

-- `main` is base 0, and variables are numbered from 1
abbrev pub base_at : ℕ → BaseId
base_at index = record { 0 = suc index }

abbrev pub variable_named : List (List ℕ) → List ℕ → Option BaseId
variable_named variables text = option_map base_at (position (bytes_eq text) variables)

abbrev pub is_plain : Length → Bool
is_plain Plain = true
is_plain Long = false
is_plain LongLong = false

-- the constant is of type int (C11 6.4.4.1)
abbrev pub is_int : IntegerConstant → Bool
is_int c = not c.unsigned && (is_plain c.length && nat_le c.value 2147483647)

abbrev pub number_of : IntegerConstant → Option ℕ
number_of c = cond (is_int c) (Some c.value) None

abbrev pub sign_of : BinaryOperator → Option Sign
sign_of operator.Add = Some Plus
sign_of operator.Subtract = Some Minus
sign_of _ = None

abbrev pub relation_of : BinaryOperator → Option Rel
relation_of operator.Less = Some Lt
relation_of operator.LessEqual = Some Le
relation_of operator.Greater = Some Gt
relation_of operator.GreaterEqual = Some Ge
relation_of operator.Equal = Some Eq
relation_of operator.NotEqual = Some Ne
relation_of _ = None

-- names of variables, constants of type int, sums in parentheses, and runs of + and -
abbrev mutual
  pub sum_of : List (List ℕ) → Tree → Option Sum
  sum_of variables (c.Name span text) = option_map Variable (variable_named variables text)
  sum_of variables (c.Integer span constant) = option_map Number (number_of constant)
  sum_of variables (c.Parenthesised span inner) = option_map Parenthesised (sum_of variables inner)
  sum_of variables (c.Run span first more) = do
    s ← sum_of variables first
    others ← addends_of variables more
    Some (Run s (addends others))
  sum_of variables _ = None

  pub addends_of : List (List ℕ) → Trees → Option (List (Sign × Sum))
  addends_of variables c.Nil = Some []
  addends_of variables (c.Next t more) = do
    a ← addend_of variables t
    others ← addends_of variables more
    Some (a ∷ others)

  pub addend_of : List (List ℕ) → Tree → Option (Sign × Sum)
  addend_of variables (c.Operand operator operand) = do
    sign ← sign_of operator
    s ← sum_of variables operand
    Some (sign, s)
  addend_of variables _ = None

-- the operand is a comparison's right side
abbrev pub compared_with : List (List ℕ) → Tree → Tree → Option Test
compared_with variables first (c.Operand operator operand) = do
  relation ← relation_of operator
  left ← sum_of variables first
  right ← sum_of variables operand
  Some (Compare left relation right)
compared_with variables first _ = None

abbrev pub comparison_of : List (List ℕ) → Tree → Trees → Option Test
comparison_of variables first c.Nil = None
comparison_of variables first (c.Next t c.Nil) = compared_with variables first t
comparison_of variables first (c.Next t (c.Next u more)) = None

-- one comparison of two sums, and that in parentheses
abbrev pub test_of : List (List ℕ) → Tree → Option Test
test_of variables (c.Parenthesised span inner) = option_map Enclosed (test_of variables inner)
test_of variables (c.Run span first more) = comparison_of variables first more
test_of variables _ = None
