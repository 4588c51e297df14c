-- What goes on with an expression, and before what a type name or a parameter ends.
use Rattle.std.specs.Prelude.{ℕ, suc, ◌≤◌, nat_lt, Bool, true, false, List, [], ◌∷◌, Option, None, Some}
use Rattle.c_base.specs.declared.token.Punctuator.TheVariants as mark
use Rattle.c_base.specs.declared.token.Token.{Token}
use Rattle.c_base.specs.declared.token.Word.{Word}
use Rattle.c_base.specs.declared.token.Word.TheVariants as word
use Rattle.c_tree.specs.declared.operator.AssignmentOperator.{AssignmentOperator}
use Rattle.c_tree.specs.declared.operator.BinaryOperator.{BinaryOperator}
use Rattle.c_tree.specs.Nesting.{nest}
use Rattle.c_tree.specs.Spelling.{pieces}
use Rattle.c_tree.specs.Trees.{Tree}
use Rattle.c_tree.specs.WellFormed.{Names, Purpose, ForType, ForParameter, ForName, IsTypeName, IsParameter, level_of_operator}
use Rattle.c_parse_rules.specs.Found.{Fronts}
use Rattle.c_parse_rules.specs.Tokens.{binary_of, assignment_of}

-- ---- what goes on with an expression

abbrev pub past_operator : Option BinaryOperator → Option AssignmentOperator → ℕ
past_operator (Some operator) other = suc (level_of_operator operator)
past_operator None (Some operator) = 2
past_operator None None = 0

-- an expression of a level below this may go on with the word; 0 where none can
abbrev pub binding : Word → ℕ
binding (word.Text bytes) = 17
binding (word.Punctuator mark.OpenBracket) = 16
binding (word.Punctuator mark.OpenParenthesis) = 16
binding (word.Punctuator mark.Dot) = 16
binding (word.Punctuator mark.Arrow) = 16
binding (word.Punctuator mark.Increment) = 16
binding (word.Punctuator mark.Decrement) = 16
binding (word.Punctuator mark.Question) = 3
binding (word.Punctuator mark.Comma) = 1
binding (word.Punctuator p) = past_operator (binary_of p) (assignment_of p)
binding _ = 0

abbrev pub goes_on : ℕ → List Token → Bool
goes_on least [] = false
goes_on least (t ∷ tokens) = nat_lt least (binding t.word)

-- ---- type names and parameters

abbrev pub IsTyping : Purpose → Names → Tree → Type 0
IsTyping ForType names tree = IsTypeName names tree
IsTyping ForParameter names tree = IsParameter names tree
IsTyping ForName names tree = ⊥

pub record IsTypingFront (purpose : Purpose) (names : Names) (depth : ℕ) (tokens : List Token) (tree : Tree) (rest : List Token) : Type 0 where
  pub shape : IsTyping purpose names tree
  pub shallow : nest tree ≤ depth
  pub words : Fronts (pieces tree) tokens rest

-- a type name or a parameter ends before one of these
abbrev pub is_type_end : Word → Bool
is_type_end (word.Punctuator mark.CloseParenthesis) = true
is_type_end (word.Punctuator mark.Comma) = true
is_type_end _ = false

abbrev pub ends_type : List Token → Bool
ends_type [] = false
ends_type (t ∷ tokens) = is_type_end t.word
