-- What the first token of a list is, and what is left behind it.
use Rattle.std.specs.Prelude.{ℕ, nat_eq, Bool, true, false, cond, ◌||◌, List, [], ◌∷◌, Option, None, Some, option_map}
use denote.Enum.Bare.{sameb}
use Rattle.c_base.specs.contracts.token.Keyword.{the_type as key_type}
use Rattle.c_base.specs.contracts.token.Punctuator.{the_type as mark_type}
use Rattle.c_base.specs.declared.token.Keyword.{Keyword}
use Rattle.c_base.specs.declared.token.Keyword.TheVariants as key
use Rattle.c_base.specs.declared.token.Punctuator.{Punctuator}
use Rattle.c_base.specs.declared.token.Punctuator.TheVariants as mark
use Rattle.c_base.specs.declared.token.Token.{Token}
use Rattle.c_base.specs.declared.token.Word.{Word}
use Rattle.c_base.specs.declared.token.Word.TheVariants as word
use Rattle.c_tree.specs.declared.operator.AssignmentOperator.{AssignmentOperator}
use Rattle.c_tree.specs.declared.operator.AssignmentOperator.TheVariants as assignment
use Rattle.c_tree.specs.declared.operator.BinaryOperator.{BinaryOperator}
use Rattle.c_tree.specs.declared.operator.BinaryOperator.TheVariants as binary
use Rattle.c_tree.specs.declared.operator.PrefixOperator.{PrefixOperator}
use Rattle.c_tree.specs.declared.operator.PrefixOperator.TheVariants as prefix
use Rattle.c_tree.specs.WellFormed.{Names, is_typedef, level_of_operator, is_qualifier, is_type_word, is_storage_word}

infixl 10 ◌>>=◌
abbrev pub ◌>>=◌ : {A B : Type 0} → Option A → (A → Option B) → Option B
None >>= f = None
(Some x) >>= f = f x

-- the rest behind a first token that passes a test
abbrev pub behind : (Word → Bool) → List Token → Option (List Token)
behind is [] = None
behind is (t ∷ tokens) = cond (is t.word) (Some tokens) None

abbrev pub is_key : Keyword → Word → Bool
is_key k (word.Keyword found) = sameb key_type found k
is_key k _ = false

abbrev pub is_mark : Punctuator → Word → Bool
is_mark p (word.Punctuator found) = sameb mark_type found p
is_mark p _ = false

unfoldable pub behind_key : Keyword → List Token → Option (List Token)
behind_key k tokens = behind (is_key k) tokens

unfoldable pub behind_mark : Punctuator → List Token → Option (List Token)
behind_mark p tokens = behind (is_mark p) tokens

-- what a first word stands for, and the rest behind it
abbrev pub first : {A : Type 0} → (Word → Option A) → List Token → Option (A × List Token)
first f [] = None
first f (t ∷ tokens) = option_map (λ x. (x, tokens)) (f t.word)

abbrev pub text_of : Word → Option (List ℕ)
text_of (word.Identifier text) = Some text
text_of _ = None

unfoldable pub name_at : List Token → Option (List ℕ × List Token)
name_at tokens = first text_of tokens

abbrev pub bytes_of : Word → Option (List ℕ)
bytes_of (word.Text bytes) = Some bytes
bytes_of _ = None

unfoldable pub literal_at : List Token → Option (List ℕ × List Token)
literal_at tokens = first bytes_of tokens

-- ---- operators

abbrev pub binary_of : Punctuator → Option BinaryOperator
binary_of mark.Star = Some binary.Multiply
binary_of mark.Slash = Some binary.Divide
binary_of mark.Percent = Some binary.Remainder
binary_of mark.Plus = Some binary.Add
binary_of mark.Minus = Some binary.Subtract
binary_of mark.ShiftLeft = Some binary.ShiftLeft
binary_of mark.ShiftRight = Some binary.ShiftRight
binary_of mark.Less = Some binary.Less
binary_of mark.Greater = Some binary.Greater
binary_of mark.LessEqual = Some binary.LessEqual
binary_of mark.GreaterEqual = Some binary.GreaterEqual
binary_of mark.Equal = Some binary.Equal
binary_of mark.NotEqual = Some binary.NotEqual
binary_of mark.Ampersand = Some binary.BitAnd
binary_of mark.Caret = Some binary.BitXor
binary_of mark.Bar = Some binary.BitOr
binary_of mark.AndAnd = Some binary.And
binary_of mark.OrOr = Some binary.Or
binary_of _ = None

abbrev pub of_level : ℕ → Option BinaryOperator → Option BinaryOperator
of_level level None = None
of_level level (Some operator) = cond (nat_eq (level_of_operator operator) level) (Some operator) None

abbrev pub operator_of : ℕ → Word → Option BinaryOperator
operator_of level (word.Punctuator p) = of_level level (binary_of p)
operator_of level _ = None

unfoldable pub operator_at : ℕ → List Token → Option (BinaryOperator × List Token)
operator_at level tokens = first (operator_of level) tokens

abbrev pub assignment_of : Punctuator → Option AssignmentOperator
assignment_of mark.Assign = Some assignment.Plain
assignment_of mark.StarAssign = Some assignment.Multiply
assignment_of mark.SlashAssign = Some assignment.Divide
assignment_of mark.PercentAssign = Some assignment.Remainder
assignment_of mark.PlusAssign = Some assignment.Add
assignment_of mark.MinusAssign = Some assignment.Subtract
assignment_of mark.ShiftLeftAssign = Some assignment.ShiftLeft
assignment_of mark.ShiftRightAssign = Some assignment.ShiftRight
assignment_of mark.AmpersandAssign = Some assignment.BitAnd
assignment_of mark.CaretAssign = Some assignment.BitXor
assignment_of mark.BarAssign = Some assignment.BitOr
assignment_of _ = None

abbrev pub assigning_of : Word → Option AssignmentOperator
assigning_of (word.Punctuator p) = assignment_of p
assigning_of _ = None

unfoldable pub assigning_at : List Token → Option (AssignmentOperator × List Token)
assigning_at tokens = first assigning_of tokens

abbrev pub prefix_of : Punctuator → Option PrefixOperator
prefix_of mark.Increment = Some prefix.Increment
prefix_of mark.Decrement = Some prefix.Decrement
prefix_of mark.Ampersand = Some prefix.Address
prefix_of mark.Star = Some prefix.Indirection
prefix_of mark.Plus = Some prefix.Plus
prefix_of mark.Minus = Some prefix.Minus
prefix_of mark.Tilde = Some prefix.Complement
prefix_of mark.Exclamation = Some prefix.Not
prefix_of _ = None

-- ---- types

abbrev pub specifies : Keyword → Bool
specifies key.Struct = true
specifies key.Union = true
specifies key.Enum = true
specifies key.Attribute = true
specifies k = is_qualifier k || is_type_word k || is_storage_word k

abbrev pub begins_type : Names → Word → Bool
begins_type names (word.Keyword k) = specifies k
begins_type names (word.Identifier name) = is_typedef names name
begins_type names _ = false

-- a type name or parameter begins there: a specifier, or a typedef name
abbrev pub is_type_at : Names → List Token → Bool
is_type_at names [] = false
is_type_at names (t ∷ tokens) = begins_type names t.word
