-- The laws of the readers of a depth: all that they find is there, and what is there they find, or something longer.
use Rattle.std.proofs.Common.{ℕ, ◌≤◌, ◌<◌, ◌≡◌, Bool, true, false, List, length, Option, None, Some, ◌⊎◌, IsTrue}
use Rattle.c_base.specs.declared.token.Keyword.TheVariants as key
use Rattle.c_base.specs.declared.token.Punctuator.TheVariants as mark
use Rattle.c_base.specs.declared.token.Token.{Token}
use Rattle.c_base.specs.declared.token.Word.{Word}
use Rattle.c_base.specs.declared.token.Word.TheVariants as word
use Rattle.c_tree.specs.Trees.{Tree}
use Rattle.c_tree.specs.WellFormed.{Names, Purpose, ForType, ForName}
use Rattle.c_parse_rules.specs.Following.{goes_on, ends_type, IsTypingFront}
use Rattle.c_parse_rules.specs.Found.{IsFront}
use Rattle.c_parse_rules.specs.Rules.{Found, Inner, Types}
use Rattle.c_parse_rules.specs.Tokens.{prefix_of}
use Rattle.c_parse_rules.specs.TypeRules.{Typings}

-- ---- what begins an expression

abbrev pub is_there : {A : Type 0} → Option A → Bool
is_there None = false
is_there (Some x) = true

abbrev pub begins_expr : Word → Bool
begins_expr (word.Identifier name) = true
begins_expr (word.Integer constant) = true
begins_expr word.Floating = true
begins_expr (word.Character byte) = true
begins_expr (word.Text bytes) = true
begins_expr (word.Punctuator mark.OpenParenthesis) = true
begins_expr (word.Punctuator p) = is_there (prefix_of p)
begins_expr (word.Keyword key.Sizeof) = true
begins_expr (word.Keyword key.Alignof) = true
begins_expr (word.Keyword key.BuiltinOffsetof) = true
begins_expr _ = false

-- this tree is found, or a longer one where what follows goes on
abbrev pub Reached : ℕ → Option Found → Tree → List Token → Type 0
Reached least None tree rest = ⊥
Reached least (Some found) tree rest = (found ≡ (tree, rest)) ⊎ ((length found.1 < length rest) × IsTrue (goes_on least rest))

-- ---- expressions

abbrev pub ExprsSound : ℕ → Inner → Type 0
ExprsSound depth inner = (names : Names) (least : ℕ) (tokens : List Token) (found : Found)
    → least ≤ 14 → inner names least tokens ≡ Some found → IsFront names least depth tokens found.0 found.1

abbrev pub ExprsReached : ℕ → Inner → Type 0
ExprsReached depth inner = (names : Names) (least : ℕ) (tokens : List Token) (tree : Tree) (rest : List Token)
    → least ≤ 14 → IsFront names least depth tokens tree rest → Reached least (inner names least tokens) tree rest

-- ---- type names and parameters

-- the type names of expressions
abbrev pub TypesSound : ℕ → Types → Type 0
TypesSound depth types = (names : Names) (tokens : List Token) (found : Found)
    → types names tokens ≡ Some found → IsTypingFront ForType names depth tokens found.0 found.1

abbrev pub TypesReached : ℕ → Types → Type 0
TypesReached depth types = (names : Names) (tokens : List Token) (tree : Tree) (rest : List Token)
    → IsTypingFront ForType names depth tokens tree rest → IsTrue (ends_type rest) → types names tokens ≡ Some (tree, rest)

-- both of them
abbrev pub TypingsSound : ℕ → Typings → Type 0
TypingsSound depth typings = (purpose : Purpose) (names : Names) (tokens : List Token) (found : Found)
    → (purpose ≡ ForName → ⊥) → typings purpose names tokens ≡ Some found → IsTypingFront purpose names depth tokens found.0 found.1

abbrev pub TypingsReached : ℕ → Typings → Type 0
TypingsReached depth typings = (purpose : Purpose) (names : Names) (tokens : List Token) (tree : Tree) (rest : List Token)
    → IsTypingFront purpose names depth tokens tree rest → IsTrue (ends_type rest) → typings purpose names tokens ≡ Some (tree, rest)
