-- What the parsers promise their callers.
use Rattle.std.specs.Prelude.{ℕ, ◌≡◌, false, List, Option, None, Some, IsTrue}
use Rattle.c_base.specs.declared.token.Token.{Token}
use Rattle.c_tree.specs.Trees.{Tree}
use Rattle.c_tree.specs.WellFormed.{Names, Purpose, after}
use Rattle.c_parse_rules.specs.Found.{HasNone, IsFront, IsLongest}
use Rattle.c_parse_rules.specs.Following.{goes_on, IsTypingFront, ends_type}
use Rattle.c_parse_rules.specs.Rules.{Found}

-- the expression that takes the most of the tokens; and where what is left behind an expression can't go on with it, that expression alone
pub record IsParsed (names : Names) (least depth : ℕ) (tokens : List Token) (tree : Tree) (rest : List Token) : Type 0 where
  pub longest : IsLongest names least depth tokens tree rest
  pub exact : (other : Tree) (left : List Token) → IsFront names least depth tokens other left → goes_on least left ≡ false → (tree ≡ other) × (rest ≡ left)

-- what is read of an expression, and the names behind it
abbrev pub IsExprRead : ℕ → ℕ → Names → Names → List Token → Option Found → Type 0
IsExprRead least depth old new tokens None = HasNone old least depth tokens × (new ≡ old)
IsExprRead least depth old new tokens (Some f) = IsParsed old least depth tokens f.0 f.1 × (new ≡ after old f.0)

-- the type name or parameter that stands before a `)` or a comma, of which there is one at most
pub record IsTypingParsed (purpose : Purpose) (names : Names) (depth : ℕ) (tokens : List Token) (tree : Tree) (rest : List Token) : Type 0 where
  pub front : IsTypingFront purpose names depth tokens tree rest
  pub only : (other : Tree) (left : List Token) → IsTypingFront purpose names depth tokens other left → IsTrue (ends_type left) → (tree ≡ other) × (rest ≡ left)

abbrev pub IsTypingRead : Purpose → ℕ → Names → Names → List Token → Option Found → Type 0
IsTypingRead purpose depth old new tokens None =
    ((other : Tree) (left : List Token) → IsTypingFront purpose old depth tokens other left → IsTrue (ends_type left) → ⊥) × (new ≡ old)
IsTypingRead purpose depth old new tokens (Some f) = IsTypingParsed purpose old depth tokens f.0 f.1 × (new ≡ after old f.0)
