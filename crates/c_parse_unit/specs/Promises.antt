-- What the parser of units promises.
use Rattle.std.specs.Prelude.{ℕ, ◌≡◌, ◌≤◌, List}
use Rattle.c_base.specs.declared.token.Token.{Token}
use Rattle.c_tree.specs.WellFormed.{Names}
use Rattle.grammar.specs.Forms.{Trees}
use Rattle.c_grammar.specs.Leaves.{C}
use Rattle.c_grammar.specs.Units.{IsUnit, nesting}
use Rattle.c_unit_words.specs.Units.{unit_words, words_in}

-- the unit that the tokens spell, which nests no deeper; its words are the tokens', and no other unit spells them, however deep
pub record IsUnitRead (depth : ℕ) (kids : Trees C) (tokens : List Token) : Type 0 where
  pub names : Names
  pub unit : IsUnit kids tokens names
  pub shallow : nesting kids ≤ depth
  pub words : words_in tokens ≡ unit_words kids
  pub only : (other : Trees C) (behind : Names) → IsUnit other tokens behind → other ≡ kids

-- no unit that nests no deeper spells the tokens
abbrev pub HasNoUnit : ℕ → List Token → Type 0
HasNoUnit depth tokens = (kids : Trees C) (names : Names) → IsUnit kids tokens names → nesting kids ≤ depth → ⊥
