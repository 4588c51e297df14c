-- Arms of a ladder, and its last `else`.
use Rattle.std.proofs.Common.{◌≡◌, ℕ, zero, suc, true, false, List, [], ◌∷◌, Option, None, Some, refl}
use Rattle.c_base.specs.declared.number.Span.{Span}
use Rattle.c_base.specs.declared.token.Keyword.TheVariants as key
use Rattle.c_base.specs.declared.token.Token.{Token}
use Rattle.c_tree.specs.WellFormed.{Names}
use Rattle.c_parse_rules.specs.Declaring.{starts}
use Rattle.c_parse_rules.specs.Tokens.{behind_key, is_key}
use Rattle.grammar.specs.Forms.{Done, Key, Next, Place, Tree, Trees}
use Rattle.grammar.specs.Reading.{parse}
use Rattle.grammar.specs.Spelling.{place_at}
use Rattle.c_grammar.specs.declared.rule.Sort.TheVariants as sort
use Rattle.c_grammar.specs.Leaves.{C}
use Rattle.c_grammar.specs.Picking.{readers}
use Rattle.c_grammar.specs.Table.{arm, branch, last, parenthesised, table}
use Rattle.c_unit_tree.specs.Views.{branch_of, kids, some}
use Rattle.c_parse_initialisers.specs.Reads.{at}

-- a statement that is no `if` is read as any statement is, where none stands there
other_is : (d : ℕ) (names : Names) (tokens : List Token) → starts (is_key key.If) tokens ≡ false →
    parse C table readers d sort.Other names tokens ≡ parse C table readers d sort.Statement names tokens
other_is zero names tokens e = refl
other_is (suc d) names [] e = refl
other_is (suc d) names (t ∷ tokens) e = rw e refl

other_none : (d : ℕ) (names : Names) (tokens : List Token) → starts (is_key key.If) tokens ≡ true → None ≡ parse C table readers d sort.Other names tokens
other_none zero names tokens e = refl
other_none (suc d) names [] e = refl
other_none (suc d) names (t ∷ tokens) e = rw e refl

module _ (d : ℕ) (names : Names) (tokens behind : List Token) (opened : behind_key key.Else tokens ≡ Some behind) where
  pub arm_none : (span : Span) → place_at behind ≡ Some span → None ≡ at d (Key key.If (parenthesised (branch Done))) names behind → None ≡ at d arm names tokens
  unfolding arm
  arm_none span here e = rw (opened, here, ← e) refl

  pub arm_some : (span : Span) (new : Names) (rest : List Token) (all : Trees C) → place_at behind ≡ Some span →
      Some (all, new, rest) ≡ at d (Key key.If (parenthesised (branch Done))) names behind → Some (Next (Place span) all, new, rest) ≡ at d arm names tokens
  unfolding arm
  arm_some span new rest all here e = rw (opened, here, ← e) refl

  -- what a last `else` has is no `if`
  pub no_last : starts (is_key key.Else) tokens ≡ true → starts (is_key key.If) behind ≡ true → None ≡ at d last names tokens
  unfolding last
  no_last there e = rw (there, opened, ← other_none d names behind e) refl

  pub last_none : starts (is_key key.Else) tokens ≡ true → starts (is_key key.If) behind ≡ false → None ≡ at d (branch Done) names behind → None ≡ at d last names tokens
  unfolding last
  last_none there e b = rw (there, opened, other_is d names behind e, ← b) refl

  pub last_some : (new : Names) (rest : List Token) (t : Tree C) → starts (is_key key.Else) tokens ≡ true → starts (is_key key.If) behind ≡ false →
      Some (kids (branch_of t ∷ []), new, rest) ≡ at d (branch Done) names behind → Some (kids (some (branch_of t ∷ []) ∷ []), new, rest) ≡ at d last names tokens
  unfolding last
  last_some new rest t there e b = rw (there, opened, other_is d names behind e, ← b) refl
