-- Units (C11 6.9): external declarations, one after the other, up to the last token.
use Rattle.std.specs.Prelude.{◌↔◌, ℕ, ◌≡◌, ◌≤◌, true, false, List, [], ◌∷◌, Option, None, Some}
use Rattle.c_base.specs.declared.token.Token.{Token}
use Rattle.c_tree.specs.WellFormed.{Names}
use Rattle.grammar.specs.Forms.{Test, Form, Done, Sub, Many, Trees}
use Rattle.grammar.specs.Reading.{Ran, parse, run}
use Rattle.grammar.specs.Spelling.{SpellsAll, nest_all}
use Rattle.c_grammar.specs.declared.rule.Sort.TheVariants as sort
use Rattle.c_grammar.specs.Leaves.{C}
use Rattle.c_grammar.specs.Picking.{readers}
use Rattle.c_grammar.specs.Table.{table}

abbrev pub on_token : Test C
on_token names [] = false
on_token names (t ∷ tokens) = true

abbrev pub unit : Form C
unit = Many on_token (Sub sort.External Done) Done

-- the tokens are these external declarations, behind which these names are declared
abbrev pub IsUnit : Trees C → List Token → Names → Type 0
IsUnit kids tokens new = SpellsAll C table kids unit [] tokens new []

-- how many nodes the longest path has from an external declaration
abbrev pub nesting : Trees C → ℕ
nesting kids = nest_all C kids

abbrev pub parse_unit : ℕ → List Token → Option (Ran C)
parse_unit depth tokens = run C readers depth (parse C table readers depth) unit [] tokens

-- what is read nests so deep at most and spells the tokens; and each unit that spells them and nests so deep at most is read
abbrev pub UnitsAreExact : Type 0
UnitsAreExact = (depth : ℕ) (tokens : List Token) (kids : Trees C) (new : Names) →
    (parse_unit depth tokens ≡ Some (kids, new, [])) ↔ (IsUnit kids tokens new × (nesting kids ≤ depth))

-- nothing is left
abbrev pub TakesAll : Type 0
TakesAll = (depth : ℕ) (tokens : List Token) (x : Ran C) → parse_unit depth tokens ≡ Some x → x.2 ≡ []

-- nothing is read exactly where no unit that nests so deep at most spells the tokens
abbrev pub NoneWhereNone : Type 0
NoneWhereNone = (depth : ℕ) (tokens : List Token) →
    (parse_unit depth tokens ≡ None) ↔ ((kids : Trees C) (new : Names) → IsUnit kids tokens new → nesting kids ≤ depth → ⊥)

-- no two units spell the same tokens
abbrev pub OneUnit : Type 0
OneUnit = (tokens : List Token) (a b : Trees C) (m n : Names) → IsUnit a tokens m → IsUnit b tokens n → (a ≡ b) × (m ≡ n)
