-- What the code's readers answer: what the grammar's forms and rules read, and the names behind it.
use Rattle.std.specs.Prelude.{ℕ, ◌≡◌, ◌<◌, ◌≤◌, List, length, map, Option, Result, option_map, IfOk, IfSome}
use Rattle.std.specs.Borrow.{Bor}
use Rattle.c_base.specs.declared.token.Token.{Token}
use Rattle.c_tree.specs.WellFormed.{Names}
use Rattle.grammar.specs.Forms.{Form, Test, Tree, Trees}
use Rattle.grammar.specs.Reading.{Several, parse, rule_at, run}
use Rattle.c_grammar.specs.declared.rule.Rule.{Rule}
use Rattle.c_grammar.specs.declared.rule.Sort.{Sort}
use Rattle.c_grammar.specs.Leaves.{C}
use Rattle.c_grammar.specs.Picking.{readers}
use Rattle.c_grammar.specs.Table.{table}

-- a form, of which each sub-tree nests so deep at most
abbrev pub at : ℕ → Form C → Names → List Token → Option (Trees C × Names × List Token)
at depth f = run C readers depth (parse C table readers depth) f

abbrev pub ReadsForm : {T E : Type 0} → (T → Trees C) → ℕ → Form C → Names → Names → List Token → Result (Option (T × Bor (List Token))) E → Type 0
ReadsForm view depth f old new tokens result = IfOk result (λ r. option_map (λ x. (view x.0, new, x.1.now)) r ≡ at depth f old tokens)

-- some elements of a list
abbrev pub ReadsList : {T E : Type 0} → (T → Trees C) → Option (Several C) → Names → Result (Option (List T × Bor (List Token))) E → Type 0
ReadsList view plain new result = IfOk result (λ r. option_map (λ x. (map view x.0, new, x.1.now)) r ≡ plain)

-- a tree of a rule
abbrev pub ReadsRule : {T E : Type 0} → (T → Tree C) → ℕ → Rule → Names → Names → List Token → Result (Option (T × Bor (List Token))) E → Type 0
ReadsRule view depth r old new tokens result =
    IfOk result (λ o. option_map (λ x. (view x.0, new, x.1.now)) o ≡ rule_at C table readers depth (parse C table readers depth) r old tokens)

-- a tree of a sort
abbrev pub ReadsSort : {T E : Type 0} → (T → Tree C) → ℕ → Sort → Names → Names → List Token → Result (Option (T × Bor (List Token))) E → Type 0
ReadsSort view depth s old new tokens result = IfOk result (λ o. option_map (λ x. (view x.0, new, x.1.now)) o ≡ parse C table readers depth s old tokens)

abbrev pub Shortens : {T E : Type 0} → List Token → Result (Option (T × Bor (List Token))) E → Type 0
Shortens tokens result = IfOk result (λ r. IfSome r (λ x. length x.1.now < length tokens))

abbrev pub NoLonger : {T E : Type 0} → List Token → Result (Option (T × Bor (List Token))) E → Type 0
NoLonger tokens result = IfOk result (λ r. IfSome r (λ x. length x.1.now ≤ length tokens))
