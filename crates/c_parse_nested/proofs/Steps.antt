-- Substatements, and loops that have found nothing yet.
use Rattle.std.proofs.Common.{◌≡◌, ℕ, List, [], ◌∷◌, Option, None, Some, Result, Ok, Err, Bor, refl, subst}
use Rattle.std.specs.Prelude.{IfOk, option_map}
use Rattle.c_base.specs.declared.token.Token.{Token}
use Rattle.c_tree.specs.WellFormed.{Names}
use Rattle.grammar.specs.Forms.{Form, Test, Tree, Trees}
use Rattle.grammar.specs.Reading.{One, parse, several}
use Rattle.grammar.proofs.Loops.{Midst, several_begun}
use Rattle.c_grammar.specs.declared.rule.Sort.TheVariants as sort
use Rattle.c_grammar.specs.Leaves.{C}
use Rattle.c_grammar.specs.Picking.{readers}
use Rattle.c_grammar.specs.Table.{branch, table}
use Rattle.c_unit_tree.specs.Views.{branch_of}
use Rattle.c_parse_initialisers.specs.Reads.{at}
use Rattle.c_parse_heads.specs.Ahead.{ahead}

pub several_started : {T : Type 0} (kids : T → Trees C) (one : One C) (test : Test C) (names : Names) (tokens : List Token) (found : List T) → found ≡ [] →
    Midst C kids one test (several C one test [] names tokens) found names tokens
several_started kids one test names tokens found e = rw e (several_begun C kids one test names tokens [])

-- a substatement, before any form behind it
pub branch_read : {T E : Type 0} (view : T → Tree C) (d : ℕ) (result : Result (Option (T × Bor (List Token))) E) (inside old new : Names) (tokens : List Token) → inside ≡ old →
    IfOk result (λ r. option_map (λ x. (view x.0, new, x.1.now)) r ≡ parse C table readers d sort.Statement inside tokens) →
    IfOk result (λ r. (more : Form C) → ahead (λ s. branch_of (view s) ∷ []) d more old r ≡ at d (branch more) old tokens)
branch_read view d (Ok None) inside old new tokens e h = λ more. rw (← e, ← h) refl
branch_read view d (Ok (Some x)) inside old new tokens e h = λ more. rw (← e, ← h) refl
branch_read view d (Err error) inside old new tokens e h = tt

-- what is read ahead, with the same depth and the same names
pub ahead_as : {T : Type 0} (view : T → List (Tree C)) (form : Form C → Form C) {d e : ℕ} {old before : Names} (new : Names) (tokens : List Token) (r : Option (T × Bor (List Token))) →
    d ≡ e → old ≡ before → ((more : Form C) → ahead view d more new r ≡ at d (form more) old tokens) → (more : Form C) → ahead view e more new r ≡ at e (form more) before tokens
ahead_as {T} view form {d} {e} {old} {before} new tokens r same names h =
    subst (λ (n : Names). (more : Form C) → ahead view e more new r ≡ at e (form more) n tokens) names
    (subst (λ (x : ℕ). (more : Form C) → ahead view x more new r ≡ at x (form more) old tokens) same h)
