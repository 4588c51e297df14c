-- A statement is a tree of the rule that is picked; what is read in a scope of its own.
use Rattle.std.proofs.Common.{◌≡◌, ℕ, suc, List, [], ◌∷◌, Option, Result, Bor, refl, sym, subst}
use Rattle.std.specs.Prelude.{IfOk, IsTrue, option_map}
use Rattle.c_base.specs.declared.token.Token.{Token}
use Rattle.c_tree.specs.WellFormed.{Names}
use Rattle.grammar.specs.Forms.{Tree}
use Rattle.grammar.specs.Reading.{Found, parse, rule_at}
use Rattle.c_grammar.specs.declared.rule.Rule.{Rule}
use Rattle.c_grammar.specs.declared.rule.Sort.TheVariants as sort
use Rattle.c_grammar.specs.Leaves.{C}
use Rattle.c_grammar.specs.Picking.{readers, statement_rule}
use Rattle.c_grammar.specs.Table.{belongs, table}
use Rattle.c_grammar.proofs.Beginnings.{right}

-- what is read in a scope of its own
pub scoped : {T E : Type 0} (view : T → Tree C) (result : Result (Option (T × Bor (List Token))) E) (plain : Names → Option (Found C)) (inside old new : Names) → inside ≡ old → new ≡ old →
    IfOk result (λ r. option_map (λ f. (view f.0, inside, f.1.now)) r ≡ plain inside) → IfOk result (λ r. option_map (λ f. (view f.0, new, f.1.now)) r ≡ plain old)
scoped {T} {E} view result plain inside old new e f h =
    subst (λ (x : Names). IfOk result (λ r. option_map (λ f. (view f.0, x, f.1.now)) r ≡ plain old)) (sym f)
    (subst (λ (x : Names). IfOk result (λ r. option_map (λ f. (view f.0, x, f.1.now)) r ≡ plain x)) e h)

pub statement_picked : (d : ℕ) (names : Names) (t : Token) (rest tokens : List Token) (r : Rule) → tokens ≡ t ∷ rest → r ≡ statement_rule t.word rest →
    rule_at C table readers d (parse C table readers d) r names tokens ≡ parse C table readers (suc d) sort.Statement names tokens
statement_picked d names t rest tokens r e same = rw (e, same) refl

pub rule_belongs : (t : Token) (rest : List Token) (r : Rule) → r ≡ statement_rule t.word rest → IsTrue (belongs sort.Statement r)
rule_belongs t rest r same = rw same (right sort.Statement [] (t ∷ rest) (statement_rule t.word rest) refl)
