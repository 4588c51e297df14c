-- A tree of a sort is a tree of the rule that is picked.
use Rattle.std.proofs.Common.{◌≡◌, ℕ, Bool, zero, suc, ◌-◌, ◌≤◌, true, false, List, [], ◌∷◌, Option, None, Some, ap, refl, subst, arith}
use Rattle.c_base.specs.declared.number.Span.{Span}
use Rattle.c_base.specs.declared.token.Keyword.TheVariants as key
use Rattle.c_base.specs.declared.token.Punctuator.TheVariants as mark
use Rattle.c_base.specs.declared.token.Token.{Token}
use Rattle.c_base.specs.declared.token.Word.{Word}
use Rattle.c_base.specs.declared.token.Word.TheVariants as word
use Rattle.c_tree.specs.WellFormed.{Names}
use Rattle.c_parse_rules.specs.Declaring.{starts}
use Rattle.c_parse_rules.specs.Tokens.{behind_mark, is_key}
use Rattle.grammar.specs.Forms.{Group, Mark, Nil, Node, Place, Trees}
use Rattle.grammar.specs.Reading.{listed, parse, rule_at}
use Rattle.grammar.specs.Spelling.{place_at}
use Rattle.c_grammar.specs.declared.rule.Rule.{Rule}
use Rattle.c_grammar.specs.declared.rule.Rule.TheVariants as rule
use Rattle.c_grammar.specs.declared.rule.Sort.{Sort}
use Rattle.c_grammar.specs.declared.rule.Sort.TheVariants as sort
use Rattle.c_grammar.specs.Leaves.{C}
use Rattle.c_grammar.specs.Picking.{declaration_rule, pick, readers}
use Rattle.c_grammar.specs.Table.{item, last_comma, on_next_item, table}
use Rattle.c_unit_tree.specs.Views.{kids, listing}
use Rattle.c_parse_initialisers.specs.Reads.{at}

pub at_rule : (d : ℕ) (s : Sort) (r : Rule) (names : Names) (tokens : List Token) → (d ≡ 0 → ⊥) → pick s names tokens ≡ Some r →
    rule_at C table readers (d - 1) (parse C table readers (d - 1)) r names tokens ≡ parse C table readers d s names tokens
at_rule zero s r names tokens some e = absurd (some refl)
at_rule (suc d) s r names tokens some e =
    let n : d ≡ suc d - 1 = omega arith in
    subst (λ (x : ℕ). rule_at C table readers x (parse C table readers x) r names tokens ≡ parse C table readers (suc d) s names tokens) n (rw e refl)

pub braces_picked : (d : ℕ) (names : Names) (tokens : List Token) → (d ≡ 0 → ⊥) →
    rule_at C table readers (d - 1) (parse C table readers (d - 1)) rule.Braces names tokens ≡ parse C table readers d sort.Braces names tokens
unfolding place_at
braces_picked zero names tokens some = absurd (some refl)
braces_picked (suc d) names [] some = refl
braces_picked (suc d) names (t ∷ tokens) some = at_rule (suc d) sort.Braces rule.Braces names (t ∷ tokens) some refl

-- ---- braces

module _ (d : ℕ) (names between : Names) (tokens inside behind : List Token) (span : Span) (items : List (Trees C)) (here : place_at tokens ≡ Some span)
    (open_brace : behind_mark mark.OpenBrace tokens ≡ Some inside) (list : listed C (at d item) (at d (Mark mark.Comma item)) on_next_item names inside ≡ Some (items, between, behind)) where
  pub braces_none : at d last_comma between behind ≡ None → rule_at C table readers d (parse C table readers d) rule.Braces names tokens ≡ None
  braces_none e = rw (here, open_brace, list, e) refl

  pub braces_some : (comma : Bool) (rest : List Token) → at d last_comma between behind ≡ Some (kids (Group comma Nil ∷ []), between, rest) →
      rule_at C table readers d (parse C table readers d) rule.Braces names tokens ≡ Some (Node rule.Braces (kids (Place span ∷ listing items ∷ Group comma Nil ∷ [])), between, rest)
  braces_some comma rest e = rw (here, open_brace, list, e) refl
