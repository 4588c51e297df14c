-- A tree of a sort is a tree of the rule that is picked.
use Rattle.std.proofs.Common.{◌≡◌, ℕ, Bool, zero, suc, ◌-◌, ◌≤◌, true, false, List, [], ◌∷◌, Option, None, Some, ap, refl, subst, arith}
use Rattle.c_base.specs.declared.number.Span.{Span}
use Rattle.c_base.specs.declared.token.Keyword.TheVariants as key
use Rattle.c_base.specs.declared.token.Punctuator.TheVariants as mark
use Rattle.c_base.specs.declared.token.Token.{Token}
use Rattle.c_base.specs.declared.token.Word.{Word}
use Rattle.c_base.specs.declared.token.Word.TheVariants as word
use Rattle.c_tree.specs.WellFormed.{Names}
use Rattle.c_parse_rules.specs.Declaring.{starts}
use Rattle.c_parse_rules.specs.Tokens.{behind_mark, is_key}
use Rattle.grammar.specs.Forms.{Group, Mark, Nil, Node, Place, Trees}
use Rattle.grammar.specs.Reading.{listed, parse, rule_at}
use Rattle.grammar.specs.Spelling.{place_at}
use Rattle.c_grammar.specs.declared.rule.Rule.{Rule}
use Rattle.c_grammar.specs.declared.rule.Rule.TheVariants as rule
use Rattle.c_grammar.specs.declared.rule.Sort.{Sort}
use Rattle.c_grammar.specs.declared.rule.Sort.TheVariants as sort
use Rattle.c_grammar.specs.Leaves.{C}
use Rattle.c_grammar.specs.Picking.{declaration_rule, pick, readers}
use Rattle.c_grammar.specs.Table.{item, last_comma, on_next_item, table}
use Rattle.c_unit_tree.specs.Views.{kids, listing}
use Rattle.c_parse_initialisers.proofs.Picked.{at_rule}

assertion_word : (w : Word) → is_key key.StaticAssert w ≡ true → declaration_rule w ≡ rule.Assertion
assertion_word (word.Keyword key.StaticAssert) h = refl
assertion_word (word.Keyword _) h = absurd (cc)
assertion_word _ h = absurd (cc)

declaration_word : (w : Word) → is_key key.StaticAssert w ≡ false → declaration_rule w ≡ rule.Declaration
declaration_word (word.Keyword key.StaticAssert) h = absurd (cc)
declaration_word (word.Keyword _) h = refl
declaration_word _ h = refl

pub assertion_picked : (d : ℕ) (names : Names) (tokens : List Token) → (d ≡ 0 → ⊥) → starts (is_key key.StaticAssert) tokens ≡ true →
    rule_at C table readers (d - 1) (parse C table readers (d - 1)) rule.Assertion names tokens ≡ parse C table readers d sort.Declaration names tokens
assertion_picked zero names tokens some h = absurd (some refl)
assertion_picked (suc d) names [] some h = absurd (cc)
assertion_picked (suc d) names (t ∷ tokens) some h = at_rule (suc d) sort.Declaration rule.Assertion names (t ∷ tokens) some (ap Some (assertion_word t.word h))

pub declaration_picked : (d : ℕ) (names : Names) (tokens : List Token) → (d ≡ 0 → ⊥) → starts (is_key key.StaticAssert) tokens ≡ false →
    rule_at C table readers (d - 1) (parse C table readers (d - 1)) rule.Declaration names tokens ≡ parse C table readers d sort.Declaration names tokens
unfolding place_at
declaration_picked zero names tokens some h = absurd (some refl)
declaration_picked (suc d) names [] some h = refl
declaration_picked (suc d) names (t ∷ tokens) some h = at_rule (suc d) sort.Declaration rule.Declaration names (t ∷ tokens) some (ap Some (declaration_word t.word h))
