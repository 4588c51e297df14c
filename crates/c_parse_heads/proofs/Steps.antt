-- Steps along a form.
use Rattle.std.proofs.Common.{◌≡◌, ℕ, true, false, List, [], ◌∷◌, Option, None, Some, refl, sym, ◌∙◌, ap}
use Rattle.c_base.specs.declared.number.Span.{Span}
use Rattle.c_base.specs.declared.token.Keyword.{Keyword}
use Rattle.c_base.specs.declared.token.Punctuator.{Punctuator}
use Rattle.c_base.specs.declared.token.Punctuator.TheVariants as mark
use Rattle.c_base.specs.declared.token.Token.{Token}
use Rattle.c_tree.specs.WellFormed.{Names}
use Rattle.c_parse_rules.specs.Tokens.{behind_key, behind_mark}
use Rattle.grammar.specs.Forms.{Form, Done, Here, Key, Mark, Part, Scoped, Node, Place, Group, Tree, Trees}
use Rattle.grammar.specs.Reading.{Ran, parse, rule_at, with_kid}
use Rattle.grammar.specs.Spelling.{place_at}
use Rattle.c_grammar.specs.declared.rule.Rule.{Rule}
use Rattle.c_grammar.specs.Leaves.{C}
use Rattle.c_grammar.specs.Picking.{readers}
use Rattle.c_grammar.specs.Table.{for_first, form, on_declaration, optional_before, table}
use Rattle.c_unit_tree.specs.Views.{kids, other}
use Rattle.c_parse_initialisers.specs.Reads.{at}

pub placed : (d : ℕ) (f : Form C) (names : Names) (tokens : List Token) (span : Span) → place_at tokens ≡ Some span → with_kid C (Place span) (at d f names tokens) ≡ at d (Here f) names tokens
placed d f names tokens span e = rw e refl

pub keyed : (d : ℕ) (k : Keyword) (f : Form C) (names : Names) (tokens rest : List Token) → behind_key k tokens ≡ Some rest → at d f names rest ≡ at d (Key k f) names tokens
keyed d k f names tokens rest e = rw e refl

pub marked : (d : ℕ) (p : Punctuator) (f : Form C) (names : Names) (tokens rest : List Token) → behind_mark p tokens ≡ Some rest → at d f names rest ≡ at d (Mark p f) names tokens
marked d p f names tokens rest e = rw e refl

-- the first part of a `for`, where it is no declaration
pub first_some : (d : ℕ) (more : Form C) (old new : Names) (tokens rest : List Token) (value : Tree C) → on_declaration old tokens ≡ false →
    Some (kids (value ∷ []), new, rest) ≡ at d (optional_before mark.Semicolon Done) old tokens →
    with_kid C (Group true (kids (other (value ∷ []) ∷ []))) (at d more new rest) ≡ at d (Part for_first more) old tokens
unfolding for_first
first_some d more old new tokens rest value t e = rw (t, ← e) refl

pub first_none : (d : ℕ) (more : Form C) (old : Names) (tokens : List Token) → on_declaration old tokens ≡ false →
    None ≡ at d (optional_before mark.Semicolon Done) old tokens → None ≡ at d (Part for_first more) old tokens
unfolding for_first
first_none d more old tokens t e = rw (t, ← e) refl

-- ---- a rule of which what is declared in it ends with it

module _ (d : ℕ) (r : Rule) (inside : Form C) (names : Names) (tokens : List Token) (span : Span) (shape : form r ≡ Here (Scoped inside Done)) (here : place_at tokens ≡ Some span) where
  pub scope_some : (behind : Names) (rest : List Token) (all : Trees C) → Some (all, behind, rest) ≡ at d inside names tokens →
      Some (Node r (kids (Place span ∷ Group true all ∷ [])), names, rest) ≡ rule_at C table readers d (parse C table readers d) r names tokens
  scope_some behind rest all e = rw (shape, here, ← e) refl

  pub scope_none : None ≡ at d inside names tokens → None ≡ rule_at C table readers d (parse C table readers d) r names tokens
  scope_none e = rw (shape, here, ← e) refl

pub unmarked : (d : ℕ) (p : Punctuator) (f : Form C) (names : Names) (tokens : List Token) → behind_mark p tokens ≡ None → None ≡ at d (Mark p f) names tokens
unmarked d p f names tokens e = rw e refl

pub headed : (d : ℕ) (k : Keyword) (p : Punctuator) (f : Form C) (names : Names) (tokens opened inside : List Token) → behind_key k tokens ≡ Some opened → behind_mark p opened ≡ Some inside →
    at d f names inside ≡ at d (Key k (Mark p f)) names tokens
headed d k p f names tokens opened inside a b = rw (a, b) refl
