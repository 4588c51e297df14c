-- Specifiers that are spelled are read.
use Rattle.std.proofs.Common.{◌≡◌, ℕ, suc, ◌≤◌, Bool, true, false, ◌&&◌, IsTrue, List, [], ◌∷◌, ◌++◌, length, Option, None, Some, refl, ◌∙◌, ap, arith}
use Rattle.std.proofs.lemmas.Bool.{cond-true}
use Rattle.c_base.specs.declared.number.Span.{Span}
use Rattle.c_base.specs.declared.token.Keyword.{Keyword}
use Rattle.c_base.specs.declared.token.Keyword.TheVariants as key
use Rattle.c_base.specs.declared.token.Punctuator.TheVariants as mark
use Rattle.c_base.specs.declared.token.Token.{Token}
use Rattle.c_base.specs.declared.token.Word.{Word}
use Rattle.c_base.specs.declared.token.Word.TheVariants as word
use Rattle.c_tree.specs.declared.tree.Attribute.{Attribute as CodeAttribute}
use Rattle.c_tree.specs.declared.tree.CompositeSort.{CompositeSort}
use Rattle.c_tree.specs.declared.tree.CompositeSort.TheVariants as sort
use Rattle.c_tree.specs.Nesting.{nest_all}
use Rattle.c_tree.specs.Spelling.{Piece, at, plain, sign, pieces_of_all, pieces_of_tag, pieces_of_attributes, pieces_with_commas, pieces_where, keyword_of_sort}
use Rattle.c_tree.specs.Trees.{Tree, Key, Typedef, Attribute, CompositeTag, Composite, EnumTag, Enum, Trees}
use Rattle.c_tree.specs.Views.{listed}
use Rattle.c_tree.specs.WellFormed.{Names, Purpose, Before, Untyped, Typed, Braced, AreMembers, AreAttributes, IsUntyped, IsUnbraced, may_specify, is_typedef}
use Rattle.c_parse_rules.specs.Declaring.{starts}
use Rattle.c_parse_rules.proofs.Laws.{ExprsSound, ExprsReached}
use Rattle.c_parse_rules.specs.Rules.{Found, Inner}
use Rattle.c_parse_rules.specs.Tokens.{behind_mark, is_key, is_mark, name_at}
use Rattle.c_parse_rules.specs.TypeRules.{Specifiers, Declarators, Typings, is_untyped, is_braced, attribute_behind, attributes_at, members, body_at, untagged_at, composite_at, specifier_of, specifier_rule}
use Rattle.c_parse_rules.proofs.types.Begins.{word_true}
use Rattle.c_parse_rules.proofs.types.EnumsReach.{tag_read, enum_read}
use Rattle.c_parse_rules.proofs.types.Laws.{SpecifiersSound, SpecifiersReached, DeclaratorsSound, DeclaratorsReached}
use Rattle.c_parse_rules.proofs.types.MembersReach.{members_reach}
use Rattle.c_parse_rules.proofs.types.Parts.{pieces_inside, behind_reach, attributes_reach}
use Rattle.c_parse_rules.proofs.types.SuffixesReach.{plain_list, listed_plain}
use Rattle.c_parse_rules.proofs.types.Words.{Fit, fit_split, fit_first, fit_next, fit_absurd, take_mark, last_name, is_name, starts_as, starts_with, starts_not, mark_none, name_none}

module _ (depth : ℕ) (inner : Inner) (typings : Typings) (specifiers : Specifiers) (declarators : Declarators) (inner_sound : ExprsSound depth inner)
    (inner_reached : ExprsReached depth inner)
    (specifiers_sound : SpecifiersSound specifiers) (specifiers_reached : SpecifiersReached depth specifiers) (declarators_sound : DeclaratorsSound declarators)
    (declarators_reached : DeclaratorsReached depth declarators) where
  -- ---- structs and unions

  tag_is : (span : Span) (which : CompositeSort) (names : Names) (kept : List CodeAttribute) (tag : List ℕ) (tokens mid rest : List Token) → attributes_at tokens ≡ (kept, mid) →
      name_at mid ≡ Some (tag, rest) → behind_mark mark.OpenBrace rest ≡ None →
      composite_at depth inner typings specifiers declarators span which names tokens ≡ Some (CompositeTag span which kept tag, rest)
  unfolding composite_at
  tag_is span which names kept tag tokens mid rest e f g = rw (e, f, g) refl

  tagged_is : (span : Span) (which : CompositeSort) (names : Names) (kept : List CodeAttribute) (tag : List ℕ) (tokens mid left inside : List Token) (result : Option Found) →
      attributes_at tokens ≡ (kept, mid) → name_at mid ≡ Some (tag, left) → behind_mark mark.OpenBrace left ≡ Some inside →
      body_at depth inner typings specifiers declarators span which kept (Some tag) names inside ≡ result →
      composite_at depth inner typings specifiers declarators span which names tokens ≡ result
  unfolding composite_at
  tagged_is span which names kept tag tokens mid left inside result e f g h = rw (e, f, g) h

  untagged_is : (span : Span) (which : CompositeSort) (names : Names) (kept : List CodeAttribute) (tokens mid inside : List Token) (result : Option Found) →
      attributes_at tokens ≡ (kept, mid) → name_at mid ≡ None → behind_mark mark.OpenBrace mid ≡ Some inside →
      body_at depth inner typings specifiers declarators span which kept None names inside ≡ result →
      composite_at depth inner typings specifiers declarators span which names tokens ≡ result
  unfolding composite_at untagged_at
  untagged_is span which names kept tokens mid inside result e f g h = rw (e, f, g) h

  body_is : (span : Span) (which : CompositeSort) (names : Names) (kept trailing : List CodeAttribute) (tag : Option (List ℕ)) (ts : Trees) (tokens left closed rest : List Token) →
      members depth inner typings specifiers declarators (suc (length tokens)) [] names tokens ≡ (plain_list ts, left) → listed (plain_list ts) ≡ ts →
      behind_mark mark.CloseBrace left ≡ Some closed →
      attributes_at closed ≡ (trailing, rest) →
      body_at depth inner typings specifiers declarators span which kept tag names tokens ≡ Some (Composite span which kept tag ts trailing, rest)
  unfolding body_at
  body_is span which names kept trailing tag ts tokens left closed rest e same f g = rw (e, f, g, same) refl

  tag_reach : (span : Span) (which : CompositeSort) (names : Names) (kept : List CodeAttribute) (tag : List ℕ) (tokens rest : List Token) → AreAttributes kept →
      Fit (pieces_of_attributes kept ++ plain (word.Identifier tag) ∷ []) tokens rest → starts (is_mark mark.OpenBrace) rest ≡ false →
      composite_at depth inner typings specifiers declarators span which names tokens ≡ Some (CompositeTag span which kept tag, rest)
  tag_reach span which names kept tag tokens rest ok h end =
      let s = fit_split (pieces_of_attributes kept) (plain (word.Identifier tag) ∷ []) h in
      tag_is span which names kept tag tokens s.mid rest (attributes_reach kept tokens s.mid ok s.front (starts_as is_name (is_key key.Attribute) refl s.back))
      (last_name tag s.back) (mark_none mark.OpenBrace rest end)

  brace_first : (w : Word) → is_mark mark.OpenBrace w ≡ true → (is_name w ≡ false) × (is_key key.Attribute w ≡ false)
  brace_first (word.Punctuator p) h = (refl, refl)
  brace_first _ h = absurd (cc)

  by_tag : (span : Span) (which : CompositeSort) (names : Names) (kept : List CodeAttribute) (tag : Option (List ℕ)) (tokens mid left inside : List Token) (result : Option Found) → AreAttributes kept →
      Fit (pieces_of_attributes kept) tokens mid → Fit (pieces_of_tag tag) mid left → behind_mark mark.OpenBrace left ≡ Some inside → starts (is_mark mark.OpenBrace) left ≡ true →
      body_at depth inner typings specifiers declarators span which kept tag names inside ≡ result →
      composite_at depth inner typings specifiers declarators span which names tokens ≡ result
  by_tag span which names kept None tokens mid left inside result ok h k o first e =
      let brace : starts (is_mark mark.OpenBrace) mid ≡ true = rw k.is first in
      untagged_is span which names kept tokens mid inside result
      (attributes_reach kept tokens mid ok h (starts_not (is_mark mark.OpenBrace) (is_key key.Attribute) mid (λ w x. (brace_first w x).1) brace))
      (name_none mid (starts_not (is_mark mark.OpenBrace) is_name mid (λ w x. (brace_first w x).0) brace)) (rw k.is o) e
  by_tag span which names kept (Some tag) tokens mid left inside result ok h k o first e =
      tagged_is span which names kept tag tokens mid left inside result (attributes_reach kept tokens mid ok h (starts_as is_name (is_key key.Attribute) refl k)) (last_name tag k) o e

  composite_reach : (span : Span) (which : CompositeSort) (names : Names) (kept trailing : List CodeAttribute) (tag : Option (List ℕ)) (ts : Trees) (tokens rest : List Token) →
      AreAttributes kept →
      AreMembers names ts → AreAttributes trailing → nest_all ts ≤ depth →
      Fit (pieces_of_attributes kept ++ pieces_of_tag tag ++ sign mark.OpenBrace ∷ pieces_of_all ts ++ sign mark.CloseBrace ∷ pieces_of_attributes trailing) tokens rest →
      starts (is_key key.Attribute) rest ≡ false →
      composite_at depth inner typings specifiers declarators span which names tokens ≡ Some (Composite span which kept tag ts trailing, rest)
  composite_reach span which names kept trailing tag ts tokens rest a ok b shallow h end =
      let s = fit_split (pieces_of_attributes kept ++ pieces_of_tag tag ++ sign mark.OpenBrace ∷ pieces_of_all ts) (sign mark.CloseBrace ∷ pieces_of_attributes trailing) h in
      let k = fit_split (pieces_of_attributes kept ++ pieces_of_tag tag) (sign mark.OpenBrace ∷ pieces_of_all ts) s.front in
      let m = fit_split (pieces_of_attributes kept) (pieces_of_tag tag) k.front in
      let o = take_mark mark.OpenBrace k.back in
      let c = take_mark mark.CloseBrace s.back in
      by_tag span which names kept tag tokens m.mid k.mid o.left _ a m.front m.back o.is (starts_with (is_mark mark.OpenBrace) refl k.back)
      (body_is span which names kept trailing tag ts o.left s.mid c.left rest
      (members_reach depth inner typings specifiers declarators inner_sound inner_reached specifiers_sound specifiers_reached declarators_sound declarators_reached (suc (length o.left)) names ts o.left s.mid (omega arith) ok shallow o.back
      (starts_with (is_mark mark.CloseBrace) refl s.back))
      (listed_plain ts) c.is (attributes_reach trailing c.left rest b c.back end))

  -- ---- specifiers

  -- behind the first word
  first_read : (purpose : Purpose) (names : Names) (before : Before) (span : Span) (w : Word) (more : List Piece) (tokens rest : List Token) (result : Option Found) →
      Fit (at span w ∷ more) tokens rest →
      ((left : List Token) → Fit more left rest → specifier_of depth inner typings specifiers declarators purpose names before span left w ≡ result) →
      specifier_rule depth inner typings specifiers declarators purpose names before tokens ≡ result
  first_read purpose names before span w more [] rest result h f = fit_absurd h
  first_read purpose names before span w more (t ∷ tokens) rest result h f =
      let piece = fit_first h in first_is t tokens piece.word piece.place (f tokens (fit_next h))
    where
      first_is : (t : Token) (tokens : List Token) → t.word ≡ w → span ≡ t.span →
          specifier_of depth inner typings specifiers declarators purpose names before span tokens w ≡ result →
          specifier_rule depth inner typings specifiers declarators purpose names before (t ∷ tokens) ≡ result
      first_is t tokens e f h = rw (e, ← f) h

  left_is : (tree : Tree) (tokens rest : List Token) (o : Option Found) → o ≡ Some (tree, tokens) → tokens ≡ rest → o ≡ Some (tree, rest)
  left_is tree tokens rest o e f = e ∙ ap (λ (left : List Token). Some (record { 0 = tree; 1 = left })) f

  key_is : (purpose : Purpose) (names : Names) (before : Before) (span : Span) (tokens : List Token) (k : Keyword) → IsTrue (may_specify purpose k) →
      specifier_of depth inner typings specifiers declarators purpose names before span tokens (word.Keyword k) ≡ Some (Key span k, tokens)
  key_is purpose names before span tokens key.Struct ok = let e = word_true purpose key.Struct ok in absurd (cc)
  key_is purpose names before span tokens key.Union ok = let e = word_true purpose key.Union ok in absurd (cc)
  key_is purpose names before span tokens key.Enum ok = let e = word_true purpose key.Enum ok in absurd (cc)
  key_is purpose names before span tokens key.Attribute ok = let e = word_true purpose key.Attribute ok in absurd (cc)
  key_is purpose names before span tokens k ok = cond-true (may_specify purpose k) (Some (record { 0 = Key span k; 1 = tokens })) None ok

  typedef_is : (purpose : Purpose) (names : Names) (before : Before) (span : Span) (tokens : List Token) (name : List ℕ) → is_untyped before && is_typedef names name ≡ true →
      specifier_of depth inner typings specifiers declarators purpose names before span tokens (word.Identifier name) ≡ Some (Typedef span name, tokens)
  typedef_is purpose names before span tokens name e = rw e refl

  typedef_true : (before : Before) (known : Bool) → IsUntyped before → known ≡ true → is_untyped before && known ≡ true
  typedef_true Untyped known u e = e
  typedef_true Typed known u e = absurd u
  typedef_true Braced known u e = absurd u

  unbraced_is : (before : Before) → IsUnbraced before → is_braced before ≡ false
  unbraced_is Untyped u = refl
  unbraced_is Typed u = refl
  unbraced_is Braced u = absurd u

  attribute_is : (purpose : Purpose) (names : Names) (before : Before) (span : Span) (a : CodeAttribute) (tokens rest : List Token) → is_braced before ≡ false →
      attribute_behind span tokens ≡ Some (a, rest) →
      specifier_of depth inner typings specifiers declarators purpose names before span tokens (word.Keyword key.Attribute) ≡ Some (Attribute a, rest)
  attribute_is purpose names before span a tokens rest e f = rw (e, f) refl

  composite_is : (purpose : Purpose) (names : Names) (before : Before) (span : Span) (which : CompositeSort) (tokens : List Token) →
      specifier_of depth inner typings specifiers declarators purpose names before span tokens (word.Keyword (keyword_of_sort which))
      ≡ composite_at depth inner typings specifiers declarators span which names tokens
  composite_is purpose names before span sort.Struct tokens = refl
  composite_is purpose names before span sort.Union tokens = refl

  pub specifier_rule_reached : SpecifiersReached (suc depth) (specifier_rule depth inner typings specifiers declarators)
  specifier_rule_reached purpose names before tokens (Key span k) rest front shallow end =
      first_read purpose names before span (word.Keyword k) [] tokens rest _ front.words
      (λ left h. left_is (Key span k) left rest _ (key_is purpose names before span left k front.shape) h.is)
  specifier_rule_reached purpose names before tokens (Typedef span name) rest front shallow end =
      let ok = front.shape in
      first_read purpose names before span (word.Identifier name) [] tokens rest _ front.words
      (λ left h. left_is (Typedef span name) left rest _ (typedef_is purpose names before span left name (typedef_true before (is_typedef names name) ok.0 ok.1)) h.is)
  specifier_rule_reached purpose names before tokens (Attribute a) rest front shallow end =
      let ok = front.shape in
      first_read purpose names before a.span (word.Keyword key.Attribute) (pieces_inside a.words) tokens rest _ front.words
      (λ left h. attribute_is purpose names before a.span a left rest (unbraced_is before ok.0) (behind_reach a.span a.words left rest ok.1 h))
  specifier_rule_reached purpose names before tokens (CompositeTag span which kept tag) rest front shallow end =
      first_read purpose names before span (word.Keyword (keyword_of_sort which)) (pieces_of_attributes kept ++ plain (word.Identifier tag) ∷ []) tokens rest _ front.words
      (λ left h. composite_is purpose names before span which left ∙ tag_reach span which names kept tag left rest front.shape h end)
  specifier_rule_reached purpose names before tokens (Composite span which kept tag ts trailing) rest front shallow end =
      let ok = front.shape in
      first_read purpose names before span (word.Keyword (keyword_of_sort which))
      (pieces_of_attributes kept ++ pieces_of_tag tag ++ sign mark.OpenBrace ∷ pieces_of_all ts ++ sign mark.CloseBrace ∷ pieces_of_attributes trailing) tokens rest _ front.words
      (λ left h. composite_is purpose names before span which left ∙ composite_reach span which names kept trailing tag ts left rest ok.0 ok.1 ok.2 (omega arith) h end)
  specifier_rule_reached purpose names before tokens (EnumTag span tag) rest front shallow end =
      first_read purpose names before span (word.Keyword key.Enum) (plain (word.Identifier tag) ∷ []) tokens rest _ front.words
      (λ left h. tag_read depth inner typings specifiers declarators inner_sound inner_reached span names tag left rest h end)
  specifier_rule_reached purpose names before tokens (Enum span tag ts comma) rest front shallow end =
      let ok = front.shape in
      first_read purpose names before span (word.Keyword key.Enum)
      (pieces_of_tag tag ++ sign mark.OpenBrace ∷ pieces_with_commas false ts ++ pieces_where comma (sign mark.Comma ∷ []) ++ sign mark.CloseBrace ∷ []) tokens rest _ front.words
      (λ left h. enum_read depth inner typings specifiers declarators inner_sound inner_reached span names tag ts comma left rest ok.0 ok.1 (omega arith) h)
  specifier_rule_reached purpose names before tokens _ rest front shallow end = absurd front.shape
