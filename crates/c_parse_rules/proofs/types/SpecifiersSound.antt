-- What is read as a specifier is spelled there, and is one.
use Rattle.std.proofs.Common.{◌≡◌, ℕ, suc, Bool, true, cond, ◌&&◌, List, [], ◌∷◌, length, Option, None, Some, refl}
use Rattle.std.proofs.lemmas.Option.{cond_some, none-some, same_Some}
use Rattle.c_base.specs.declared.number.Span.{Span}
use Rattle.c_base.specs.declared.token.Keyword.{Keyword}
use Rattle.c_base.specs.declared.token.Keyword.TheVariants as key
use Rattle.c_base.specs.declared.token.Punctuator.TheVariants as mark
use Rattle.c_base.specs.declared.token.Token.{Token}
use Rattle.c_base.specs.declared.token.Word.{Word}
use Rattle.c_base.specs.declared.token.Word.TheVariants as word
use Rattle.c_tree.specs.declared.tree.Attribute.{Attribute as CodeAttribute}
use Rattle.c_tree.specs.declared.tree.CompositeSort.{CompositeSort}
use Rattle.c_tree.specs.declared.tree.CompositeSort.TheVariants as sort
use Rattle.c_tree.specs.Spelling.{pieces_of_tag, keyword_of_sort}
use Rattle.c_tree.specs.Trees.{Key, Typedef, Attribute, CompositeTag, Composite}
use Rattle.c_tree.specs.Views.{listed}
use Rattle.c_tree.specs.WellFormed.{Names, Purpose, Before, Untyped, Typed, Braced, IsSpecifier, AreMembers, IsUntyped, IsUnbraced, may_specify, is_typedef}
use Rattle.c_parse_rules.proofs.Laws.{ExprsSound}
use Rattle.c_parse_rules.specs.Rules.{Found, Several, Inner}
use Rattle.c_parse_rules.specs.Tokens.{behind_mark, name_at}
use Rattle.c_parse_rules.specs.TypeRules.{Specifiers, Declarators, Typings, is_untyped, is_braced, attribute_behind, attributes_at, members, body_of, body_at, tagged, untagged_at, composite_with, composite_at, attribute_found, specifier_of, specifier_rule}
use Rattle.c_parse_rules.proofs.types.EnumsSound.{enum_found}
use Rattle.c_parse_rules.proofs.types.Laws.{SpecifiersSound, DeclaratorsSound}
use Rattle.c_parse_rules.proofs.types.MembersSound.{members_found}
use Rattle.c_parse_rules.proofs.types.Parts.{attributes_sound, AttributesFound, behind_sound}
use Rattle.c_parse_rules.proofs.types.SuffixesSound.{RowFound, TreeBehind, found_behind}
use Rattle.c_parse_rules.proofs.types.Words.{bound, Fit, fit_none, fit_join, fit_mark, fit_name}

module _ (depth : ℕ) (inner : Inner) (typings : Typings) (specifiers : Specifiers) (declarators : Declarators) (inner_sound : ExprsSound depth inner)
    (specifiers_sound : SpecifiersSound specifiers) (declarators_sound : DeclaratorsSound declarators) where
  abbrev SpecifierBehind : Purpose → Before → Names → Span → Word → List Token → Found → Type 0
  SpecifierBehind purpose before names span w tokens found = TreeBehind (λ n t. IsSpecifier purpose n before t) names span w tokens found.0 found.1

  -- ---- structs and unions

  body_found : (purpose : Purpose) (before : Before) (names : Names) (span : Span) (which : CompositeSort) (kept : List CodeAttribute) (tag : Option (List ℕ)) (start mid open_at inside : List Token) (found : Found) →
      AttributesFound start kept mid → Fit (pieces_of_tag tag) mid open_at → behind_mark mark.OpenBrace open_at ≡ Some inside →
      body_at depth inner typings specifiers declarators span which kept tag names inside ≡ Some found →
      SpecifierBehind purpose before names span (word.Keyword (keyword_of_sort which)) start found
  unfolding body_at
  body_found purpose before names span which kept tag start mid open_at inside found a t o e =
      let m = members_found depth inner typings specifiers declarators inner_sound specifiers_sound declarators_sound (suc (length inside)) names inside in
      whole (members depth inner typings specifiers declarators (suc (length inside)) [] names inside) m e
    where
      whole : (several : Several) → RowFound AreMembers names several.0 inside several.1 →
          body_of depth inner typings specifiers declarators span which kept tag several ≡ Some found →
          SpecifierBehind purpose before names span (word.Keyword (keyword_of_sort which)) start found
      whole several m e =
          bound (behind_mark mark.CloseBrace several.1) _ found e (λ rest f e2.
          let trailing = attributes_sound rest in
          let all : SpecifierBehind purpose before names span (word.Keyword (keyword_of_sort which)) start
          (Composite span which kept tag (listed several.0) (attributes_at rest).0, (attributes_at rest).1) = record {
            holds = (a.all, m.each, trailing.all);
            begins = record {
              more = _;
              same = refl;
              back = fit_join (fit_join (fit_join a.back t) (fit_mark mark.OpenBrace o m.back)) (fit_mark mark.CloseBrace f trailing.back);
            };
          } in
          rw (← same_Some _ found e2) all)

  tagged_found : (purpose : Purpose) (before : Before) (names : Names) (span : Span) (which : CompositeSort) (kept : List CodeAttribute) (start mid : List Token) (name : List ℕ × List Token) (found : Found) (o : Option (List Token)) →
      AttributesFound start kept mid → name_at mid ≡ Some name → behind_mark mark.OpenBrace name.1 ≡ o →
      tagged depth inner typings specifiers declarators span which kept names name o ≡ Some found →
      SpecifierBehind purpose before names span (word.Keyword (keyword_of_sort which)) start found
  tagged_found purpose before names span which kept start mid name found None a n e f =
      let all : SpecifierBehind purpose before names span (word.Keyword (keyword_of_sort which)) start (CompositeTag span which kept name.0, name.1) = record {
        holds = a.all;
        begins = record { more = _; same = refl; back = fit_join a.back (fit_name name n fit_none) };
      } in
      rw (← same_Some _ found f) all
  tagged_found purpose before names span which kept start mid name found (Some rest) a n e f =
      body_found purpose before names span which kept (Some name.0) start mid name.1 rest found a (fit_name name n fit_none) e f

  untagged_found : (purpose : Purpose) (before : Before) (names : Names) (span : Span) (which : CompositeSort) (kept : List CodeAttribute) (start mid : List Token) (found : Found) →
      AttributesFound start kept mid → untagged_at depth inner typings specifiers declarators span which kept names mid ≡ Some found →
      SpecifierBehind purpose before names span (word.Keyword (keyword_of_sort which)) start found
  unfolding untagged_at
  untagged_found purpose before names span which kept start mid found a e =
      bound (behind_mark mark.OpenBrace mid) _ found e (λ rest f e2. body_found purpose before names span which kept None start mid mid rest found a fit_none f e2)

  composite_with_found : (purpose : Purpose) (before : Before) (names : Names) (span : Span) (which : CompositeSort) (kept : List CodeAttribute) (start mid : List Token) (found : Found) (o : Option (List ℕ × List Token)) →
      AttributesFound start kept mid → name_at mid ≡ o → composite_with depth inner typings specifiers declarators span which kept names mid o ≡ Some found →
      SpecifierBehind purpose before names span (word.Keyword (keyword_of_sort which)) start found
  composite_with_found purpose before names span which kept start mid found None a e f = untagged_found purpose before names span which kept start mid found a f
  composite_with_found purpose before names span which kept start mid found (Some name) a e f =
      tagged_found purpose before names span which kept start mid name found (behind_mark mark.OpenBrace name.1) a e refl f

  composite_found : (purpose : Purpose) (before : Before) (names : Names) (span : Span) (which : CompositeSort) (tokens : List Token) (found : Found) →
      composite_at depth inner typings specifiers declarators span which names tokens ≡ Some found →
      SpecifierBehind purpose before names span (word.Keyword (keyword_of_sort which)) tokens found
  unfolding composite_at
  composite_found purpose before names span which tokens found e =
      composite_with_found purpose before names span which (attributes_at tokens).0 tokens (attributes_at tokens).1 found (name_at (attributes_at tokens).1)
      (attributes_sound tokens) refl e

  -- ---- specifiers

  key_found : (purpose : Purpose) (before : Before) (names : Names) (span : Span) (tokens : List Token) (k : Keyword) (found : Found) →
      cond (may_specify purpose k) (Some (record { 0 = Key span k; 1 = tokens })) None ≡ Some found → SpecifierBehind purpose before names span (word.Keyword k) tokens found
  key_found purpose before names span tokens k found e =
      let s = cond_some (may_specify purpose k) (record { 0 = Key span k; 1 = tokens }) found e in
      rw (← s.1) (record { holds = s.0; begins = record { more = []; same = refl; back = fit_none } })

  behind_found : (purpose : Purpose) (before : Before) (names : Names) (span : Span) (tokens : List Token) (found : Found) (o : Option (CodeAttribute × List Token)) →
      IsUnbraced before →
      attribute_behind span tokens ≡ o → attribute_found depth inner typings specifiers declarators o ≡ Some found →
      SpecifierBehind purpose before names span (word.Keyword key.Attribute) tokens found
  behind_found purpose before names span tokens found None u e f = absurd (none-some found f)
  behind_found purpose before names span tokens found (Some a) u e f =
      let b = behind_sound span tokens a e in
      let place = b.place in
      let all : SpecifierBehind purpose before names span (word.Keyword key.Attribute) tokens (Attribute a.0, a.1) = record {
        holds = (u, b.balanced);
        begins = record { more = _; same = rw place refl; back = b.back };
      } in
      rw (← same_Some _ found f) all

  attribute_or_none : (purpose : Purpose) (before : Before) (names : Names) (span : Span) (tokens : List Token) (found : Found) →
      cond (is_braced before) None (attribute_found depth inner typings specifiers declarators (attribute_behind span tokens)) ≡ Some found →
      SpecifierBehind purpose before names span (word.Keyword key.Attribute) tokens found
  attribute_or_none purpose Untyped names span tokens found e = behind_found purpose Untyped names span tokens found (attribute_behind span tokens) tt refl e
  attribute_or_none purpose Typed names span tokens found e = behind_found purpose Typed names span tokens found (attribute_behind span tokens) tt refl e
  attribute_or_none purpose Braced names span tokens found e = absurd (none-some found e)

  typedef_holds : (before : Before) (known : Bool) → is_untyped before && known ≡ true → IsUntyped before × (known ≡ true)
  typedef_holds Untyped known e = (tt, e)
  typedef_holds Typed known e = absurd (cc)
  typedef_holds Braced known e = absurd (cc)

  typedef_found : (purpose : Purpose) (before : Before) (names : Names) (span : Span) (tokens : List Token) (name : List ℕ) (found : Found) →
      cond (is_untyped before && is_typedef names name) (Some (record { 0 = Typedef span name; 1 = tokens })) None ≡ Some found →
      SpecifierBehind purpose before names span (word.Identifier name) tokens found
  typedef_found purpose before names span tokens name found e =
      let s = cond_some (is_untyped before && is_typedef names name) (record { 0 = Typedef span name; 1 = tokens }) found e in
      rw (← s.1) (record { holds = typedef_holds before (is_typedef names name) s.0; begins = record { more = []; same = refl; back = fit_none } })

  specifier_of_found : (purpose : Purpose) (names : Names) (before : Before) (span : Span) (tokens : List Token) (w : Word) (found : Found) →
      specifier_of depth inner typings specifiers declarators purpose names before span tokens w ≡ Some found → SpecifierBehind purpose before names span w tokens found
  specifier_of_found purpose names before span tokens (word.Keyword key.Struct) found e = composite_found purpose before names span sort.Struct tokens found e
  specifier_of_found purpose names before span tokens (word.Keyword key.Union) found e = composite_found purpose before names span sort.Union tokens found e
  specifier_of_found purpose names before span tokens (word.Keyword key.Enum) found e =
      enum_found depth inner typings specifiers declarators inner_sound purpose before names span tokens found (name_at tokens) refl e
  specifier_of_found purpose names before span tokens (word.Keyword key.Attribute) found e = attribute_or_none purpose before names span tokens found e
  specifier_of_found purpose names before span tokens (word.Keyword k) found e = key_found purpose before names span tokens k found e
  specifier_of_found purpose names before span tokens (word.Identifier name) found e = typedef_found purpose before names span tokens name found e
  specifier_of_found purpose names before span tokens _ found e = absurd (none-some found e)

  pub specifier_rule_sound : SpecifiersSound (specifier_rule depth inner typings specifiers declarators)
  specifier_rule_sound purpose names before [] found e = absurd (none-some found e)
  specifier_rule_sound purpose names before (t ∷ tokens) found e =
      let s = found_behind (λ n u. IsSpecifier purpose n before u) names t tokens found.0 found.1 (specifier_of_found purpose names before t.span tokens t.word found e) in
      record { shape = s.holds; words = s.back }
