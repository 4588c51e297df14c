-- Fields that are spelled are read.
use Rattle.std.proofs.Common.{◌≡◌, ℕ, suc, ◌≤◌, Bool, true, false, ◌&&◌, List, [], ◌∷◌, ◌++◌, length, Option, None, Some, refl, sym, ◌∙◌, arith}
use Rattle.std.specs.Prelude.{nat_lt}
use Rattle.std.proofs.lemmas.Option.{same_Some}
use Rattle.c_base.specs.declared.number.Span.{Span}
use Rattle.c_base.specs.declared.token.Keyword.TheVariants as key
use Rattle.c_base.specs.declared.token.Punctuator.TheVariants as mark
use Rattle.c_base.specs.declared.token.Token.{Token}
use Rattle.c_base.specs.declared.token.Word.{Word}
use Rattle.c_base.specs.declared.token.Word.TheVariants as word
use Rattle.c_tree.specs.declared.tree.Attribute.{Attribute as CodeAttribute}
use Rattle.c_tree.specs.Nesting.{nest, nest_all}
use Rattle.c_tree.specs.Spelling.{pieces, pieces_behind, pieces_of_attributes, pieces_with_commas}
use Rattle.c_tree.specs.Trees.{Tree, Field, Padding, Trees, Nil, Next}
use Rattle.c_tree.specs.WellFormed.{Names, after, Purpose, ForType, ForParameter, ForName, Before, Untyped, Typed, Braced, IsDeclarator, IsDeclarable, IsOptional, AreFields, IsField, AreAttributes, is_typedef}
use Rattle.c_parse_rules.specs.Declaring.{starts, goes_on_specifiers, begins_suffix}
use Rattle.c_parse_rules.specs.Following.{binding}
use Rattle.c_parse_rules.proofs.Laws.{ExprsSound, ExprsReached}
use Rattle.c_parse_rules.specs.Rules.{Found, Several, Inner}
use Rattle.c_parse_rules.specs.Tokens.{behind_mark, is_key, is_mark}
use Rattle.c_parse_rules.specs.TypeRules.{Specifiers, Declarators, Typings, first_span, is_untyped, attributes_at, width_of, named_field_at, padding_at, field_at, fields, fields_with}
use Rattle.c_parse_rules.proofs.types.Begins.{BeginsName, declarator_begins, declarator_words, declarator_place, begins_declarator}
use Rattle.c_parse_rules.proofs.types.Laws.{SpecifiersSound, DeclaratorsSound, DeclaratorsReached}
use Rattle.c_parse_rules.proofs.types.Loops.{Reads, loop_reach}
use Rattle.c_parse_rules.proofs.types.MembersSound.{fields_loop}
use Rattle.c_parse_rules.proofs.types.Parts.{attributes_reach, mark_own}
use Rattle.c_parse_rules.proofs.types.SuffixesReach.{none_of, differ, plain_list, not_going_on, expr_exact, commas_start}
use Rattle.c_parse_rules.proofs.types.SuffixesSound.{behind_comma}
use Rattle.c_parse_rules.proofs.types.Words.{Fit, fit_split, fit_first, fit_next, fit_absurd, take_mark, begins, begins_joined, begins_also, starts_as, starts_with, starts_not, starts_also, shorter, mark_none}

-- ---- declarators begin with no specifier

declarable_not : (before : Before) (known : Bool) → IsDeclarable before known → is_untyped before && known ≡ false
declarable_not Untyped known h = h
declarable_not Typed known h = refl
declarable_not Braced known h = refl

name_not : (purpose : Purpose) (names : Names) (before : Before) (t : Tree) (name : List ℕ) → BeginsName purpose names before t name →
    is_untyped before && is_typedef names name ≡ false
name_not ForType names before t name n = absurd n.core
name_not ForParameter names before t name n = declarable_not before (is_typedef names name) n.core
name_not ForName names before t name n = declarable_not before (is_typedef names name) n.core

-- a declarator does not go on with the specifiers before it
pub declarator_ends : (purpose : Purpose) (names : Names) (before : Before) (t : Tree) {tokens rest : List Token} → IsDeclarator purpose names before t → Fit (pieces t) tokens rest →
    starts (goes_on_specifiers names before) tokens ≡ false
declarator_ends purpose names before t ok h =
    starts_as begins_declarator (goes_on_specifiers names before) (declarator_words purpose names before t ok) h
    ∙ declarator_begins (goes_on_specifiers names before) false purpose names before t refl refl refl (name_not purpose names before t) ok

-- ---- what stands behind a field

abbrev pub ends_field : Word → Bool
ends_field (word.Punctuator mark.Comma) = true
ends_field (word.Punctuator mark.Semicolon) = true
ends_field _ = false

-- attributes, or that
abbrev ends_width : Word → Bool
ends_width (word.Keyword key.Attribute) = true
ends_width w = ends_field w

record Ends (w : Word) : Type 0 where
  pub colon : is_mark mark.Colon w ≡ false
  pub suffix : begins_suffix w ≡ false
  pub binds : nat_lt 2 (binding w) ≡ false

width_ends : (w : Word) → ends_width w ≡ true → Ends w
width_ends (word.Keyword k) h = record { colon = refl; suffix = refl; binds = refl }
width_ends (word.Punctuator mark.Comma) h = record { colon = refl; suffix = refl; binds = refl }
width_ends (word.Punctuator mark.Semicolon) h = record { colon = refl; suffix = refl; binds = refl }
width_ends (word.Punctuator _) h = absurd (cc)
width_ends _ h = absurd (cc)

field_width : (w : Word) → ends_field w ≡ true → ends_width w ≡ true
field_width (word.Keyword k) h = absurd (cc)
field_width _ h = h

field_attribute : (w : Word) → ends_field w ≡ true → is_key key.Attribute w ≡ false
field_attribute (word.Keyword k) h = absurd (cc)
field_attribute _ h = refl

width_start : (kept : List CodeAttribute) {tokens rest : List Token} → Fit (pieces_of_attributes kept) tokens rest → starts ends_field rest ≡ true → starts ends_width tokens ≡ true
width_start [] {tokens} {rest} h end = rw h.is (starts_also ends_field ends_width rest field_width end)
width_start (a ∷ more) h end = starts_with ends_width refl h

colon_start : (width : Trees) {tokens rest : List Token} → Fit (pieces_behind mark.Colon width) tokens rest → starts ends_width rest ≡ true → starts begins_suffix tokens ≡ false
colon_start Nil {tokens} {rest} h end = rw h.is (starts_not ends_width begins_suffix rest (λ w e. let k = width_ends w e in k.suffix) end)
colon_start (Next t more) h end = starts_as (is_mark mark.Colon) begins_suffix refl h

module _ (depth : ℕ) (inner : Inner) (typings : Typings) (specifiers : Specifiers) (declarators : Declarators) (inner_sound : ExprsSound depth inner)
    (inner_reached : ExprsReached depth inner)
    (specifiers_sound : SpecifiersSound specifiers) (declarators_sound : DeclaratorsSound declarators) (declarators_reached : DeclaratorsReached depth declarators) where
  -- ---- a field

  no_width : (span : Span) (d : Tree) (names : Names) (kept : List CodeAttribute) (tokens rest : List Token) → behind_mark mark.Colon tokens ≡ None →
      attributes_at tokens ≡ (kept, rest) →
      width_of depth inner typings specifiers declarators span (d, tokens) names (behind_mark mark.Colon tokens) ≡ Some (Field span d Nil kept, rest)
  no_width span d names kept tokens rest e f = rw (e, f) refl

  some_width : (span : Span) (d t : Tree) (names : Names) (kept : List CodeAttribute) (tokens left mid rest : List Token) → behind_mark mark.Colon tokens ≡ Some left →
      inner (after names d) 2 left ≡ Some (t, mid) → attributes_at mid ≡ (kept, rest) →
      width_of depth inner typings specifiers declarators span (d, tokens) names (behind_mark mark.Colon tokens) ≡ Some (Field span d (Next t Nil) kept, rest)
  some_width span d t names kept tokens left mid rest e f g = rw (e, f, g) refl

  width_read : (span : Span) (d : Tree) (width : Trees) (names : Names) (kept : List CodeAttribute) (tokens mid rest : List Token) → IsOptional 2 (after names d) width →
      nest_all width ≤ depth →
      AreAttributes kept → Fit (pieces_behind mark.Colon width) tokens mid → Fit (pieces_of_attributes kept) mid rest → starts ends_field rest ≡ true →
      width_of depth inner typings specifiers declarators span (d, tokens) names (behind_mark mark.Colon tokens) ≡ Some (Field span d width kept, rest)
  width_read span d Nil names kept tokens mid rest ok shallow attributes h k end =
      let first = width_start kept k end in
      let there : Fit (pieces_of_attributes kept) tokens rest = rw (← h.is) at k in
      let colon : starts (is_mark mark.Colon) tokens ≡ false = rw h.is (starts_not ends_width (is_mark mark.Colon) mid (λ w e. let x = width_ends w e in x.colon) first) in
      no_width span d names kept tokens rest (mark_none mark.Colon tokens colon)
      (attributes_reach kept tokens rest attributes there (starts_not ends_field (is_key key.Attribute) rest field_attribute end))
  width_read span d (Next t Nil) names kept tokens mid rest ok shallow attributes h k end =
      let first = width_start kept k end in
      let c = take_mark mark.Colon h in
      let s = fit_split (pieces t) [] c.back in
      let there : Fit (pieces t) c.left mid = rw s.back.is at s.front in
      some_width span d t names kept tokens c.left mid rest c.is
      (expr_exact depth inner inner_reached 2 (after names d) t c.left mid (omega arith) ok (omega arith) there (not_going_on 2 ends_width mid (λ w e. let x = width_ends w e in x.binds) first))
      (attributes_reach kept mid rest attributes k (starts_not ends_field (is_key key.Attribute) rest field_attribute end))
  width_read span d (Next t (Next u more)) names kept tokens mid rest ok shallow attributes h k end = absurd ok

  named_is : (names : Names) (before : Before) (span : Span) (d : Tree) (tokens mid : List Token) (result : Option Found) → declarators ForName names before tokens ≡ Some (d, mid) →
      first_span (record { line = 0; col = 0 }) tokens ≡ span → width_of depth inner typings specifiers declarators span (d, mid) names (behind_mark mark.Colon mid) ≡ result →
      named_field_at depth inner typings specifiers declarators names before tokens ≡ result
  unfolding named_field_at
  named_is names before span d tokens mid result e f h = rw (e, f) h

  named_none : (names : Names) (before : Before) (tokens : List Token) → declarators ForName names before tokens ≡ None →
      named_field_at depth inner typings specifiers declarators names before tokens ≡ None
  unfolding named_field_at
  named_none names before tokens e = rw e refl

  padding_is : (span : Span) (names : Names) (t : Tree) (tokens rest : List Token) → inner names 2 tokens ≡ Some (t, rest) →
      padding_at depth inner typings specifiers declarators span names tokens ≡ Some (Padding span t, rest)
  unfolding padding_at
  padding_is span names t tokens rest e = rw e refl

  field_named : (names : Names) (before : Before) (tokens : List Token) (result : Option Found) → starts (is_mark mark.Colon) tokens ≡ false →
      starts begins_declarator tokens ≡ true →
      named_field_at depth inner typings specifiers declarators names before tokens ≡ result → field_at depth inner typings specifiers declarators names before tokens ≡ result
  field_named names before [] result e f h = differ f refl
  field_named names before (t ∷ tokens) result e f h = rw e h

  field_padded : (names : Names) (before : Before) (t : Token) (tokens : List Token) (span : Span) (result : Option Found) → is_mark mark.Colon t.word ≡ true → span ≡ t.span →
      padding_at depth inner typings specifiers declarators span names tokens ≡ result → field_at depth inner typings specifiers declarators names before (t ∷ tokens) ≡ result
  field_padded names before t tokens span result e f h = rw (e, ← f) h

  no_colon : (w : Word) → begins_declarator w ≡ true → is_mark mark.Colon w ≡ false
  no_colon (word.Punctuator mark.Star) h = refl
  no_colon (word.Punctuator mark.OpenBracket) h = refl
  no_colon (word.Punctuator mark.OpenParenthesis) h = refl
  no_colon (word.Punctuator _) h = absurd (cc)
  no_colon _ h = refl

  field_reach : (names : Names) (before : Before) (t : Tree) (tokens rest : List Token) → IsField names before t → nest t ≤ depth → Fit (pieces t) tokens rest →
      starts ends_field rest ≡ true →
      field_at depth inner typings specifiers declarators names before tokens ≡ Some (t, rest)
  field_reach names before (Field span d width kept) tokens rest ok shallow h end =
      let s = fit_split (pieces d ++ pieces_behind mark.Colon width) (pieces_of_attributes kept) h in
      let k = fit_split (pieces d) (pieces_behind mark.Colon width) s.front in
      let first = starts_with begins_declarator (declarator_words ForName names before d ok.1) k.front in
      let place = declarator_place ForName names before d (record { line = 0; col = 0 }) tokens k.mid ok.1 k.front in
      let same = same_Some (first_span (record { line = 0; col = 0 }) tokens) span (sym place ∙ ok.0) in
      field_named names before tokens _ (starts_not begins_declarator (is_mark mark.Colon) tokens no_colon first) first
      (named_is names before span d tokens k.mid _
      (declarators_reached ForName names before tokens d k.mid (record { shape = ok.1; words = k.front }) (omega arith) (colon_start width k.back (width_start kept s.back end))) same
      (width_read span d width names kept k.mid s.mid rest ok.2 (omega arith) ok.3 k.back s.back end))
  field_reach names before (Padding span t) [] rest ok shallow h end = fit_absurd h
  field_reach names before (Padding span t) (u ∷ tokens) rest ok shallow h end =
      let piece = fit_first h in
      let first = starts_also ends_field ends_width rest field_width end in
      field_padded names before u tokens span _ (mark_own mark.Colon u.word piece.word) piece.place
      (padding_is span names t tokens rest
      (expr_exact depth inner inner_reached 2 names t tokens rest (omega arith) ok (omega arith) (fit_next h) (not_going_on 2 ends_width rest (λ w e. let x = width_ends w e in x.binds) first)))
  field_reach names before _ tokens rest ok shallow h end = absurd ok

  -- a word that begins a field
  abbrev begins_field : Word → Bool
  begins_field (word.Punctuator mark.Colon) = true
  begins_field w = begins_declarator w

  declarator_field : (w : Word) → begins_declarator w ≡ true → begins_field w ≡ true
  declarator_field (word.Punctuator mark.Star) h = refl
  declarator_field (word.Punctuator mark.OpenBracket) h = refl
  declarator_field (word.Punctuator mark.OpenParenthesis) h = refl
  declarator_field (word.Punctuator _) h = absurd (cc)
  declarator_field _ h = h

  field_begins : (names : Names) (before : Before) (t : Tree) → IsField names before t → begins begins_field (pieces t) ≡ true
  field_begins names before (Field span d width kept) ok =
      begins_joined begins_field (pieces d ++ pieces_behind mark.Colon width) (pieces_of_attributes kept)
      (begins_joined begins_field (pieces d) (pieces_behind mark.Colon width) (begins_also begins_declarator begins_field (pieces d) declarator_field (declarator_words ForName names before d ok.1)))
  field_begins names before (Padding span t) ok = refl
  field_begins names before _ ok = absurd ok

  semicolon_ends : (w : Word) → is_mark mark.Semicolon w ≡ true → (begins_declarator w ≡ false) × (is_mark mark.Colon w ≡ false)
  semicolon_ends (word.Punctuator mark.Semicolon) h = (refl, refl)
  semicolon_ends (word.Punctuator _) h = absurd (cc)
  semicolon_ends _ h = absurd (cc)

  pub declarator_none : (purpose : Purpose) (names : Names) (before : Before) (tokens : List Token) → starts begins_declarator tokens ≡ false →
      declarators purpose names before tokens ≡ None
  declarator_none purpose names before tokens h =
      none_of (declarators purpose names before tokens) (λ d e.
      let s = declarators_sound purpose names before tokens d e in differ (starts_with begins_declarator (declarator_words purpose names before d.0 s.shape) s.words) h)

  field_none : (names : Names) (before : Before) (tokens : List Token) → starts (is_mark mark.Semicolon) tokens ≡ true →
      field_at depth inner typings specifiers declarators names before tokens ≡ None
  field_none names before [] h = refl
  field_none names before (t ∷ tokens) h =
      let ends = semicolon_ends t.word h in
      colon_not (named_none names before (t ∷ tokens) (declarator_none ForName names before (t ∷ tokens) ends.0)) ends.1
    where
      colon_not : named_field_at depth inner typings specifiers declarators names before (t ∷ tokens) ≡ None → is_mark mark.Colon t.word ≡ false →
          field_at depth inner typings specifiers declarators names before (t ∷ tokens) ≡ None
      colon_not e f = rw f e

  -- ---- fields

  abbrev field_behind : Before → Names → List Token → Option Found
  field_behind before = behind_comma (λ ns ts. field_at depth inner typings specifiers declarators ns before ts)

  comma_is : (names : Names) (before : Before) (tokens left : List Token) (result : Option Found) → behind_mark mark.Comma tokens ≡ Some left →
      field_at depth inner typings specifiers declarators names before left ≡ result → field_behind before names tokens ≡ result
  comma_is names before tokens left result e f = rw (e, f) refl

  comma_none : (names : Names) (before : Before) (tokens : List Token) → behind_mark mark.Comma tokens ≡ None → field_behind before names tokens ≡ None
  comma_none names before tokens e = rw e refl

  semicolon_field : (w : Word) → is_mark mark.Semicolon w ≡ true → ends_field w ≡ true
  semicolon_field (word.Punctuator mark.Semicolon) h = refl
  semicolon_field (word.Punctuator _) h = absurd (cc)
  semicolon_field _ h = absurd (cc)

  semicolon_comma : (w : Word) → is_mark mark.Semicolon w ≡ true → is_mark mark.Comma w ≡ false
  semicolon_comma (word.Punctuator mark.Semicolon) h = refl
  semicolon_comma (word.Punctuator _) h = absurd (cc)
  semicolon_comma _ h = refl

  fields_read : (names : Names) (before : Before) (ts : Trees) (tokens rest : List Token) → AreFields names before ts → nest_all ts ≤ depth →
      Fit (pieces_with_commas true ts) tokens rest →
      starts (is_mark mark.Semicolon) rest ≡ true → Reads Names Tree (field_behind before) after names (plain_list ts) tokens rest
  fields_read names before Nil tokens rest ok shallow h end =
      (h.is, rw h.is (comma_none names before rest (mark_none mark.Comma rest (starts_not (is_mark mark.Semicolon) (is_mark mark.Comma) rest semicolon_comma end))))
  fields_read names before (Next t more) tokens rest ok shallow h end =
      let c = take_mark mark.Comma h in
      let s = fit_split (pieces t) (pieces_with_commas true more) c.back in
      let found = field_reach names before t c.left s.mid ok.0 (omega arith) s.front
      (commas_start ends_field more refl s.back (starts_also (is_mark mark.Semicolon) ends_field rest semicolon_field end)) in
      let inside = c.less in
      let less = shorter begins_field (field_begins names before t ok.0) s.front in
      (s.mid, comma_is names before tokens c.left (Some (t, s.mid)) c.is found, omega arith, fields_read (after names t) before more s.mid rest ok.1 (omega arith) s.back end)

  fields_some : (names : Names) (before : Before) (t : Tree) (tokens mid : List Token) (result : Several) →
      field_at depth inner typings specifiers declarators names before tokens ≡ Some (t, mid) →
      fields depth inner typings specifiers declarators (suc (length mid)) before (t ∷ []) (after names t) mid ≡ result →
      fields_with depth inner typings specifiers declarators before names tokens (field_at depth inner typings specifiers declarators names before tokens) ≡ result
  fields_some names before t tokens mid result e f = rw (e, f) refl

  fields_none : (names : Names) (before : Before) (tokens : List Token) → field_at depth inner typings specifiers declarators names before tokens ≡ None →
      fields_with depth inner typings specifiers declarators before names tokens (field_at depth inner typings specifiers declarators names before tokens) ≡ ([], tokens)
  fields_none names before tokens e = rw e refl

  pub fields_reach : (names : Names) (before : Before) (ts : Trees) (tokens rest : List Token) → AreFields names before ts → nest_all ts ≤ depth →
      Fit (pieces_with_commas false ts) tokens rest →
      starts (is_mark mark.Semicolon) rest ≡ true →
      fields_with depth inner typings specifiers declarators before names tokens (field_at depth inner typings specifiers declarators names before tokens) ≡ (plain_list ts, rest)
  fields_reach names before Nil tokens rest ok shallow h end = rw h.is (fields_none names before rest (field_none names before rest end))
  fields_reach names before (Next t more) tokens rest ok shallow h end =
      let s = fit_split (pieces t) (pieces_with_commas true more) h in
      fields_some names before t tokens s.mid _
      (field_reach names before t tokens s.mid ok.0 (omega arith) s.front (commas_start ends_field more refl s.back (starts_also (is_mark mark.Semicolon) ends_field rest semicolon_field end)))
      (fields_loop depth inner typings specifiers declarators inner_sound specifiers_sound declarators_sound before (suc (length s.mid)) (t ∷ []) (after names t) s.mid
      ∙ loop_reach Names Tree (field_behind before) after (suc (length s.mid)) (t ∷ []) (after names t) (plain_list more) s.mid rest (omega arith)
      (fields_read (after names t) before more s.mid rest ok.1 (omega arith) s.back end))

  -- fields do not go on with the specifiers before them
  semicolon_specifier : (names : Names) (before : Before) (w : Word) → is_mark mark.Semicolon w ≡ true → goes_on_specifiers names before w ≡ false
  semicolon_specifier names before (word.Punctuator mark.Semicolon) h = refl
  semicolon_specifier names before (word.Punctuator _) h = absurd (cc)
  semicolon_specifier names before _ h = absurd (cc)

  pub fields_end : (names : Names) (before : Before) (ts : Trees) {tokens rest : List Token} → AreFields names before ts → Fit (pieces_with_commas false ts) tokens rest →
      starts (is_mark mark.Semicolon) rest ≡ true → starts (goes_on_specifiers names before) tokens ≡ false
  fields_end names before Nil {tokens} {rest} ok h end = rw h.is (starts_not (is_mark mark.Semicolon) (goes_on_specifiers names before) rest (semicolon_specifier names before) end)
  fields_end names before (Next (Field span d width kept) more) {tokens} {rest} ok h end =
      let s = fit_split (pieces d ++ pieces_behind mark.Colon width ++ pieces_of_attributes kept) (pieces_with_commas true more) h in
      let k = fit_split (pieces d ++ pieces_behind mark.Colon width) (pieces_of_attributes kept) s.front in
      let m = fit_split (pieces d) (pieces_behind mark.Colon width) k.front in declarator_ends ForName names before d ok.0.1 m.front
  fields_end names before (Next (Padding span t) more) {tokens} {rest} ok h end = starts_as (is_mark mark.Colon) (goes_on_specifiers names before) refl h
  fields_end names before (Next _ more) {tokens} {rest} ok h end = absurd ok.0
