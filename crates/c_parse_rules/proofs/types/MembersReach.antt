-- Several specifiers and members that are spelled are read.
use Rattle.std.proofs.Common.{◌≡◌, ℕ, suc, ◌<◌, ◌≤◌, Bool, true, false, List, [], ◌∷◌, ◌++◌, length, Option, None, Some, refl, sym, ◌∙◌, ap, arith}
use Rattle.std.specs.Prelude.{nat_lt}
use Rattle.std.proofs.lemmas.Option.{none-some, same_Some}
use Rattle.c_base.specs.declared.number.Span.{Span}
use Rattle.c_base.specs.declared.token.Keyword.TheVariants as key
use Rattle.c_base.specs.declared.token.Punctuator.TheVariants as mark
use Rattle.c_base.specs.declared.token.Token.{Token}
use Rattle.c_base.specs.declared.token.Word.{Word}
use Rattle.c_base.specs.declared.token.Word.TheVariants as word
use Rattle.c_tree.specs.Nesting.{nest, nest_all}
use Rattle.c_tree.specs.Spelling.{sign, pieces, pieces_of_all, pieces_with_commas, pieces_of_literals}
use Rattle.c_tree.specs.Trees.{Tree, Fields, Assertion, Trees, Nil, Next}
use Rattle.c_tree.specs.Views.{listed}
use Rattle.c_tree.specs.WellFormed.{Names, after, after_all, Purpose, ForName, Before, Untyped, before_next, before_end, AreSpecifiers, AreMembers, IsMember, IsOptional, first_place}
use Rattle.c_parse_rules.specs.Declaring.{starts, goes_on_specifiers}
use Rattle.c_parse_rules.specs.Following.{binding}
use Rattle.c_parse_rules.proofs.Laws.{ExprsSound, ExprsReached}
use Rattle.c_parse_rules.specs.Rules.{Found, Inner, literals}
use Rattle.c_parse_rules.specs.Tokens.{behind_mark, is_key, is_mark, literal_at, begins_type}
use Rattle.c_parse_rules.specs.TypeRules.{Specifiers, Declarators, Typings, first_span, field_at, fields_with, specifiers as specifier_rounds, specifiers_at, fields_at, assertion_at, member_at, members}
use Rattle.c_parse_rules.proofs.types.Begins.{specifier_goes_on, specifier_next, goes_on_last, specifiers_type, specifiers_place}
use Rattle.c_parse_rules.proofs.types.FieldsReach.{fields_reach, fields_end}
use Rattle.c_parse_rules.proofs.types.Laws.{SpecifiersSound, SpecifiersReached, DeclaratorsSound, DeclaratorsReached, goes_on_specifier}
use Rattle.c_parse_rules.proofs.types.Loops.{Reads, loop_reach}
use Rattle.c_parse_rules.proofs.types.MembersSound.{State, next_state, read_at, specifiers_loop, members_loop}
use Rattle.c_parse_rules.proofs.types.Parts.{key_own, literals_reach}
use Rattle.c_parse_rules.proofs.types.SuffixesReach.{none_of, differ, plain_list, listed_plain, not_going_on, expr_exact}
use Rattle.c_parse_rules.proofs.types.Words.{Fit, fit_split, fit_first, fit_next, fit_absurd, take_mark, take_literal, last_mark, is_literal, begins, begins_also, starts_as, starts_with, starts_neither, begins_joined, shorter}

-- what begins with a specifier goes on with none before it
next_not : (purpose : Purpose) (names : Names) (before : Before) (t : Tree) (more : Trees) (rest_names : Names) (rest_before : Before) {tokens rest : List Token} →
    AreSpecifiers purpose names (before_next before t) more → Fit (pieces_of_all more) tokens rest → starts (goes_on_specifiers rest_names rest_before) rest ≡ false →
    starts (goes_on_specifier t) tokens ≡ false
next_not purpose names before t Nil rest_names rest_before {tokens} {rest} ok h end =
    rw h.is (starts_neither (goes_on_specifiers rest_names rest_before) (goes_on_specifier t) rest (goes_on_last rest_names rest_before t) end)
next_not purpose names before t (Next u more) rest_names rest_before {tokens} {rest} ok h end =
    let s = fit_split (pieces u) (pieces_of_all more) h in
    starts_as (goes_on_specifiers names (before_next before t)) (goes_on_specifier t) (specifier_goes_on purpose names (before_next before t) u ok.0) s.front
    ∙ specifier_next purpose names before t u ok.0

module _ (depth : ℕ) (inner : Inner) (typings : Typings) (specifiers : Specifiers) (declarators : Declarators) where
  -- ---- several specifiers; `read` reads one that nests less deep than `bound`

  pub specifier_none : (read : Specifiers) → SpecifiersSound read → (purpose : Purpose) (names : Names) (before : Before) (tokens : List Token) →
      starts (goes_on_specifiers names before) tokens ≡ false → read purpose names before tokens ≡ None
  specifier_none read sound purpose names before tokens h =
      none_of (read purpose names before tokens) (λ t e.
      let s = sound purpose names before tokens t e in
      differ (starts_with (goes_on_specifiers names before) (specifier_goes_on purpose names before t.0 s.shape) s.words) h)

  specifiers_read : (read : Specifiers) (bound : ℕ) → SpecifiersSound read → SpecifiersReached bound read →
      (purpose : Purpose) (names : Names) (before : Before) (ts : Trees) (tokens rest : List Token) →
      AreSpecifiers purpose names before ts → nest_all ts < bound → Fit (pieces_of_all ts) tokens rest →
      starts (goes_on_specifiers (after_all names ts) (before_end before ts)) rest ≡ false →
      Reads State Tree (read_at purpose read) next_state (before, names) (plain_list ts) tokens rest
  specifiers_read read bound sound reached purpose names before Nil tokens rest ok shallow h end =
      (h.is, rw h.is (specifier_none read sound purpose names before rest end))
  specifiers_read read bound sound reached purpose names before (Next t more) tokens rest ok shallow h end =
      let s = fit_split (pieces t) (pieces_of_all more) h in (
        s.mid,
        reached purpose names before tokens t s.mid (record { shape = ok.0; words = s.front }) (omega arith)
            (next_not purpose (after names t) before t more (after_all names (Next t more)) (before_end before (Next t more)) ok.1 s.back end),
        shorter (goes_on_specifiers names before) (specifier_goes_on purpose names before t ok.0) s.front,
        specifiers_read read bound sound reached purpose (after names t) (before_next before t) more s.mid rest ok.1 (omega arith) s.back end,
      )

  specifiers_is : (read : Specifiers) (purpose : Purpose) (names : Names) (t : Tree) (more : List Tree) (tokens rest : List Token) →
      specifier_rounds depth inner typings specifiers declarators read (suc (length tokens)) purpose Untyped [] names tokens ≡ (t ∷ more, rest) →
      specifiers_at depth inner typings specifiers declarators read purpose names tokens ≡ Some (t ∷ more, rest)
  unfolding specifiers_at
  specifiers_is read purpose names t more tokens rest e = rw e refl

  pub specifiers_reach : (read : Specifiers) (bound : ℕ) → SpecifiersSound read → SpecifiersReached bound read →
      (purpose : Purpose) (names : Names) (span : Span) (ts : Trees) (tokens rest : List Token) →
      first_place ts ≡ Some span → AreSpecifiers purpose names Untyped ts → nest_all ts < bound → Fit (pieces_of_all ts) tokens rest →
      starts (goes_on_specifiers (after_all names ts) (before_end Untyped ts)) rest ≡ false →
      specifiers_at depth inner typings specifiers declarators read purpose names tokens ≡ Some (plain_list ts, rest)
  specifiers_reach read bound sound reached purpose names span Nil tokens rest place ok shallow h end = absurd (none-some span place)
  specifiers_reach read bound sound reached purpose names span (Next t more) tokens rest place ok shallow h end =
      specifiers_is read purpose names t (plain_list more) tokens rest
      (specifiers_loop depth inner typings specifiers declarators read purpose (suc (length tokens)) Untyped [] names tokens
      ∙ loop_reach State Tree (read_at purpose read) next_state (suc (length tokens)) [] (Untyped, names) (plain_list (Next t more)) tokens rest (omega arith)
      (specifiers_read read bound sound reached purpose names Untyped (Next t more) tokens rest ok shallow h end))

  specifiers_nothing : (read : Specifiers) (purpose : Purpose) (names : Names) (tokens : List Token) → read purpose names Untyped tokens ≡ None →
      specifiers_at depth inner typings specifiers declarators read purpose names tokens ≡ None
  unfolding specifiers_at
  specifiers_nothing read purpose names tokens e = rw e refl

  pub specifiers_none : (read : Specifiers) → SpecifiersSound read → (purpose : Purpose) (names : Names) (tokens : List Token) →
      starts (goes_on_specifiers names Untyped) tokens ≡ false →
      specifiers_at depth inner typings specifiers declarators read purpose names tokens ≡ None
  specifiers_none read sound purpose names tokens h = specifiers_nothing read purpose names tokens (specifier_none read sound purpose names Untyped tokens h)

module _ (depth : ℕ) (inner : Inner) (typings : Typings) (specifiers : Specifiers) (declarators : Declarators) (inner_sound : ExprsSound depth inner)
    (inner_reached : ExprsReached depth inner)
    (specifiers_sound : SpecifiersSound specifiers) (specifiers_reached : SpecifiersReached depth specifiers) (declarators_sound : DeclaratorsSound declarators)
    (declarators_reached : DeclaratorsReached depth declarators) where
  -- ---- members

  fields_is : (span : Span) (names : Names) (all ts : Trees) (tokens mid left rest : List Token) →
      specifiers_at depth inner typings specifiers declarators specifiers ForName names tokens ≡ Some (plain_list all, mid) →
      listed (plain_list all) ≡ all → listed (plain_list ts) ≡ ts →
      fields_with depth inner typings specifiers declarators (before_end Untyped all) (after_all names all) mid
      (field_at depth inner typings specifiers declarators (after_all names all) (before_end Untyped all) mid) ≡ (plain_list ts, left) →
      behind_mark mark.Semicolon left ≡ Some rest →
      fields_at depth inner typings specifiers declarators span names tokens ≡ Some (Fields span all ts, rest)
  unfolding fields_at
  fields_is span names all ts tokens mid left rest e same same' f g = rw (e, same, f, g, same') refl

  fields_missing : (span : Span) (names : Names) (tokens : List Token) → specifiers_at depth inner typings specifiers declarators specifiers ForName names tokens ≡ None →
      fields_at depth inner typings specifiers declarators span names tokens ≡ None
  unfolding fields_at
  fields_missing span names tokens e = rw e refl

  assertion_is : (span : Span) (names : Names) (condition : Tree) (bytes : List ℕ) (more : List (List ℕ)) (tokens inside mid comma left last closing rest : List Token) →
      behind_mark mark.OpenParenthesis tokens ≡ Some inside → inner names 2 inside ≡ Some (condition, mid) → behind_mark mark.Comma mid ≡ Some comma →
      literal_at comma ≡ Some (bytes, left) →
      literals (suc (length left)) (bytes ∷ []) left ≡ (bytes ∷ more, last) → behind_mark mark.CloseParenthesis last ≡ Some closing → behind_mark mark.Semicolon closing ≡ Some rest →
      assertion_at depth inner typings specifiers declarators span names tokens ≡ Some (Assertion span condition (bytes ∷ more), rest)
  unfolding assertion_at
  assertion_is span names condition bytes more tokens inside mid comma left last closing rest e f g h k m n = rw (e, f, g, h, k, m, n) refl

  comma_binds : (w : Word) → is_mark mark.Comma w ≡ true → nat_lt 2 (binding w) ≡ false
  comma_binds (word.Punctuator mark.Comma) h = refl
  comma_binds (word.Punctuator _) h = absurd (cc)
  comma_binds _ h = absurd (cc)

  assertion_read : (span : Span) (names : Names) (condition : Tree) (bytes : List ℕ) (more : List (List ℕ)) (tokens rest : List Token) → IsOptional 2 names (Next condition Nil) →
      nest condition ≤ depth →
      Fit (sign mark.OpenParenthesis ∷ pieces condition ++ sign mark.Comma ∷ pieces_of_literals (bytes ∷ more) ++ sign mark.CloseParenthesis ∷ sign mark.Semicolon ∷ []) tokens rest →
      assertion_at depth inner typings specifiers declarators span names tokens ≡ Some (Assertion span condition (bytes ∷ more), rest)
  assertion_read span names condition bytes more tokens rest ok shallow h =
      let s =
      fit_split (sign mark.OpenParenthesis ∷ pieces condition ++ sign mark.Comma ∷ pieces_of_literals (bytes ∷ more))
      (sign mark.CloseParenthesis ∷ sign mark.Semicolon ∷ []) h in
      let k = fit_split (sign mark.OpenParenthesis ∷ pieces condition) (sign mark.Comma ∷ pieces_of_literals (bytes ∷ more)) s.front in
      let open_mark = last_open k.front in
      let comma = take_mark mark.Comma k.back in
      let first = take_literal bytes comma.back in
      let close = take_mark mark.CloseParenthesis s.back in
      let end = starts_with (is_mark mark.Comma) refl k.back in
      assertion_is span names condition bytes more tokens open_mark.0 k.mid comma.left first.left s.mid close.left rest open_mark.1
      (expr_exact depth inner inner_reached 2 names condition open_mark.0 k.mid (omega arith) ok shallow open_mark.2 (not_going_on 2 (is_mark mark.Comma) k.mid comma_binds end)) comma.is first.is
      (literals_reach (suc (length first.left)) (bytes ∷ []) more first.left s.mid (omega arith) first.back (starts_as (is_mark mark.CloseParenthesis) is_literal refl s.back)) close.is
      (last_mark mark.Semicolon close.back)
    where
      last_open : {tokens mid : List Token} → Fit (sign mark.OpenParenthesis ∷ pieces condition) tokens mid →
          (inside : List Token) × (behind_mark mark.OpenParenthesis tokens ≡ Some inside) × Fit (pieces condition) inside mid
      last_open h = let t = take_mark mark.OpenParenthesis h in (t.left, t.is, t.back)

  not_assertion : (names : Names) (w : Word) → begins_type names w ≡ true → is_key key.StaticAssert w ≡ false
  not_assertion names (word.Keyword key.StaticAssert) e = absurd (cc)
  not_assertion names (word.Keyword _) e = refl
  not_assertion names _ e = refl

  member_fields : (names : Names) (span : Span) (tokens : List Token) (result : Option Found) → starts (begins_type names) tokens ≡ true → first_span span tokens ≡ span →
      fields_at depth inner typings specifiers declarators span names tokens ≡ result → member_at depth inner typings specifiers declarators names tokens ≡ result
  member_fields names span [] result e f h = differ e refl
  member_fields names span (t ∷ tokens) result e f h =
      rw (not_assertion names t.word e) (ap (λ (s : Span). fields_at depth inner typings specifiers declarators s names (t ∷ tokens)) f ∙ h)

  member_assertion : (names : Names) (span : Span) (t : Token) (tokens : List Token) (result : Option Found) → is_key key.StaticAssert t.word ≡ true → span ≡ t.span →
      assertion_at depth inner typings specifiers declarators span names tokens ≡ result → member_at depth inner typings specifiers declarators names (t ∷ tokens) ≡ result
  member_assertion names span t tokens result e f h = rw (e, ← f) h

  member_reach : (names : Names) (t : Tree) (tokens rest : List Token) → IsMember names t → nest t ≤ depth → Fit (pieces t) tokens rest →
      member_at depth inner typings specifiers declarators names tokens ≡ Some (t, rest)
  member_reach names (Fields span all ts) tokens rest ok shallow h =
      let s = fit_split (pieces_of_all all ++ pieces_with_commas false ts) (sign mark.Semicolon ∷ []) h in
      let k = fit_split (pieces_of_all all) (pieces_with_commas false ts) s.front in
      let first = starts_with (begins_type names) (specifiers_type ForName names Untyped span all ok.0 ok.1) k.front in
      let place = specifiers_place ForName names Untyped span all span tokens k.mid ok.0 ok.1 k.front in
      let same = same_Some (first_span span tokens) span (sym place ∙ ok.0) in
      let end = starts_with (is_mark mark.Semicolon) refl s.back in
      member_fields names span tokens _ first same
      (fields_is span names all ts tokens k.mid s.mid rest
      (specifiers_reach depth inner typings specifiers declarators specifiers depth specifiers_sound specifiers_reached ForName names span all tokens k.mid ok.0 ok.1 (omega arith) k.front
      (fields_end depth inner typings specifiers declarators inner_sound inner_reached specifiers_sound declarators_sound declarators_reached (after_all names all) (before_end Untyped all) ts ok.2 k.back end))
      (listed_plain all) (listed_plain ts)
      (fields_reach depth inner typings specifiers declarators inner_sound inner_reached specifiers_sound declarators_sound declarators_reached (after_all names all) (before_end Untyped all) ts k.mid s.mid ok.2 (omega arith) k.back end)
      (last_mark mark.Semicolon s.back))
  member_reach names (Assertion span condition []) tokens rest ok shallow h = absurd ok.2
  member_reach names (Assertion span condition (bytes ∷ more)) [] rest ok shallow h = fit_absurd h
  member_reach names (Assertion span condition (bytes ∷ more)) (t ∷ tokens) rest ok shallow h =
      let piece = fit_first h in
      member_assertion names span t tokens _ (key_own key.StaticAssert t.word piece.word) piece.place
      (assertion_read span names condition bytes more tokens rest (ok.0, ok.1) (omega arith) (fit_next h))
  member_reach names _ tokens rest ok shallow h = absurd ok

  -- a word that begins a member
  abbrev begins_member : Word → Bool
  begins_member (word.Keyword k) = true
  begins_member (word.Identifier name) = true
  begins_member _ = false

  type_member : (names : Names) (w : Word) → begins_type names w ≡ true → begins_member w ≡ true
  type_member names (word.Keyword k) h = refl
  type_member names (word.Identifier name) h = refl
  type_member names _ h = absurd (cc)

  member_begins : (names : Names) (t : Tree) → IsMember names t → begins begins_member (pieces t) ≡ true
  member_begins names (Fields span all ts) ok =
      begins_joined begins_member (pieces_of_all all ++ pieces_with_commas false ts) (sign mark.Semicolon ∷ [])
      (begins_joined begins_member (pieces_of_all all) (pieces_with_commas false ts)
      (begins_also (begins_type names) begins_member (pieces_of_all all) (type_member names) (specifiers_type ForName names Untyped span all ok.0 ok.1)))
  member_begins names (Assertion span condition bytes) ok = refl
  member_begins names _ ok = absurd ok

  brace_member : (names : Names) (w : Word) → is_mark mark.CloseBrace w ≡ true → (goes_on_specifiers names Untyped w ≡ false) × (is_key key.StaticAssert w ≡ false)
  brace_member names (word.Punctuator mark.CloseBrace) h = (refl, refl)
  brace_member names (word.Punctuator _) h = absurd (cc)
  brace_member names _ h = absurd (cc)

  member_none : (names : Names) (tokens : List Token) → starts (is_mark mark.CloseBrace) tokens ≡ true → member_at depth inner typings specifiers declarators names tokens ≡ None
  member_none names [] h = refl
  member_none names (t ∷ tokens) h =
      let ends = brace_member names t.word h in
      missing (fields_missing t.span names (t ∷ tokens) (specifiers_none depth inner typings specifiers declarators specifiers specifiers_sound ForName names (t ∷ tokens) ends.0)) ends.1
    where
      missing : fields_at depth inner typings specifiers declarators t.span names (t ∷ tokens) ≡ None → is_key key.StaticAssert t.word ≡ false →
          member_at depth inner typings specifiers declarators names (t ∷ tokens) ≡ None
      missing e f = rw (f, e) refl

  members_read : (names : Names) (ts : Trees) (tokens rest : List Token) → AreMembers names ts → nest_all ts ≤ depth → Fit (pieces_of_all ts) tokens rest →
      starts (is_mark mark.CloseBrace) rest ≡ true → Reads Names Tree (member_at depth inner typings specifiers declarators) after names (plain_list ts) tokens rest
  members_read names Nil tokens rest ok shallow h end = (h.is, rw h.is (member_none names rest end))
  members_read names (Next t more) tokens rest ok shallow h end =
      let s = fit_split (pieces t) (pieces_of_all more) h in (
        s.mid,
        member_reach names t tokens s.mid ok.0 (omega arith) s.front,
        shorter begins_member (member_begins names t ok.0) s.front,
        members_read (after names t) more s.mid rest ok.1 (omega arith) s.back end,
      )

  pub members_reach : (n : ℕ) (names : Names) (ts : Trees) (tokens rest : List Token) → length tokens < n → AreMembers names ts → nest_all ts ≤ depth →
      Fit (pieces_of_all ts) tokens rest →
      starts (is_mark mark.CloseBrace) rest ≡ true → members depth inner typings specifiers declarators n [] names tokens ≡ (plain_list ts, rest)
  members_reach n names ts tokens rest enough ok shallow h end =
      members_loop depth inner typings specifiers declarators inner_sound specifiers_sound declarators_sound n [] names tokens
      ∙ loop_reach Names Tree (member_at depth inner typings specifiers declarators) after n [] names (plain_list ts) tokens rest enough
      (members_read names ts tokens rest ok shallow h end)
