-- Declarators that are spelled are read.
use Rattle.std.proofs.Common.{◌≡◌, ℕ, suc, ◌<◌, ◌≤◌, Bool, true, false, ◌||◌, List, [], ◌∷◌, ◌++◌, length, Option, None, Some, refl, sym, ◌∙◌, ap, arith}
use Rattle.std.specs.Prelude.{nat_lt}
use Rattle.std.proofs.lemmas.Option.{same_Some}
use Rattle.std.proofs.lemmas.Bool.Decides.{nat_tests}
use Rattle.c_base.specs.declared.number.Span.{Span}
use Rattle.c_base.specs.declared.token.Punctuator.TheVariants as mark
use Rattle.c_base.specs.declared.token.Token.{Token}
use Rattle.c_base.specs.declared.token.Word.{Word}
use Rattle.c_base.specs.declared.token.Word.TheVariants as word
use Rattle.c_tree.specs.declared.tree.Pointer.{Pointer}
use Rattle.c_tree.specs.Nesting.{nest}
use Rattle.c_tree.specs.Spelling.{sign, pieces, pieces_of_all, pieces_of_pointers, pieces_with_commas, pieces_where}
use Rattle.c_tree.specs.Trees.{Tree, Declarator, Absent, Declared, Group, Array, Function, Trees, Nil, Next}
use Rattle.c_tree.specs.Views.{listed}
use Rattle.c_tree.specs.WellFormed.{Names, after, Purpose, ForType, ForParameter, ForName, Before, Untyped, Typed, Braced, AreSuffixes, IsSuffix, IsCore, IsGroup, IsDeclarator, is_typedef}
use Rattle.c_parse_rules.specs.Declaring.{starts, goes_on_pointers, begins_suffix, goes_on_nameless, goes_on_declarator}
use Rattle.c_parse_rules.proofs.Laws.{ExprsSound, ExprsReached, TypingsSound, TypingsReached}
use Rattle.c_parse_rules.specs.Rules.{Found, Inner}
use Rattle.c_parse_rules.specs.Tokens.{behind_mark, is_mark, begins_type, is_type_at}
use Rattle.c_parse_rules.specs.TypeRules.{Specifiers, Declarators, Typings, suffixes, group_at, is_close_at, begins_parameters, may_declare, core_of, core_at, core_or_none, declarator_behind, declarator_rule, first_span, pointers}
use Rattle.c_parse_rules.proofs.types.Begins.{suffix_begins, parameter_begins, declarator_begins, declarator_words, declarator_place, begins_declarator}
use Rattle.c_parse_rules.proofs.types.Laws.{DeclaratorsReached}
use Rattle.c_parse_rules.proofs.types.Parts.{pointers_reach}
use Rattle.c_parse_rules.proofs.types.SuffixesReach.{plain_list, listed_plain, suffixes_reach}
use Rattle.c_parse_rules.proofs.types.Words.{Fit, fit_split, fit_first, fit_next, fit_absurd, last_mark, is_name, begins_joined, starts_as, starts_with, starts_not, starts_neither, shorter}

-- ---- what does not go on

close_ends : (purpose : Purpose) → goes_on_declarator purpose (word.Punctuator mark.CloseParenthesis) ≡ false
close_ends ForType = refl
close_ends ForParameter = refl
close_ends ForName = refl

nameless_ends : (w : Word) → goes_on_nameless w ≡ false → (begins_suffix w ≡ false) × (goes_on_pointers w ≡ false)
nameless_ends (word.Identifier name) h = absurd (cc)
nameless_ends (word.Punctuator mark.OpenBracket) h = absurd (cc)
nameless_ends (word.Punctuator mark.OpenParenthesis) h = absurd (cc)
nameless_ends (word.Punctuator _) h = (refl, h)
nameless_ends _ h = (refl, h)

suffix_ends : (purpose : Purpose) (w : Word) → goes_on_declarator purpose w ≡ false → begins_suffix w ≡ false
suffix_ends ForType w h = (nameless_ends w h).0
suffix_ends ForParameter w h = (nameless_ends w h).0
suffix_ends ForName w h = h

suffix_no_pointer : (w : Word) → begins_suffix w ≡ true → goes_on_pointers w ≡ false
suffix_no_pointer (word.Punctuator mark.OpenBracket) h = refl
suffix_no_pointer (word.Punctuator mark.OpenParenthesis) h = refl
suffix_no_pointer (word.Punctuator _) h = absurd (cc)
suffix_no_pointer _ h = absurd (cc)

-- behind no pointer and no core
absent_pointers : (names : Names) (suffixes : Trees) {tokens rest : List Token} → AreSuffixes names suffixes → Fit (pieces_of_all suffixes) tokens rest →
    starts goes_on_nameless rest ≡ false →
    starts goes_on_pointers tokens ≡ false
absent_pointers names Nil {tokens} {rest} ok h end = rw h.is (starts_neither goes_on_nameless goes_on_pointers rest (λ w e. (nameless_ends w e).1) end)
absent_pointers names (Next t more) {tokens} {rest} ok h end =
    starts_not begins_suffix goes_on_pointers tokens suffix_no_pointer
    (starts_with begins_suffix (begins_joined begins_suffix (pieces t) (pieces_of_all more) (suffix_begins names t ok.0)) h)

no_pointers : (purpose : Purpose) (names names' : Names) (before : Before) (core : Tree) (suffixes : Trees) {tokens mid rest : List Token} → IsCore purpose names before core →
    AreSuffixes names' suffixes → Fit (pieces core) tokens mid → Fit (pieces_of_all suffixes) mid rest → starts (goes_on_declarator purpose) rest ≡ false →
    starts goes_on_pointers tokens ≡ false
no_pointers ForName names names' before Absent suffixes c ok h k end = absurd c
no_pointers ForType names names' before Absent suffixes c ok h k end = rw h.is (absent_pointers names' suffixes ok k end)
no_pointers ForParameter names names' before Absent suffixes c ok h k end = rw h.is (absent_pointers names' suffixes ok k end)
no_pointers purpose names names' before (Declared place name) suffixes c ok h k end = starts_as is_name goes_on_pointers refl h
no_pointers purpose names names' before (Group place inner) suffixes c ok h k end = starts_as (is_mark mark.OpenParenthesis) goes_on_pointers refl h
no_pointers ForType names names' before _ suffixes c ok h k end = absurd c
no_pointers ForParameter names names' before _ suffixes c ok h k end = absurd c
no_pointers ForName names names' before _ suffixes c ok h k end = absurd c

-- ---- what stands behind a `(`

type_at_is : (names : Names) (tokens : List Token) (b : Bool) → starts (begins_type names) tokens ≡ b → is_type_at names tokens ≡ b
type_at_is names [] b h = h
type_at_is names (t ∷ tokens) b h = h

group_untyped : (purpose : Purpose) (names : Names) (before : Before) (d : Tree) {tokens rest : List Token} → (purpose ≡ ForName → ⊥) → IsGroup purpose names d →
    IsDeclarator purpose names before d →
    Fit (pieces d) tokens rest → is_type_at names tokens ≡ false
group_untyped ForName names before d other g ok h = absurd (other refl)
group_untyped ForType names before d {tokens} {rest} other g ok h =
    type_at_is names tokens false (starts_as begins_declarator (begins_type names) (declarator_words ForType names before d ok) h
    ∙ declarator_begins (begins_type names) false ForType names before d refl refl refl (λ name n. absurd n.core) ok)
group_untyped ForParameter names before d {tokens} {rest} other g ok h =
    type_at_is names tokens false (starts_as begins_declarator (begins_type names) (declarator_words ForParameter names before d ok) h
    ∙ declarator_begins (begins_type names) false ForParameter names before d refl refl refl (λ name n. sym n.known ∙ g) ok)

both_false : (a b : Bool) → a ≡ false → b ≡ false → a || b ≡ false
both_false a b e f = rw (e, f) refl

left_true : (a b : Bool) → a ≡ true → a || b ≡ true
left_true a b e = rw e refl

right_true : (a b : Bool) → b ≡ true → a || b ≡ true
right_true true b e = refl
right_true false b e = e

group_parts : (purpose : Purpose) (names : Names) (before : Before) (span : Span) (d : Tree) → IsCore purpose names before (Group span d) →
    IsGroup purpose names d × IsDeclarator purpose names before d
group_parts ForType names before span d ok = ok
group_parts ForParameter names before span d ok = ok
group_parts ForName names before span d ok = ok

module _ (depth : ℕ) (inner : Inner) (typings : Typings) (specifiers : Specifiers) (declarators : Declarators) (inner_sound : ExprsSound depth inner)
    (inner_reached : ExprsReached depth inner)
    (typings_sound : TypingsSound depth typings) (typings_reached : TypingsReached depth typings) (declarators_reached : DeclaratorsReached depth declarators) where
  close_at_is : (tokens : List Token) (b : Bool) → starts (is_mark mark.CloseParenthesis) tokens ≡ b → is_close_at depth inner typings specifiers declarators tokens ≡ b
  close_at_is [] b h = h
  close_at_is (t ∷ tokens) b h = h

  group_opens : (purpose : Purpose) (names : Names) (before : Before) (d : Tree) {tokens rest : List Token} → IsGroup purpose names d → IsDeclarator purpose names before d →
      Fit (pieces d) tokens rest → begins_parameters depth inner typings specifiers declarators purpose names tokens ≡ false
  group_opens ForName names before d g ok h = refl
  group_opens ForType names before d {tokens} {rest} g ok h =
      both_false (is_type_at names tokens) (is_close_at depth inner typings specifiers declarators tokens) (group_untyped ForType names before d (λ e. cc) g ok h)
      (close_at_is tokens false (starts_as begins_declarator (is_mark mark.CloseParenthesis) (declarator_words ForType names before d ok) h
      ∙ declarator_begins (is_mark mark.CloseParenthesis) false ForType names before d refl refl refl (λ name n. refl) ok))
  group_opens ForParameter names before d {tokens} {rest} g ok h =
      both_false (is_type_at names tokens) (is_close_at depth inner typings specifiers declarators tokens) (group_untyped ForParameter names before d (λ e. cc) g ok h)
      (close_at_is tokens false (starts_as begins_declarator (is_mark mark.CloseParenthesis) (declarator_words ForParameter names before d ok) h
      ∙ declarator_begins (is_mark mark.CloseParenthesis) false ForParameter names before d refl refl refl (λ name n. refl) ok))

  -- ---- cores

  core_is : (purpose : Purpose) (names : Names) (before : Before) (span : Span) (w : Word) (t : Token) (tokens : List Token) (result : Option Found) → t.word ≡ w → span ≡ t.span →
      core_of depth inner typings specifiers declarators purpose names before span tokens w ≡ result →
      core_at depth inner typings specifiers declarators purpose names before (t ∷ tokens) ≡ result
  core_is purpose names before span w t tokens result e f h = rw (e, ← f) h

  may_be : (purpose : Purpose) (names : Names) (before : Before) (span : Span) (name : List ℕ) → IsCore purpose names before (Declared span name) →
      may_declare depth inner typings specifiers declarators purpose before (is_typedef names name) ≡ true
  may_be ForType names before span name ok = absurd ok
  may_be ForParameter names Untyped span name ok = let known : is_typedef names name ≡ false = ok in rw known refl
  may_be ForParameter names Typed span name ok = refl
  may_be ForParameter names Braced span name ok = refl
  may_be ForName names Untyped span name ok = let known : is_typedef names name ≡ false = ok in rw known refl
  may_be ForName names Typed span name ok = refl
  may_be ForName names Braced span name ok = refl

  declared_is : (purpose : Purpose) (names : Names) (before : Before) (span : Span) (name : List ℕ) (tokens : List Token) →
      may_declare depth inner typings specifiers declarators purpose before (is_typedef names name) ≡ true →
      core_of depth inner typings specifiers declarators purpose names before span tokens (word.Identifier name) ≡ Some (Declared span name, tokens)
  declared_is purpose names before span name tokens e = rw e refl

  grouped_is : (purpose : Purpose) (names : Names) (before : Before) (span : Span) (d : Tree) (tokens mid rest : List Token) →
      begins_parameters depth inner typings specifiers declarators purpose names tokens ≡ false → declarators purpose names before tokens ≡ Some (d, mid) →
      behind_mark mark.CloseParenthesis mid ≡ Some rest →
      core_of depth inner typings specifiers declarators purpose names before span tokens (word.Punctuator mark.OpenParenthesis) ≡ Some (Group span d, rest)
  unfolding group_at
  grouped_is purpose names before span d tokens mid rest e f g = rw (e, f, g) refl

  opened_is : (purpose : Purpose) (names : Names) (before : Before) (span : Span) (tokens : List Token) →
      begins_parameters depth inner typings specifiers declarators purpose names tokens ≡ true →
      core_of depth inner typings specifiers declarators purpose names before span tokens (word.Punctuator mark.OpenParenthesis) ≡ None
  opened_is purpose names before span tokens e = rw e refl

  core_some : (purpose : Purpose) (names : Names) (before : Before) (core : Tree) (tokens rest : List Token) → IsCore purpose names before core → nest core ≤ depth →
      (core ≡ Absent → ⊥) →
      Fit (pieces core) tokens rest → core_at depth inner typings specifiers declarators purpose names before tokens ≡ Some (core, rest)
  core_some purpose names before Absent tokens rest ok shallow there h = absurd (there refl)
  core_some purpose names before (Declared span name) [] rest ok shallow there h = fit_absurd h
  core_some purpose names before (Declared span name) (t ∷ tokens) rest ok shallow there h =
      let piece = fit_first h in
      core_is purpose names before span (word.Identifier name) t tokens _ piece.word piece.place
      (declared_is purpose names before span name tokens (may_be purpose names before span name ok)
      ∙ ap (λ (left : List Token). Some (record { 0 = Declared span name; 1 = left })) (fit_next h).is)
  core_some purpose names before (Group span d) [] rest ok shallow there h = fit_absurd h
  core_some purpose names before (Group span d) (t ∷ tokens) rest ok shallow there h =
      let piece = fit_first h in
      let g = group_parts purpose names before span d ok in
      let s = fit_split (pieces d) (sign mark.CloseParenthesis ∷ []) (fit_next h) in
      let end = starts_as (is_mark mark.CloseParenthesis) (goes_on_declarator purpose) refl s.back ∙ close_ends purpose in
      core_is purpose names before span (word.Punctuator mark.OpenParenthesis) t tokens _ piece.word piece.place
      (grouped_is purpose names before span d tokens s.mid rest (group_opens purpose names before d g.0 g.1 s.front)
      (declarators_reached purpose names before tokens d s.mid (record { shape = g.1; words = s.front }) (omega arith) end) (last_mark mark.CloseParenthesis s.back))
  core_some ForType names before _ tokens rest ok shallow there h = absurd ok
  core_some ForParameter names before _ tokens rest ok shallow there h = absurd ok
  core_some ForName names before _ tokens rest ok shallow there h = absurd ok

  no_core : (purpose : Purpose) (names : Names) (before : Before) (w : Word) → goes_on_nameless w ≡ false → (span : Span) (tokens : List Token) →
      core_of depth inner typings specifiers declarators purpose names before span tokens w ≡ None
  no_core purpose names before (word.Identifier name) h span tokens = absurd (cc)
  no_core purpose names before (word.Punctuator mark.OpenParenthesis) h span tokens = absurd (cc)
  no_core purpose names before _ h span tokens = refl

  core_missing : (purpose : Purpose) (names : Names) (before : Before) (tokens : List Token) → starts goes_on_nameless tokens ≡ false →
      core_at depth inner typings specifiers declarators purpose names before tokens ≡ None
  core_missing purpose names before [] h = refl
  core_missing purpose names before (t ∷ tokens) h = no_core purpose names before t.word h t.span tokens

  nameless_opens : (purpose : Purpose) (names : Names) (tokens : List Token) → (purpose ≡ ForName → ⊥) →
      is_type_at names tokens || is_close_at depth inner typings specifiers declarators tokens ≡ true →
      begins_parameters depth inner typings specifiers declarators purpose names tokens ≡ true
  nameless_opens ForName names tokens other e = absurd (other refl)
  nameless_opens ForType names tokens other e = e
  nameless_opens ForParameter names tokens other e = e

  function_opens : (names : Names) (ts : Trees) (variadic : Bool) (tokens rest : List Token) → IsSuffix names (Function (record { line = 0; col = 0 }) ts variadic) →
      Fit (pieces_with_commas false ts ++ pieces_where variadic (sign mark.Comma ∷ sign mark.Ellipsis ∷ []) ++ sign mark.CloseParenthesis ∷ []) tokens rest →
      is_type_at names tokens || is_close_at depth inner typings specifiers declarators tokens ≡ true
  function_opens names Nil true tokens rest ok h = absurd ok.0
  function_opens names Nil false tokens rest ok h =
      right_true (is_type_at names tokens) (is_close_at depth inner typings specifiers declarators tokens)
      (close_at_is tokens true (starts_with (is_mark mark.CloseParenthesis) refl h))
  function_opens names (Next t more) variadic tokens rest ok h =
      let s = fit_split (pieces t ++ pieces_with_commas true more ++ pieces_where variadic (sign mark.Comma ∷ sign mark.Ellipsis ∷ [])) (sign mark.CloseParenthesis ∷ []) h in
      let k = fit_split (pieces t ++ pieces_with_commas true more) (pieces_where variadic (sign mark.Comma ∷ sign mark.Ellipsis ∷ [])) s.front in
      let m = fit_split (pieces t) (pieces_with_commas true more) k.front in
      left_true (is_type_at names tokens) (is_close_at depth inner typings specifiers declarators tokens)
      (type_at_is names tokens true (starts_with (begins_type names) (parameter_begins names t ok.1.0) m.front))

  absent_none : (purpose : Purpose) (names : Names) (before : Before) (suffixes : Trees) (tokens rest : List Token) → (purpose ≡ ForName → ⊥) → AreSuffixes names suffixes →
      Fit (pieces_of_all suffixes) tokens rest → starts goes_on_nameless rest ≡ false → core_at depth inner typings specifiers declarators purpose names before tokens ≡ None
  absent_none purpose names before Nil tokens rest other ok h end = rw h.is (core_missing purpose names before rest end)
  absent_none purpose names before (Next (Array span words bound) more) [] rest other ok h end = fit_absurd h
  absent_none purpose names before (Next (Array span words bound) more) (t ∷ tokens) rest other ok h end =
      let piece = fit_first h in core_is purpose names before span (word.Punctuator mark.OpenBracket) t tokens None piece.word piece.place refl
  absent_none purpose names before (Next (Function span ts variadic) more) [] rest other ok h end = fit_absurd h
  absent_none purpose names before (Next (Function span ts variadic) more) (t ∷ tokens) rest other ok h end =
      let s = fit_split (pieces (Function span ts variadic)) (pieces_of_all more) h in
      let piece = fit_first s.front in
      core_is purpose names before span (word.Punctuator mark.OpenParenthesis) t tokens None piece.word piece.place
      (opened_is purpose names before span tokens (nameless_opens purpose names tokens other (function_opens names ts variadic tokens s.mid ok.0 (fit_next s.front))))
  absent_none purpose names before (Next _ more) tokens rest other ok h end = absurd ok.0

  core_given : (purpose : Purpose) (tokens rest : List Token) (core : Tree) (o : Option Found) → o ≡ Some (core, rest) →
      core_or_none depth inner typings specifiers declarators purpose tokens o ≡ Some (core, rest)
  core_given purpose tokens rest core o e = rw e refl

  core_absent : (purpose : Purpose) (tokens : List Token) (o : Option Found) → (purpose ≡ ForName → ⊥) → o ≡ None →
      core_or_none depth inner typings specifiers declarators purpose tokens o ≡ Some (Absent, tokens)
  core_absent ForName tokens o other e = absurd (other refl)
  core_absent ForType tokens o other e = rw e refl
  core_absent ForParameter tokens o other e = rw e refl

  absent_read : (purpose : Purpose) (names : Names) (before : Before) (suffixes : Trees) (tokens mid rest : List Token) → (purpose ≡ ForName → ⊥) → AreSuffixes names suffixes →
      tokens ≡ mid → Fit (pieces_of_all suffixes) mid rest → starts goes_on_nameless rest ≡ false →
      core_or_none depth inner typings specifiers declarators purpose tokens (core_at depth inner typings specifiers declarators purpose names before tokens) ≡ Some (Absent, mid)
  absent_read purpose names before suffixes tokens mid rest other ok same h end =
      rw same (core_absent purpose mid (core_at depth inner typings specifiers declarators purpose names before mid) other (absent_none purpose names before suffixes mid rest other ok h end))

  some_read : (purpose : Purpose) (names : Names) (before : Before) (core : Tree) (tokens mid : List Token) → IsCore purpose names before core → nest core ≤ depth →
      (core ≡ Absent → ⊥) →
      Fit (pieces core) tokens mid →
      core_or_none depth inner typings specifiers declarators purpose tokens (core_at depth inner typings specifiers declarators purpose names before tokens) ≡ Some (core, mid)
  some_read purpose names before core tokens mid ok shallow there h =
      core_given purpose tokens mid core (core_at depth inner typings specifiers declarators purpose names before tokens)
      (core_some purpose names before core tokens mid ok shallow there h)

  core_read : (purpose : Purpose) (names : Names) (before : Before) (core : Tree) (suffixes : Trees) (tokens mid rest : List Token) → IsCore purpose names before core →
      nest core ≤ depth →
      AreSuffixes (after names core) suffixes → Fit (pieces core) tokens mid → Fit (pieces_of_all suffixes) mid rest → starts (goes_on_declarator purpose) rest ≡ false →
      core_or_none depth inner typings specifiers declarators purpose tokens (core_at depth inner typings specifiers declarators purpose names before tokens) ≡ Some (core, mid)
  core_read ForName names before Absent suffixes tokens mid rest ok shallow k h g end = absurd ok
  core_read ForType names before Absent suffixes tokens mid rest ok shallow k h g end = absent_read ForType names before suffixes tokens mid rest (λ e. cc) k h.is g end
  core_read ForParameter names before Absent suffixes tokens mid rest ok shallow k h g end = absent_read ForParameter names before suffixes tokens mid rest (λ e. cc) k h.is g end
  core_read purpose names before (Declared span name) suffixes tokens mid rest ok shallow k h g end =
      some_read purpose names before (Declared span name) tokens mid ok shallow (λ e. cc) h
  core_read purpose names before (Group span d) suffixes tokens mid rest ok shallow k h g end = some_read purpose names before (Group span d) tokens mid ok shallow (λ e. cc) h
  core_read ForType names before _ suffixes tokens mid rest ok shallow k h g end = absurd ok
  core_read ForParameter names before _ suffixes tokens mid rest ok shallow k h g end = absurd ok
  core_read ForName names before _ suffixes tokens mid rest ok shallow k h g end = absurd ok

  -- ---- declarators

  declarator_is : (purpose : Purpose) (names : Names) (before : Before) (span : Span) (stars : List Pointer) (core : Tree) (suffixed : Trees) (tokens mid left rest : List Token) →
      pointers (suc (length tokens)) [] tokens ≡ (stars, mid) →
      core_or_none depth inner typings specifiers declarators purpose mid (core_at depth inner typings specifiers declarators purpose names before mid) ≡ Some (core, left) →
      suffixes depth inner typings specifiers declarators (suc (length left)) [] (after names core) left ≡ (plain_list suffixed, rest) →
      first_span (record { line = 0; col = 0 }) tokens ≡ span → nat_lt (length rest) (length tokens) ≡ true → listed (plain_list suffixed) ≡ suffixed →
      declarator_rule depth inner typings specifiers declarators purpose names before tokens ≡ Some (Declarator span stars core suffixed, rest)
  unfolding declarator_rule declarator_behind
  declarator_is purpose names before span stars core suffixed tokens mid left rest e f g place less same = rw (e, f, g, place, less, same) refl

  less_test : (a b : ℕ) → a < b → nat_lt a b ≡ true
  less_test a b h = grind (arith, nat_tests)

  pub declarator_rule_reached : DeclaratorsReached (suc depth) (declarator_rule depth inner typings specifiers declarators)
  declarator_rule_reached purpose names before tokens (Declarator span stars core suffixed) rest front shallow end =
      let ok = front.shape in
      let h = front.words in
      let s = fit_split (pieces_of_pointers stars ++ pieces core) (pieces_of_all suffixed) h in
      let k = fit_split (pieces_of_pointers stars) (pieces core) s.front in
      let less = shorter begins_declarator (declarator_words purpose names before (Declarator span stars core suffixed) ok) h in
      let place = declarator_place purpose names before (Declarator span stars core suffixed) (record { line = 0; col = 0 }) tokens rest ok h in
      declarator_is purpose names before span stars core suffixed tokens k.mid s.mid rest
      (pointers_reach (suc (length tokens)) stars tokens k.mid (omega arith) ok.1 k.front (no_pointers purpose names (after names core) before core suffixed ok.2 ok.3 k.back s.back end))
      (core_read purpose names before core suffixed k.mid s.mid rest ok.2 (omega arith) ok.3 k.back s.back end)
      (suffixes_reach depth inner typings specifiers declarators inner_sound inner_reached typings_sound typings_reached (suc (length s.mid)) (after names core) suffixed s.mid rest (omega arith) ok.3 (omega arith)
      s.back (starts_neither (goes_on_declarator purpose) begins_suffix rest (suffix_ends purpose) end))
      (sym (same_Some span (first_span (record { line = 0; col = 0 }) tokens) place)) (less_test (length rest) (length tokens) less) (listed_plain suffixed)
  declarator_rule_reached purpose names before tokens _ rest front shallow end = absurd front.shape
