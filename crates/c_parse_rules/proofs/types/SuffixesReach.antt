-- Suffixes of a declarator that are spelled are read.
use Rattle.std.proofs.Common.{◌≡◌, ℕ, suc, ◌<◌, ◌≤◌, Bool, true, false, IsTrue, List, [], ◌∷◌, ◌++◌, length, Option, None, Some, refl, ◌∙◌, ap, arith, inl, inr}
use Rattle.std.specs.Prelude.{nat_lt}
use Rattle.c_base.specs.declared.number.Span.{Span}
use Rattle.c_base.specs.declared.token.Keyword.{Keyword}
use Rattle.c_base.specs.declared.token.Keyword.TheVariants as key
use Rattle.c_base.specs.declared.token.Punctuator.{Punctuator}
use Rattle.c_base.specs.declared.token.Punctuator.TheVariants as mark
use Rattle.c_base.specs.declared.token.Token.{Token}
use Rattle.c_base.specs.declared.token.Word.{Word}
use Rattle.c_base.specs.declared.token.Word.TheVariants as word
use Rattle.c_tree.specs.Nesting.{nest, nest_all, nest_below}
use Rattle.c_tree.specs.Spelling.{Piece, sign, pieces, pieces_of_all, pieces_of_keywords, pieces_with_commas, pieces_where}
use Rattle.c_tree.specs.Trees.{Tree, Array, Function, Trees, Nil, Next}
use Rattle.c_tree.specs.Views.{listed}
use Rattle.c_tree.specs.WellFormed.{Names, after, after_parameter, ForParameter, ForName, IsOptional, IsParameter, AreParameters, AreSuffixes, IsSuffix, is_array_word}
use Rattle.c_parse_rules.specs.Declaring.{starts, begins_suffix}
use Rattle.c_parse_rules.specs.Following.{goes_on, binding, ends_type, is_type_end}
use Rattle.c_parse_rules.proofs.Laws.{ExprsSound, ExprsReached, TypingsSound, TypingsReached, Reached, begins_expr}
use Rattle.c_parse_rules.specs.Rules.{Found, Inner}
use Rattle.c_parse_rules.specs.Tokens.{behind_mark, is_mark, begins_type}
use Rattle.c_parse_rules.specs.TypeRules.{Specifiers, Declarators, Typings, array_words, bound_of, array_of, parameters, ellipsis_at, function_end, function_with, suffix_of, suffix_at, suffixes}
use Rattle.c_parse_rules.proofs.types.Begins.{expr_begins, parameter_begins, suffix_begins}
use Rattle.c_parse_rules.proofs.types.Loops.{Reads, loop_reach}
use Rattle.c_parse_rules.proofs.types.Parts.{is_keyword, array_words_reach}
use Rattle.c_parse_rules.proofs.types.SuffixesSound.{behind_comma, parameters_loop, suffixes_loop}
use Rattle.c_parse_rules.proofs.types.Words.{Fit, Parted, fit_join, fit_split, fit_first, fit_next, fit_absurd, take_mark, last_mark, starts_as, starts_with, starts_not, shorter, mark_none}

-- ---- what is not found, and what is found exactly

pub none_of : {A : Type 0} (o : Option A) → ((x : A) → o ≡ Some x → ⊥) → o ≡ None
none_of None f = refl
none_of (Some x) f = absurd (f x refl)

pub differ : {C : Type 0} {b : Bool} → b ≡ true → b ≡ false → C
differ h k = absurd (cc)

abbrev pub plain_list : Trees → List Tree
plain_list Nil = []
plain_list (Next t more) = t ∷ plain_list more

pub listed_plain : (ts : Trees) → listed (plain_list ts) ≡ ts
listed_plain Nil = refl
listed_plain (Next t more) = ap (Next t) (listed_plain more)

pub not_going_on : (least : ℕ) (ends : Word → Bool) (tokens : List Token) → ((w : Word) → ends w ≡ true → nat_lt least (binding w) ≡ false) → starts ends tokens ≡ true →
    goes_on least tokens ≡ false
not_going_on least ends [] f h = refl
not_going_on least ends (t ∷ tokens) f h = f t.word h

exactly : (least : ℕ) (o : Option Found) (t : Tree) (rest : List Token) → goes_on least rest ≡ false → Reached least o t rest → o ≡ Some (t, rest)
exactly least None t rest stops r = absurd r
exactly least (Some found) t rest stops (inl same) = ap Some same
exactly least (Some found) t rest stops (inr longer) = differ longer.1 stops

pub expr_exact : (depth : ℕ) (inner : Inner) (inner_reached : ExprsReached depth inner) (least : ℕ) (names : Names) (t : Tree) (tokens rest : List Token) → least ≤ 14 →
    IsOptional least names (Next t Nil) → nest t ≤ depth → Fit (pieces t) tokens rest → goes_on least rest ≡ false → inner names least tokens ≡ Some (t, rest)
expr_exact depth inner inner_reached least names t tokens rest small ok shallow h stops =
    exactly least (inner names least tokens) t rest stops
    (inner_reached names least tokens t rest small (record { within = record { shape = ok.1; tight = ok.0; shallow = shallow }; words = h.is }))

pub expr_none : (depth : ℕ) (inner : Inner) (inner_sound : ExprsSound depth inner) (least : ℕ) (names : Names) (tokens : List Token) → least ≤ 14 →
    starts begins_expr tokens ≡ false → inner names least tokens ≡ None
expr_none depth inner inner_sound least names tokens small h =
    none_of (inner names least tokens) (λ e f.
    let s = inner_sound names least tokens e small f in
    let fit : Fit (pieces e.0) tokens e.1 = record { is = s.words } in
    differ (starts_with begins_expr (expr_begins names e.0 s.within.shape) fit) h)

-- what stands behind commas begins with a comma, or nothing does
pub commas_start : (ends : Word → Bool) (more : Trees) {tokens rest : List Token} → ends (word.Punctuator mark.Comma) ≡ true → Fit (pieces_with_commas true more) tokens rest →
    starts ends rest ≡ true → starts ends tokens ≡ true
commas_start ends Nil comma h end = rw h.is end
commas_start ends (Next t more) comma h end = starts_with ends comma h

ending : (tokens : List Token) → starts is_type_end tokens ≡ true → IsTrue (ends_type tokens)
ending [] h = h
ending (t ∷ tokens) h = h

no_array_word : (w : Word) → begins_expr w ≡ true → is_keyword is_array_word w ≡ false
no_array_word (word.Keyword key.Sizeof) h = refl
no_array_word (word.Keyword key.Alignof) h = refl
no_array_word (word.Keyword key.BuiltinOffsetof) h = refl
no_array_word (word.Keyword _) h = absurd (cc)
no_array_word _ h = refl

closing : (w : Word) → is_mark mark.CloseBracket w ≡ true → (is_keyword is_array_word w ≡ false) × (begins_expr w ≡ false) × (nat_lt 1 (binding w) ≡ false)
closing (word.Punctuator mark.CloseBracket) h = (refl, refl, refl)
closing (word.Punctuator _) h = absurd (cc)
closing _ h = absurd (cc)

bound_start : (names : Names) (bound : Trees) {tokens rest : List Token} → IsOptional 1 names bound → Fit (pieces_of_all bound) tokens rest →
    starts (is_mark mark.CloseBracket) rest ≡ true → starts (is_keyword is_array_word) tokens ≡ false
bound_start names Nil {tokens} {rest} ok h end = rw h.is (starts_not (is_mark mark.CloseBracket) (is_keyword is_array_word) rest (λ w e. (closing w e).0) end)
bound_start names (Next t Nil) {tokens} {rest} ok h end =
    let s = fit_split (pieces t) [] h in
    starts_not begins_expr (is_keyword is_array_word) tokens no_array_word (starts_with begins_expr (expr_begins names t ok.1) s.front)
bound_start names (Next t (Next u more)) ok h end = absurd ok

module _ (depth : ℕ) (inner : Inner) (typings : Typings) (specifiers : Specifiers) (declarators : Declarators) (inner_sound : ExprsSound depth inner)
    (inner_reached : ExprsReached depth inner)
    (typings_sound : TypingsSound depth typings) (typings_reached : TypingsReached depth typings) where
  -- ---- arrays

  bound_is : (span : Span) (words : List Keyword) (tokens rest : List Token) → behind_mark mark.CloseBracket tokens ≡ Some rest →
      bound_of depth inner typings specifiers declarators span words tokens None ≡ Some (Array span words Nil, rest)
  bound_is span words tokens rest e = rw e refl

  bound_some : (span : Span) (words : List Keyword) (tokens mid rest : List Token) (t : Tree) → behind_mark mark.CloseBracket mid ≡ Some rest →
      bound_of depth inner typings specifiers declarators span words tokens (Some (t, mid)) ≡ Some (Array span words (Next t Nil), rest)
  bound_some span words tokens mid rest t e = rw e refl

  bound_read : (span : Span) (names : Names) (words : List Keyword) (bound : Trees) (tokens mid rest : List Token) (o : Option Found) → IsOptional 1 names bound →
      nest_all bound ≤ depth →
      Fit (pieces_of_all bound) tokens mid → behind_mark mark.CloseBracket mid ≡ Some rest → starts (is_mark mark.CloseBracket) mid ≡ true → inner names 1 tokens ≡ o →
      bound_of depth inner typings specifiers declarators span words tokens o ≡ Some (Array span words bound, rest)
  bound_read span names words Nil tokens mid rest o ok shallow h e end same =
      let first : starts begins_expr tokens ≡ false = rw h.is (starts_not (is_mark mark.CloseBracket) begins_expr mid (λ w k. (closing w k).1) end) in
      let none = expr_none depth inner inner_sound 1 names tokens (omega arith) first in
      rw (← same, none) (bound_is span words tokens rest (rw h.is e))
  bound_read span names words (Next t Nil) tokens mid rest o ok shallow h e end same =
      let s = fit_split (pieces t) [] h in
      let there : Fit (pieces t) tokens mid = rw s.back.is at s.front in
      let found =
      expr_exact depth inner inner_reached 1 names t tokens mid (omega arith) ok (omega arith) there
      (not_going_on 1 (is_mark mark.CloseBracket) mid (λ w k. (closing w k).2) end) in
      rw (← same, found) (bound_some span words tokens mid rest t e)
  bound_read span names words (Next t (Next u more)) tokens mid rest o ok shallow h e end same = absurd ok

  array_is : (span : Span) (names : Names) (words : List Keyword) (n : ℕ) (tokens mid : List Token) (result : Option Found) → array_words n [] tokens ≡ (words, mid) →
      bound_of depth inner typings specifiers declarators span words mid (inner names 1 mid) ≡ result →
      array_of depth inner typings specifiers declarators span names (array_words n [] tokens) ≡ result
  array_is span names words n tokens mid result e h = rw e h

  array_read : (span : Span) (names : Names) (words : List Keyword) (bound : Trees) (tokens rest : List Token) → IsSuffix names (Array span words bound) → nest_all bound ≤ depth →
      Fit (pieces_of_keywords words ++ pieces_of_all bound ++ sign mark.CloseBracket ∷ []) tokens rest →
      array_of depth inner typings specifiers declarators span names (array_words (suc (length tokens)) [] tokens) ≡ Some (Array span words bound, rest)
  array_read span names words bound tokens rest ok shallow h =
      let s = fit_split (pieces_of_keywords words ++ pieces_of_all bound) (sign mark.CloseBracket ∷ []) h in
      let k = fit_split (pieces_of_keywords words) (pieces_of_all bound) s.front in
      let end = starts_with (is_mark mark.CloseBracket) refl s.back in
      array_is span names words (suc (length tokens)) tokens k.mid _
      (array_words_reach (suc (length tokens)) words tokens k.mid (omega arith) ok.0 k.front (bound_start names bound ok.1 k.back end))
      (bound_read span names words bound k.mid s.mid rest _ ok.1 shallow k.back (last_mark mark.CloseBracket s.back) end refl)

  -- ---- parameters

  not_name : ForParameter ≡ ForName → ⊥
  not_name e = cc

  parameter_exact : (names : Names) (t : Tree) (tokens rest : List Token) → IsParameter names t → nest t ≤ depth → Fit (pieces t) tokens rest → starts is_type_end rest ≡ true →
      typings ForParameter names tokens ≡ Some (t, rest)
  parameter_exact names t tokens rest ok shallow h end =
      typings_reached ForParameter names tokens t rest (record { shape = ok; shallow = shallow; words = h.is }) (ending rest end)

  parameter_none : (names : Names) (tokens : List Token) → starts (begins_type names) tokens ≡ false → typings ForParameter names tokens ≡ None
  parameter_none names tokens h =
      none_of (typings ForParameter names tokens) (λ t f.
      let s = typings_sound ForParameter names tokens t not_name f in
      let fit : Fit (pieces t.0) tokens t.1 = record { is = s.words } in
      differ (starts_with (begins_type names) (parameter_begins names t.0 s.shape) fit) h)

  -- what stands behind the last parameter: `, ...` or nothing, and then the `)`
  abbrev end_pieces : Bool → List Piece
  end_pieces variadic = pieces_where variadic (sign mark.Comma ∷ sign mark.Ellipsis ∷ []) ++ sign mark.CloseParenthesis ∷ []

  untyped_mark : (names : Names) (p : Punctuator) (w : Word) → is_mark p w ≡ true → begins_type names w ≡ false
  untyped_mark names p (word.Punctuator found) e = refl
  untyped_mark names p _ e = absurd (cc)

  end_start : (variadic : Bool) {tokens rest : List Token} → Fit (end_pieces variadic) tokens rest → starts is_type_end tokens ≡ true
  end_start true h = starts_with is_type_end refl h
  end_start false h = starts_with is_type_end refl h

  comma_is : (names : Names) (tokens left : List Token) (result : Option Found) → behind_mark mark.Comma tokens ≡ Some left → typings ForParameter names left ≡ result →
      behind_comma (typings ForParameter) names tokens ≡ result
  comma_is names tokens left result e f = rw (e, f) refl

  comma_none : (names : Names) (tokens : List Token) → behind_mark mark.Comma tokens ≡ None → behind_comma (typings ForParameter) names tokens ≡ None
  comma_none names tokens e = rw e refl

  no_more : (names : Names) (variadic : Bool) {tokens rest : List Token} → Fit (end_pieces variadic) tokens rest → behind_comma (typings ForParameter) names tokens ≡ None
  no_more names true {tokens} {rest} h =
      let t = take_mark mark.Comma h in
      comma_is names tokens t.left None t.is
      (parameter_none names t.left (starts_not (is_mark mark.Ellipsis) (begins_type names) t.left (untyped_mark names mark.Ellipsis) (starts_with (is_mark mark.Ellipsis) refl t.back)))
  no_more names false {tokens} {rest} h =
      comma_none names tokens (mark_none mark.Comma tokens (starts_as (is_mark mark.CloseParenthesis) (is_mark mark.Comma) refl h))

  parameters_read : (names : Names) (ts : Trees) (variadic : Bool) (tokens mid rest : List Token) → AreParameters names ts → nest_all ts ≤ depth →
      Fit (pieces_with_commas true ts) tokens mid → Fit (end_pieces variadic) mid rest →
      Reads Names Tree (behind_comma (typings ForParameter)) after_parameter names (plain_list ts) tokens mid
  parameters_read names Nil variadic tokens mid rest ok shallow h end = (h.is, rw h.is (no_more names variadic end))
  parameters_read names (Next t more) variadic tokens mid rest ok shallow h end =
      let comma = take_mark mark.Comma h in
      let s = fit_split (pieces t) (pieces_with_commas true more) comma.back in
      let found = parameter_exact names t comma.left s.mid ok.0 (omega arith) s.front (commas_start is_type_end more refl s.back (end_start variadic end)) in
      let inside = comma.less in
      let less = shorter (begins_type names) (parameter_begins names t ok.0) s.front in
      (s.mid, comma_is names tokens comma.left (Some (t, s.mid)) comma.is found, omega arith, parameters_read (after_parameter names t) more variadic s.mid mid rest ok.1 (omega arith) s.back end)

  parameters_reach : (n : ℕ) (names : Names) (t : Tree) (ts : Trees) (variadic : Bool) (tokens mid rest : List Token) → length tokens < n →
      AreParameters (after_parameter names t) ts → nest_all ts ≤ depth →
      Fit (pieces_with_commas true ts) tokens mid → Fit (end_pieces variadic) mid rest →
      parameters depth inner typings specifiers declarators n (t ∷ []) (after_parameter names t) tokens ≡ (t ∷ plain_list ts, mid)
  parameters_reach n names t ts variadic tokens mid rest enough ok shallow h end =
      parameters_loop depth inner typings specifiers declarators inner_sound typings_sound n (t ∷ []) (after_parameter names t) tokens
      ∙ loop_reach Names Tree (behind_comma (typings ForParameter)) after_parameter n (t ∷ []) (after_parameter names t) (plain_list ts) tokens mid enough
      (parameters_read (after_parameter names t) ts variadic tokens mid rest ok shallow h end)

  -- ---- functions

  ellipsis_is : (tokens left rest : List Token) → behind_mark mark.Comma tokens ≡ Some left → behind_mark mark.Ellipsis left ≡ Some rest →
      ellipsis_at depth inner typings specifiers declarators tokens ≡ Some rest
  unfolding ellipsis_at
  ellipsis_is tokens left rest e f = rw (e, f) refl

  ellipsis_none : (tokens : List Token) → behind_mark mark.Comma tokens ≡ None → ellipsis_at depth inner typings specifiers declarators tokens ≡ None
  unfolding ellipsis_at
  ellipsis_none tokens e = rw e refl

  end_some : (span : Span) (all : List Tree) (tokens left rest : List Token) → ellipsis_at depth inner typings specifiers declarators tokens ≡ Some left →
      behind_mark mark.CloseParenthesis left ≡ Some rest →
      function_end depth inner typings specifiers declarators span all tokens (ellipsis_at depth inner typings specifiers declarators tokens)
      ≡ Some (Function span (listed all) true, rest)
  end_some span all tokens left rest e f = rw (e, f) refl

  end_plain : (span : Span) (all : List Tree) (tokens rest : List Token) (o : Option (List Token)) → o ≡ None → behind_mark mark.CloseParenthesis tokens ≡ Some rest →
      function_end depth inner typings specifiers declarators span all tokens o ≡ Some (Function span (listed all) false, rest)
  end_plain span all tokens rest o e f = rw (e, f) refl

  end_read : (span : Span) (all : List Tree) (variadic : Bool) (tokens rest : List Token) → Fit (end_pieces variadic) tokens rest →
      function_end depth inner typings specifiers declarators span all tokens (ellipsis_at depth inner typings specifiers declarators tokens)
      ≡ Some (Function span (listed all) variadic, rest)
  end_read span all true tokens rest h =
      let comma = take_mark mark.Comma h in
      let dots = take_mark mark.Ellipsis comma.back in
      end_some span all tokens dots.left rest (ellipsis_is tokens comma.left dots.left comma.is dots.is) (last_mark mark.CloseParenthesis dots.back)
  end_read span all false tokens rest h =
      end_plain span all tokens rest (ellipsis_at depth inner typings specifiers declarators tokens)
      (ellipsis_none tokens (mark_none mark.Comma tokens (starts_as (is_mark mark.CloseParenthesis) (is_mark mark.Comma) refl h))) (last_mark mark.CloseParenthesis h)

  function_is : (span : Span) (names : Names) (t : Tree) (ts : Trees) (variadic : Bool) (tokens mid left rest : List Token) → typings ForParameter names tokens ≡ Some (t, mid) →
      parameters depth inner typings specifiers declarators (suc (length mid)) (t ∷ []) (after_parameter names t) mid ≡ (t ∷ plain_list ts, left) →
      function_end depth inner typings specifiers declarators span (t ∷ plain_list ts) left (ellipsis_at depth inner typings specifiers declarators left)
      ≡ Some (Function span (listed (t ∷ plain_list ts)) variadic, rest) →
      function_with depth inner typings specifiers declarators span names tokens (typings ForParameter names tokens) ≡ Some (Function span (Next t ts) variadic, rest)
  function_is span names t ts variadic tokens mid left rest e f g =
      rw (e, f) (g ∙ ap (λ (more : Trees). Some (record { 0 = Function span (Next t more) variadic; 1 = rest })) (listed_plain ts))

  function_none : (span : Span) (names : Names) (tokens rest : List Token) → typings ForParameter names tokens ≡ None → behind_mark mark.CloseParenthesis tokens ≡ Some rest →
      function_with depth inner typings specifiers declarators span names tokens (typings ForParameter names tokens) ≡ Some (Function span Nil false, rest)
  function_none span names tokens rest e f = rw (e, f) refl

  -- the two splits of what stands behind the `(`
  regroup : (a : List Piece) (variadic : Bool) {tokens rest : List Token} →
      Fit (a ++ pieces_where variadic (sign mark.Comma ∷ sign mark.Ellipsis ∷ []) ++ sign mark.CloseParenthesis ∷ []) tokens rest →
      Parted a (end_pieces variadic) tokens rest
  regroup a variadic h =
      let s = fit_split (a ++ pieces_where variadic (sign mark.Comma ∷ sign mark.Ellipsis ∷ [])) (sign mark.CloseParenthesis ∷ []) h in
      let k = fit_split a (pieces_where variadic (sign mark.Comma ∷ sign mark.Ellipsis ∷ [])) s.front in
      record { mid = k.mid; front = k.front; back = fit_join k.back s.back }

  function_read : (span : Span) (names : Names) (ts : Trees) (variadic : Bool) (tokens rest : List Token) → IsSuffix names (Function span ts variadic) → nest_all ts ≤ depth →
      Parted (pieces_with_commas false ts) (end_pieces variadic) tokens rest →
      function_with depth inner typings specifiers declarators span names tokens (typings ForParameter names tokens) ≡ Some (Function span ts variadic, rest)
  function_read span names Nil true tokens rest ok shallow h = absurd ok.0
  function_read span names Nil false tokens rest ok shallow h =
      let there : Fit (sign mark.CloseParenthesis ∷ []) tokens rest = rw (← h.front.is) at h.back in
      function_none span names tokens rest
      (parameter_none names tokens (starts_not (is_mark mark.CloseParenthesis) (begins_type names) tokens (untyped_mark names mark.CloseParenthesis) (starts_with (is_mark mark.CloseParenthesis) refl there)))
      (last_mark mark.CloseParenthesis there)
  function_read span names (Next t more) variadic tokens rest ok shallow h =
      let s = fit_split (pieces t) (pieces_with_commas true more) h.front in
      let first = parameter_exact names t tokens s.mid ok.1.0 (omega arith) s.front (commas_start is_type_end more refl s.back (end_start variadic h.back)) in
      function_is span names t more variadic tokens s.mid h.mid rest first
      (parameters_reach (suc (length s.mid)) names t more variadic s.mid h.mid rest (omega arith) ok.1.1 (omega arith) s.back h.back)
      (end_read span (t ∷ plain_list more) variadic h.mid rest h.back)

  -- ---- suffixes

  suffix_is : (names : Names) (span : Span) (w : Word) (t : Token) (tokens : List Token) (result : Option Found) → t.word ≡ w → span ≡ t.span →
      suffix_of depth inner typings specifiers declarators names span tokens w ≡ result → suffix_at depth inner typings specifiers declarators names (t ∷ tokens) ≡ result
  suffix_is names span w t tokens result e f h = rw (e, ← f) h

  pub suffix_reach : (names : Names) (t : Tree) (tokens rest : List Token) → IsSuffix names t → nest t ≤ depth → Fit (pieces t) tokens rest →
      suffix_at depth inner typings specifiers declarators names tokens ≡ Some (t, rest)
  suffix_reach names (Array span words bound) [] rest ok shallow h = fit_absurd h
  suffix_reach names (Function span ts variadic) [] rest ok shallow h = fit_absurd h
  suffix_reach names (Array span words bound) (t ∷ tokens) rest ok shallow h =
      let piece = fit_first h in
      suffix_is names span (word.Punctuator mark.OpenBracket) t tokens _ piece.word piece.place (array_read span names words bound tokens rest ok shallow (fit_next h))
  suffix_reach names (Function span ts variadic) (t ∷ tokens) rest ok shallow h =
      let piece = fit_first h in
      suffix_is names span (word.Punctuator mark.OpenParenthesis) t tokens _ piece.word piece.place
      (function_read span names ts variadic tokens rest ok shallow (regroup (pieces_with_commas false ts) variadic (fit_next h)))
  suffix_reach names _ tokens rest ok shallow h = absurd ok

  no_suffix : (w : Word) → begins_suffix w ≡ false → (names : Names) (span : Span) (tokens : List Token) →
      suffix_of depth inner typings specifiers declarators names span tokens w ≡ None
  no_suffix (word.Punctuator mark.OpenBracket) e names span tokens = absurd (cc)
  no_suffix (word.Punctuator mark.OpenParenthesis) e names span tokens = absurd (cc)
  no_suffix _ e names span tokens = refl

  pub suffix_none : (names : Names) (tokens : List Token) → starts begins_suffix tokens ≡ false → suffix_at depth inner typings specifiers declarators names tokens ≡ None
  suffix_none names [] h = refl
  suffix_none names (t ∷ tokens) h = no_suffix t.word h names t.span tokens

  suffixes_read : (names : Names) (ts : Trees) (tokens rest : List Token) → AreSuffixes names ts → nest_below ts ≤ suc depth → Fit (pieces_of_all ts) tokens rest →
      starts begins_suffix rest ≡ false → Reads Names Tree (suffix_at depth inner typings specifiers declarators) after names (plain_list ts) tokens rest
  suffixes_read names Nil tokens rest ok shallow h end = (h.is, rw h.is (suffix_none names rest end))
  suffixes_read names (Next t more) tokens rest ok shallow h end =
      let s = fit_split (pieces t) (pieces_of_all more) h in (
        s.mid,
        suffix_reach names t tokens s.mid ok.0 (omega arith) s.front,
        shorter begins_suffix (suffix_begins names t ok.0) s.front,
        suffixes_read (after names t) more s.mid rest ok.1 (omega arith) s.back end,
      )

  pub suffixes_reach : (n : ℕ) (names : Names) (ts : Trees) (tokens rest : List Token) → length tokens < n → AreSuffixes names ts → nest_below ts ≤ suc depth →
      Fit (pieces_of_all ts) tokens rest →
      starts begins_suffix rest ≡ false → suffixes depth inner typings specifiers declarators n [] names tokens ≡ (plain_list ts, rest)
  suffixes_reach n names ts tokens rest enough ok shallow h end =
      suffixes_loop depth inner typings specifiers declarators inner_sound typings_sound n [] names tokens
      ∙ loop_reach Names Tree (suffix_at depth inner typings specifiers declarators) after n [] names (plain_list ts) tokens rest enough
      (suffixes_read names ts tokens rest ok shallow h end)
