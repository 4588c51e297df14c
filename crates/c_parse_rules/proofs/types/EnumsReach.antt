-- Enums that are spelled are read.
use Rattle.std.proofs.Common.{◌≡◌, ℕ, suc, ◌<◌, ◌≤◌, Bool, true, false, List, [], ◌∷◌, ◌++◌, length, Option, None, Some, refl, sym, ◌∙◌, ap, arith}
use Rattle.std.specs.Prelude.{nat_lt}
use Rattle.c_base.specs.declared.number.Span.{Span}
use Rattle.c_base.specs.declared.token.Punctuator.TheVariants as mark
use Rattle.c_base.specs.declared.token.Token.{Token}
use Rattle.c_base.specs.declared.token.Word.{Word}
use Rattle.c_base.specs.declared.token.Word.TheVariants as word
use Rattle.c_tree.specs.Nesting.{nest, nest_all}
use Rattle.c_tree.specs.Spelling.{Piece, at, plain, sign, pieces, pieces_of_tag, pieces_with_commas, pieces_where}
use Rattle.c_tree.specs.Trees.{Tree, EnumTag, Enum, Enumerator, Trees, Nil, Next}
use Rattle.c_tree.specs.Views.{listed}
use Rattle.c_tree.specs.WellFormed.{Names, after, AreThere, AreEnumerators, IsEnumerator}
use Rattle.c_parse_rules.specs.Declaring.{starts}
use Rattle.c_parse_rules.specs.Following.{binding}
use Rattle.c_parse_rules.proofs.Laws.{ExprsSound, ExprsReached}
use Rattle.c_parse_rules.specs.Rules.{Found, Inner}
use Rattle.c_parse_rules.specs.Tokens.{behind_mark, is_mark, name_at}
use Rattle.c_parse_rules.specs.TypeRules.{Specifiers, Declarators, Typings, first_span, enumerator_at, enumerators, enum_of, constants_at, enum_untagged_at, enum_with}
use Rattle.c_parse_rules.proofs.types.EnumsSound.{enumerators_loop}
use Rattle.c_parse_rules.proofs.types.Loops.{Reads, loop_reach}
use Rattle.c_parse_rules.proofs.types.SuffixesReach.{plain_list, listed_plain, not_going_on, expr_exact, commas_start}
use Rattle.c_parse_rules.proofs.types.SuffixesSound.{behind_comma}
use Rattle.c_parse_rules.proofs.types.Words.{Fit, fit_join, fit_split, fit_first, fit_next, fit_absurd, fit_piece, take_mark, take_name, last_mark, last_name, is_name, begins, starts_as, starts_with, starts_not, shorter, mark_none, name_none}

-- a placed piece is its word, at the place of its token
pub fit_plain : {span : Span} {w : Word} {more : List Piece} {tokens rest : List Token} → Fit (at span w ∷ more) tokens rest → Fit (plain w ∷ more) tokens rest
fit_plain {tokens = []} h = fit_absurd h
fit_plain {tokens = t ∷ tokens} h = let piece = fit_first h in fit_piece (record { word = piece.word; place = tt {0} }) (fit_next h)

pub fit_span : (other : Span) {span : Span} {w : Word} {more : List Piece} {tokens rest : List Token} → Fit (at span w ∷ more) tokens rest → first_span other tokens ≡ span
fit_span other {tokens = []} h = fit_absurd h
fit_span other {tokens = t ∷ tokens} h = let piece = fit_first h in sym piece.place

-- what may stand behind an enumerator
abbrev pub ends_enumerator : Word → Bool
ends_enumerator (word.Punctuator mark.Comma) = true
ends_enumerator (word.Punctuator mark.CloseBrace) = true
ends_enumerator _ = false

enumerator_ends : (w : Word) → ends_enumerator w ≡ true → (is_mark mark.Assign w ≡ false) × (nat_lt 2 (binding w) ≡ false)
enumerator_ends (word.Punctuator mark.Comma) h = (refl, refl)
enumerator_ends (word.Punctuator mark.CloseBrace) h = (refl, refl)
enumerator_ends (word.Punctuator _) h = absurd (cc)
enumerator_ends _ h = absurd (cc)

-- what stands behind the last enumerator: a comma or none, and then the `}`
abbrev pub brace_pieces : Bool → List Piece
brace_pieces comma = pieces_where comma (sign mark.Comma ∷ []) ++ sign mark.CloseBrace ∷ []

brace_start : (comma : Bool) {tokens rest : List Token} → Fit (brace_pieces comma) tokens rest → starts ends_enumerator tokens ≡ true
brace_start true h = starts_with ends_enumerator refl h
brace_start false h = starts_with ends_enumerator refl h

module _ (depth : ℕ) (inner : Inner) (typings : Typings) (specifiers : Specifiers) (declarators : Declarators) (inner_sound : ExprsSound depth inner)
    (inner_reached : ExprsReached depth inner) where
  -- ---- enumerators

  plain_is : (names : Names) (span : Span) (name : List ℕ) (tokens rest : List Token) → name_at tokens ≡ Some (name, rest) → first_span (record { line = 0; col = 0 }) tokens ≡ span →
      behind_mark mark.Assign rest ≡ None → enumerator_at depth inner typings specifiers declarators names tokens ≡ Some (Enumerator span name Nil, rest)
  unfolding enumerator_at
  plain_is names span name tokens rest e f g = rw (e, f, g) refl

  valued_is : (names : Names) (span : Span) (name : List ℕ) (t : Tree) (tokens left inside rest : List Token) → name_at tokens ≡ Some (name, left) →
      first_span (record { line = 0; col = 0 }) tokens ≡ span → behind_mark mark.Assign left ≡ Some inside → inner names 2 inside ≡ Some (t, rest) →
      enumerator_at depth inner typings specifiers declarators names tokens ≡ Some (Enumerator span name (Next t Nil), rest)
  unfolding enumerator_at
  valued_is names span name t tokens left inside rest e f g h = rw (e, f, g, h) refl

  enumerator_reach : (names : Names) (t : Tree) (tokens rest : List Token) → IsEnumerator names t → nest t ≤ depth → Fit (pieces t) tokens rest → starts ends_enumerator rest ≡ true →
      enumerator_at depth inner typings specifiers declarators names tokens ≡ Some (t, rest)
  enumerator_reach names (Enumerator span name Nil) tokens rest ok shallow h end =
      let span_is = fit_span (record { line = 0; col = 0 }) h in
      plain_is names span name tokens rest (last_name name (fit_plain h)) span_is
      (mark_none mark.Assign rest (starts_not ends_enumerator (is_mark mark.Assign) rest (λ w e. (enumerator_ends w e).0) end))
  enumerator_reach names (Enumerator span name (Next t Nil)) tokens rest ok shallow h end =
      let span_is = fit_span (record { line = 0; col = 0 }) h in
      let n = take_name name (fit_plain h) in
      let a = take_mark mark.Assign n.back in
      let s = fit_split (pieces t) [] a.back in
      let there : Fit (pieces t) a.left rest = rw s.back.is at s.front in
      valued_is names span name t tokens n.left a.left rest n.is span_is a.is
      (expr_exact depth inner inner_reached 2 names t a.left rest (omega arith) ok (omega arith) there (not_going_on 2 ends_enumerator rest (λ w e. (enumerator_ends w e).1) end))
  enumerator_reach names (Enumerator span name (Next t (Next u more))) tokens rest ok shallow h end = absurd ok
  enumerator_reach names _ tokens rest ok shallow h end = absurd ok

  enumerator_begins : (names : Names) (t : Tree) → IsEnumerator names t → begins is_name (pieces t) ≡ true
  enumerator_begins names (Enumerator span name value) ok = refl
  enumerator_begins names _ ok = absurd ok

  enumerator_none : (names : Names) (tokens : List Token) → starts is_name tokens ≡ false → enumerator_at depth inner typings specifiers declarators names tokens ≡ None
  unfolding enumerator_at
  enumerator_none names tokens h = rw (name_none tokens h) refl

  comma_is : (names : Names) (tokens left : List Token) (result : Option Found) → behind_mark mark.Comma tokens ≡ Some left →
      enumerator_at depth inner typings specifiers declarators names left ≡ result →
      behind_comma (enumerator_at depth inner typings specifiers declarators) names tokens ≡ result
  comma_is names tokens left result e f = rw (e, f) refl

  comma_none : (names : Names) (tokens : List Token) → behind_mark mark.Comma tokens ≡ None →
      behind_comma (enumerator_at depth inner typings specifiers declarators) names tokens ≡ None
  comma_none names tokens e = rw e refl

  no_more : (names : Names) (comma : Bool) {tokens rest : List Token} → Fit (brace_pieces comma) tokens rest →
      behind_comma (enumerator_at depth inner typings specifiers declarators) names tokens ≡ None
  no_more names true {tokens} {rest} h =
      let t = take_mark mark.Comma h in
      comma_is names tokens t.left None t.is (enumerator_none names t.left (starts_as (is_mark mark.CloseBrace) is_name refl t.back))
  no_more names false {tokens} {rest} h = comma_none names tokens (mark_none mark.Comma tokens (starts_as (is_mark mark.CloseBrace) (is_mark mark.Comma) refl h))

  enumerators_read : (names : Names) (ts : Trees) (comma : Bool) (tokens mid rest : List Token) → AreEnumerators names ts → nest_all ts ≤ depth →
      Fit (pieces_with_commas true ts) tokens mid → Fit (brace_pieces comma) mid rest →
      Reads Names Tree (behind_comma (enumerator_at depth inner typings specifiers declarators)) after names (plain_list ts) tokens mid
  enumerators_read names Nil comma tokens mid rest ok shallow h end = (h.is, rw h.is (no_more names comma end))
  enumerators_read names (Next t more) comma tokens mid rest ok shallow h end =
      let c = take_mark mark.Comma h in
      let s = fit_split (pieces t) (pieces_with_commas true more) c.back in
      let found = enumerator_reach names t c.left s.mid ok.0 (omega arith) s.front (commas_start ends_enumerator more refl s.back (brace_start comma end)) in
      let inside = c.less in
      let less = shorter is_name (enumerator_begins names t ok.0) s.front in
      (s.mid, comma_is names tokens c.left (Some (t, s.mid)) c.is found, omega arith, enumerators_read (after names t) more comma s.mid mid rest ok.1 (omega arith) s.back end)

  enumerators_reach : (n : ℕ) (names : Names) (t : Tree) (ts : Trees) (comma : Bool) (tokens mid rest : List Token) → length tokens < n → AreEnumerators (after names t) ts →
      nest_all ts ≤ depth →
      Fit (pieces_with_commas true ts) tokens mid → Fit (brace_pieces comma) mid rest →
      enumerators depth inner typings specifiers declarators n (t ∷ []) (after names t) tokens ≡ (t ∷ plain_list ts, mid)
  enumerators_reach n names t ts comma tokens mid rest enough ok shallow h end =
      enumerators_loop depth inner typings specifiers declarators inner_sound n (t ∷ []) (after names t) tokens
      ∙ loop_reach Names Tree (behind_comma (enumerator_at depth inner typings specifiers declarators)) after n (t ∷ []) (after names t) (plain_list ts) tokens mid enough
      (enumerators_read (after names t) ts comma tokens mid rest ok shallow h end)

  -- ---- enums

  end_with : (span : Span) (tag : Option (List ℕ)) (all : List Tree) (tokens left rest : List Token) → behind_mark mark.Comma tokens ≡ Some left →
      behind_mark mark.CloseBrace left ≡ Some rest →
      enum_of depth inner typings specifiers declarators span tag (all, tokens) ≡ Some (Enum span tag (listed all) true, rest)
  end_with span tag all tokens left rest e f = rw (e, f) refl

  end_without : (span : Span) (tag : Option (List ℕ)) (all : List Tree) (tokens rest : List Token) → behind_mark mark.Comma tokens ≡ None →
      behind_mark mark.CloseBrace tokens ≡ Some rest →
      enum_of depth inner typings specifiers declarators span tag (all, tokens) ≡ Some (Enum span tag (listed all) false, rest)
  end_without span tag all tokens rest e f = rw (e, f) refl

  end_read : (span : Span) (tag : Option (List ℕ)) (all : List Tree) (comma : Bool) (tokens rest : List Token) → Fit (brace_pieces comma) tokens rest →
      enum_of depth inner typings specifiers declarators span tag (all, tokens) ≡ Some (Enum span tag (listed all) comma, rest)
  end_read span tag all true tokens rest h = let c = take_mark mark.Comma h in end_with span tag all tokens c.left rest c.is (last_mark mark.CloseBrace c.back)
  end_read span tag all false tokens rest h =
      end_without span tag all tokens rest (mark_none mark.Comma tokens (starts_as (is_mark mark.CloseBrace) (is_mark mark.Comma) refl h)) (last_mark mark.CloseBrace h)

  constants_is : (span : Span) (tag : Option (List ℕ)) (names : Names) (t : Tree) (ts : Trees) (comma : Bool) (tokens mid left rest : List Token) →
      enumerator_at depth inner typings specifiers declarators names tokens ≡ Some (t, mid) →
      enumerators depth inner typings specifiers declarators (suc (length mid)) (t ∷ []) (after names t) mid ≡ (t ∷ plain_list ts, left) →
      enum_of depth inner typings specifiers declarators span tag (t ∷ plain_list ts, left) ≡ Some (Enum span tag (listed (t ∷ plain_list ts)) comma, rest) →
      constants_at depth inner typings specifiers declarators span tag names tokens ≡ Some (Enum span tag (Next t ts) comma, rest)
  unfolding constants_at
  constants_is span tag names t ts comma tokens mid left rest e f g =
      rw (e, f) (g ∙ ap (λ (more : Trees). Some (record { 0 = Enum span tag (Next t more) comma; 1 = rest })) (listed_plain ts))

  constants_read : (span : Span) (tag : Option (List ℕ)) (names : Names) (ts : Trees) (comma : Bool) (tokens rest : List Token) → AreThere ts → AreEnumerators names ts →
      nest_all ts ≤ depth →
      Fit (pieces_with_commas false ts ++ brace_pieces comma) tokens rest →
      constants_at depth inner typings specifiers declarators span tag names tokens ≡ Some (Enum span tag ts comma, rest)
  constants_read span tag names Nil comma tokens rest there ok shallow h = absurd there
  constants_read span tag names (Next t more) comma tokens rest there ok shallow h =
      let s = fit_split (pieces_with_commas false (Next t more)) (brace_pieces comma) h in
      let k = fit_split (pieces t) (pieces_with_commas true more) s.front in
      constants_is span tag names t more comma tokens k.mid s.mid rest
      (enumerator_reach names t tokens k.mid ok.0 (omega arith) k.front (commas_start ends_enumerator more refl k.back (brace_start comma s.back)))
      (enumerators_reach (suc (length k.mid)) names t more comma k.mid s.mid rest (omega arith) ok.1 (omega arith) k.back s.back)
      (end_read span tag (t ∷ plain_list more) comma s.mid rest s.back)

  tag_is : (span : Span) (names : Names) (tag : List ℕ) (tokens rest : List Token) → name_at tokens ≡ Some (tag, rest) → behind_mark mark.OpenBrace rest ≡ None →
      enum_with depth inner typings specifiers declarators span names tokens (name_at tokens) ≡ Some (EnumTag span tag, rest)
  tag_is span names tag tokens rest e f = rw (e, f) refl

  tagged_is : (span : Span) (names : Names) (tag : List ℕ) (tokens left inside : List Token) (result : Option Found) → name_at tokens ≡ Some (tag, left) →
      behind_mark mark.OpenBrace left ≡ Some inside →
      constants_at depth inner typings specifiers declarators span (Some tag) names inside ≡ result →
      enum_with depth inner typings specifiers declarators span names tokens (name_at tokens) ≡ result
  tagged_is span names tag tokens left inside result e f g = rw (e, f) g

  untagged_is : (span : Span) (names : Names) (tokens inside : List Token) (result : Option Found) → name_at tokens ≡ None → behind_mark mark.OpenBrace tokens ≡ Some inside →
      constants_at depth inner typings specifiers declarators span None names inside ≡ result →
      enum_with depth inner typings specifiers declarators span names tokens (name_at tokens) ≡ result
  unfolding enum_untagged_at
  untagged_is span names tokens inside result e f g = rw (e, f) g

  pub tag_read : (span : Span) (names : Names) (tag : List ℕ) (tokens rest : List Token) → Fit (plain (word.Identifier tag) ∷ []) tokens rest →
      starts (is_mark mark.OpenBrace) rest ≡ false →
      enum_with depth inner typings specifiers declarators span names tokens (name_at tokens) ≡ Some (EnumTag span tag, rest)
  tag_read span names tag tokens rest h end = tag_is span names tag tokens rest (last_name tag h) (mark_none mark.OpenBrace rest end)

  pub enum_read : (span : Span) (names : Names) (tag : Option (List ℕ)) (ts : Trees) (comma : Bool) (tokens rest : List Token) → AreThere ts → AreEnumerators names ts →
      nest_all ts ≤ depth →
      Fit (pieces_of_tag tag ++ sign mark.OpenBrace ∷ pieces_with_commas false ts ++ pieces_where comma (sign mark.Comma ∷ []) ++ sign mark.CloseBrace ∷ []) tokens rest →
      enum_with depth inner typings specifiers declarators span names tokens (name_at tokens) ≡ Some (Enum span tag ts comma, rest)
  enum_read span names tag ts comma tokens rest there ok shallow h =
      let s = fit_split (pieces_of_tag tag ++ sign mark.OpenBrace ∷ pieces_with_commas false ts ++ pieces_where comma (sign mark.Comma ∷ [])) (sign mark.CloseBrace ∷ []) h in
      let k = fit_split (pieces_of_tag tag ++ sign mark.OpenBrace ∷ pieces_with_commas false ts) (pieces_where comma (sign mark.Comma ∷ [])) s.front in
      let m = fit_split (pieces_of_tag tag) (sign mark.OpenBrace ∷ pieces_with_commas false ts) k.front in
      let o = take_mark mark.OpenBrace m.back in
      let inside : Fit (pieces_with_commas false ts ++ brace_pieces comma) o.left rest = fit_join o.back (fit_join k.back s.back) in
      by_tag span names tag tokens m.mid o.left (Some (record { 0 = Enum span tag ts comma; 1 = rest })) m.front o.is (starts_with (is_mark mark.OpenBrace) refl m.back)
      (constants_read span tag names ts comma o.left rest there ok shallow inside)
    where
      by_tag : (span : Span) (names : Names) (tag : Option (List ℕ)) (tokens mid inside : List Token) (result : Option Found) → Fit (pieces_of_tag tag) tokens mid →
          behind_mark mark.OpenBrace mid ≡ Some inside → starts (is_mark mark.OpenBrace) mid ≡ true →
          constants_at depth inner typings specifiers declarators span tag names inside ≡ result →
          enum_with depth inner typings specifiers declarators span names tokens (name_at tokens) ≡ result
      by_tag span names None tokens mid inside result h o first e =
          untagged_is span names tokens inside result (rw h.is (name_none mid (starts_not (is_mark mark.OpenBrace) is_name mid unnamed first))) (rw h.is o) e
        where
          unnamed : (w : Word) → is_mark mark.OpenBrace w ≡ true → is_name w ≡ false
          unnamed (word.Punctuator p) h = refl
          unnamed _ h = absurd (cc)
      by_tag span names (Some name) tokens mid inside result h o first e = tagged_is span names name tokens mid inside result (last_name name h) o e
