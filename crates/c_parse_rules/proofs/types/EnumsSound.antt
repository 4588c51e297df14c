-- What is read as an enum is spelled there, and is one.
use Rattle.std.proofs.Common.{◌≡◌, ℕ, zero, suc, ◌≤◌, Bool, true, false, List, [], ◌∷◌, ◌++◌, length, Option, None, Some, refl, arith}
use Rattle.std.proofs.lemmas.Option.{same_Some}
use Rattle.c_base.specs.declared.number.Span.{Span}
use Rattle.c_base.specs.declared.token.Keyword.TheVariants as key
use Rattle.c_base.specs.declared.token.Punctuator.TheVariants as mark
use Rattle.c_base.specs.declared.token.Token.{Token}
use Rattle.c_base.specs.declared.token.Word.{Word}
use Rattle.c_base.specs.declared.token.Word.TheVariants as word
use Rattle.c_tree.specs.Spelling.{Piece, at, plain, sign, pieces_of_tag, pieces_with_commas, pieces_where}
use Rattle.c_tree.specs.Trees.{Tree, Enum, Nil, Next}
use Rattle.c_tree.specs.Views.{listed}
use Rattle.c_tree.specs.WellFormed.{Names, after, Purpose, Before, IsSpecifier, AreEnumerators, IsEnumerator, IsOptional}
use Rattle.c_parse_rules.proofs.Laws.{ExprsSound}
use Rattle.c_parse_rules.specs.Rules.{Found, Several, Inner}
use Rattle.c_parse_rules.specs.Tokens.{◌>>=◌, behind_mark, name_at}
use Rattle.c_parse_rules.specs.TypeRules.{Specifiers, Declarators, Typings, each_with, first_span, value_of, enumerator_at, enumerators_behind, enumerators, enum_end, constants_at, enum_tagged, enum_untagged_at, enum_with}
use Rattle.c_parse_rules.proofs.types.Loops.{loop, loop_with, loop_sound}
use Rattle.c_parse_rules.proofs.types.SuffixesSound.{behind_comma, CommasFound, comma_more, TreeFound, TreeBehind}
use Rattle.c_parse_rules.proofs.types.Words.{bound, Fit, fit_none, fit_join, fit_mark, fit_name, fit_piece, fit_first, fit_next, fit_absurd}

-- a first word has the place of its token
pub fit_placed : (other : Span) (w : Word) {more : List Piece} {tokens rest : List Token} → Fit (plain w ∷ more) tokens rest → Fit (at (first_span other tokens) w ∷ more) tokens rest
fit_placed other w {tokens = []} h = fit_absurd h
fit_placed other w {tokens = t ∷ tokens} h = let piece = fit_first h in fit_piece (record { word = piece.word; place = refl }) (fit_next h)

module _ (depth : ℕ) (inner : Inner) (typings : Typings) (specifiers : Specifiers) (declarators : Declarators) (inner_sound : ExprsSound depth inner) where
  -- an expression that may be missing, behind a mark
  pub expr_found : (least : ℕ) (names : Names) (tokens : List Token) (e : Found) → least ≤ 14 → inner names least tokens ≡ Some e →
      TreeFound (λ n t. IsOptional least n (Next t Nil)) names tokens e.0 e.1
  expr_found least names tokens e small f =
      let s = inner_sound names least tokens e small f in record { holds = (s.within.tight, s.within.shape); back = record { is = s.words } }

  -- ---- enums

  value_found : (names : Names) (tokens : List Token) (name : List ℕ × List Token) (found : Found) (o : Option (List Token)) → name_at tokens ≡ Some name →
      behind_mark mark.Assign name.1 ≡ o → value_of depth inner typings specifiers declarators (first_span (record { line = 0; col = 0 }) tokens) name names o ≡ Some found →
      TreeFound IsEnumerator names tokens found.0 found.1
  value_found names tokens name found None e f g =
      rw (← same_Some _ found g) (record { holds = tt {0}; back = fit_placed (record { line = 0; col = 0 }) (word.Identifier name.0) (fit_name name e fit_none) })
  value_found names tokens name found (Some rest) e f g =
      bound (inner names 2 rest) _ found g (λ value k g2.
      let s = expr_found 2 names rest value (omega arith) k in
      rw (← same_Some _ found g2) (record {
        holds = s.holds;
        back = fit_placed (record { line = 0; col = 0 }) (word.Identifier name.0) (fit_name name e (fit_mark mark.Assign f (fit_join s.back fit_none)));
      }))

  enumerator_found : (names : Names) (tokens : List Token) (found : Found) → enumerator_at depth inner typings specifiers declarators names tokens ≡ Some found →
      TreeFound IsEnumerator names tokens found.0 found.1
  unfolding enumerator_at
  enumerator_found names tokens found e =
      bound (name_at tokens) _ found e (λ name f e2. value_found names tokens name found (behind_mark mark.Assign name.1) f refl e2)

  abbrev enumerator_behind : Names → List Token → Option Found
  enumerator_behind = behind_comma (enumerator_at depth inner typings specifiers declarators)

  pub each_with_loop : (read : Names → List Token → Option Found) (again : List Tree → Names → List Token → Several) (same_again : List Tree → Names → List Token → Several) →
      ((found : List Tree) (names : Names) (tokens : List Token) → again found names tokens ≡ same_again found names tokens) →
      (found : List Tree) (names : Names) (tokens : List Token) (o : Option Found) →
      each_with depth inner typings specifiers declarators again found names tokens o ≡ loop_with Names Tree read after same_again found names tokens o
  each_with_loop read again same_again same found names tokens None = refl
  each_with_loop read again same_again same found names tokens (Some t) = same (found ++ t.0 ∷ []) (after names t.0) t.1

  enumerators_step : (n : ℕ) → ((found : List Tree) (names : Names) (tokens : List Token) →
      enumerators depth inner typings specifiers declarators n found names tokens ≡ loop Names Tree enumerator_behind after n found names tokens) →
      (found : List Tree) (names : Names) (tokens : List Token) (o : Option (List Token)) →
      enumerators_behind depth inner typings specifiers declarators (enumerators depth inner typings specifiers declarators n) found names tokens o
      ≡ loop_with Names Tree enumerator_behind after (loop Names Tree enumerator_behind after n) found names tokens
      (o >>= (λ (rest : List Token). enumerator_at depth inner typings specifiers declarators names rest))
  enumerators_step n same found names tokens None = refl
  enumerators_step n same found names tokens (Some rest) =
      each_with_loop enumerator_behind (enumerators depth inner typings specifiers declarators n) (loop Names Tree enumerator_behind after n) same found names tokens
      (enumerator_at depth inner typings specifiers declarators names rest)

  pub enumerators_loop : (n : ℕ) (found : List Tree) (names : Names) (tokens : List Token) →
      enumerators depth inner typings specifiers declarators n found names tokens ≡ loop Names Tree enumerator_behind after n found names tokens
  enumerators_loop zero found names tokens = refl
  enumerators_loop (suc n) found names tokens = enumerators_step n (λ f ns ts. enumerators_loop n f ns ts) found names tokens (behind_mark mark.Comma tokens)

  enumerators_cons : (names : Names) (t : Tree) (more : List Tree) (tokens mid rest : List Token) → enumerator_behind names tokens ≡ Some (t, mid) →
      CommasFound AreEnumerators (after names t) more mid rest → CommasFound AreEnumerators names (t ∷ more) tokens rest
  enumerators_cons names t more tokens mid rest e r =
      bound (behind_mark mark.Comma tokens) _ (t, mid) e (λ inside f g.
      let p = enumerator_found names inside (t, mid) g in
      record { each = (p.holds, r.each); back = comma_more inside mid rest tokens t (listed more) f p.back r.back })

  record EnumeratorsFound (names : Names) (tokens : List Token) (found : Several) : Type 0 where
    pub first : Tree
    pub more : List Tree
    pub same : found.0 ≡ first ∷ more
    pub each : AreEnumerators names (listed (first ∷ more))
    pub back : Fit (pieces_with_commas false (listed (first ∷ more))) tokens found.1

  enumerators_found : (names : Names) (tokens : List Token) (t : Found) (n : ℕ) → enumerator_at depth inner typings specifiers declarators names tokens ≡ Some t →
      EnumeratorsFound names tokens (enumerators depth inner typings specifiers declarators n (t.0 ∷ []) (after names t.0) t.1)
  enumerators_found names tokens t n e =
      let p = enumerator_found names tokens t e in
      let r = loop_sound Names Tree enumerator_behind after (CommasFound AreEnumerators) (λ ns start. record { each = tt; back = fit_none })
      enumerators_cons n (t.0 ∷ []) (after names t.0) t.1 in
      let c = r.holds in
      rw (enumerators_loop n (t.0 ∷ []) (after names t.0) t.1) (record {
        first = t.0;
        more = r.more;
        same = r.same;
        each = (p.holds, c.each);
        back = fit_join p.back c.back;
      })

  abbrev SpecifierBehind : Purpose → Before → Names → Span → Word → List Token → Found → Type 0
  SpecifierBehind purpose before names span w tokens found = TreeBehind (λ n t. IsSpecifier purpose n before t) names span w tokens found.0 found.1

  -- the end of an enum behind what was found
  brace_found : (purpose : Purpose) (before : Before) (names : Names) (span : Span) (tag : Option (List ℕ)) (start inside open_at tokens behind : List Token) (all : List Tree) (comma : Bool) (found : Found) (first : Tree) (more : List Tree) →
      all ≡ first ∷ more → AreEnumerators names (listed (first ∷ more)) → Fit (pieces_of_tag tag) start open_at → behind_mark mark.OpenBrace open_at ≡ Some inside →
      Fit (pieces_with_commas false (listed (first ∷ more))) inside tokens → Fit (pieces_where comma (sign mark.Comma ∷ [])) tokens behind →
      (behind_mark mark.CloseBrace behind >>= (λ (rest : List Token). Some (record { 0 = Enum span tag (listed all) comma; 1 = rest }))) ≡ Some found →
      SpecifierBehind purpose before names span (word.Keyword key.Enum) start found
  brace_found purpose before names span tag start inside open_at tokens behind all comma found first more same ok t o h k e =
      bound (behind_mark mark.CloseBrace behind) _ found e (λ rest f e2.
      rw (← same_Some _ found e2, same) (record {
        holds = (tt {0}, ok);
        begins = record { more = _; same = refl; back = fit_join (fit_join (fit_join t (fit_mark mark.OpenBrace o h)) k) (fit_mark mark.CloseBrace f fit_none) };
      }))

  enum_end_found : (purpose : Purpose) (before : Before) (names : Names) (span : Span) (tag : Option (List ℕ)) (start inside open_at : List Token) (several : Several) (found : Found) (o : Option (List Token)) →
      EnumeratorsFound names inside several → Fit (pieces_of_tag tag) start open_at → behind_mark mark.OpenBrace open_at ≡ Some inside → behind_mark mark.Comma several.1 ≡ o →
      enum_end depth inner typings specifiers declarators span tag several o ≡ Some found → SpecifierBehind purpose before names span (word.Keyword key.Enum) start found
  enum_end_found purpose before names span tag start inside open_at several found None p t f g e =
      brace_found purpose before names span tag start inside open_at several.1 several.1 several.0 false found p.first p.more p.same p.each t f p.back fit_none e
  enum_end_found purpose before names span tag start inside open_at several found (Some behind) p t f g e =
      brace_found purpose before names span tag start inside open_at several.1 behind several.0 true found p.first p.more p.same p.each t f p.back (fit_mark mark.Comma g fit_none) e

  constants_found : (purpose : Purpose) (before : Before) (names : Names) (span : Span) (tag : Option (List ℕ)) (start inside open_at : List Token) (found : Found) →
      Fit (pieces_of_tag tag) start open_at → behind_mark mark.OpenBrace open_at ≡ Some inside →
      constants_at depth inner typings specifiers declarators span tag names inside ≡ Some found →
      SpecifierBehind purpose before names span (word.Keyword key.Enum) start found
  unfolding constants_at
  constants_found purpose before names span tag start inside open_at found t o e =
      bound (enumerator_at depth inner typings specifiers declarators names inside) _ found e (λ first f e2.
      let several = enumerators depth inner typings specifiers declarators (suc (length first.1)) (first.0 ∷ []) (after names first.0) first.1 in
      enum_end_found purpose before names span tag start inside open_at several found (behind_mark mark.Comma several.1)
      (enumerators_found names inside first (suc (length first.1)) f) t o refl e2)

  enum_tagged_found : (purpose : Purpose) (before : Before) (names : Names) (span : Span) (tokens : List Token) (name : List ℕ × List Token) (found : Found) (o : Option (List Token)) →
      name_at tokens ≡ Some name → behind_mark mark.OpenBrace name.1 ≡ o → enum_tagged depth inner typings specifiers declarators span names name o ≡ Some found →
      SpecifierBehind purpose before names span (word.Keyword key.Enum) tokens found
  enum_tagged_found purpose before names span tokens name found None e f g =
      rw (← same_Some _ found g) (record { holds = tt {0}; begins = record { more = _; same = refl; back = fit_name name e fit_none } })
  enum_tagged_found purpose before names span tokens name found (Some rest) e f g =
      constants_found purpose before names span (Some name.0) tokens rest name.1 found (fit_name name e fit_none) f g

  enum_untagged_found : (purpose : Purpose) (before : Before) (names : Names) (span : Span) (tokens : List Token) (found : Found) →
      enum_untagged_at depth inner typings specifiers declarators span names tokens ≡ Some found → SpecifierBehind purpose before names span (word.Keyword key.Enum) tokens found
  unfolding enum_untagged_at
  enum_untagged_found purpose before names span tokens found e =
      bound (behind_mark mark.OpenBrace tokens) _ found e (λ rest f e2. constants_found purpose before names span None tokens rest tokens found fit_none f e2)

  pub enum_found : (purpose : Purpose) (before : Before) (names : Names) (span : Span) (tokens : List Token) (found : Found) (o : Option (List ℕ × List Token)) →
      name_at tokens ≡ o → enum_with depth inner typings specifiers declarators span names tokens o ≡ Some found →
      SpecifierBehind purpose before names span (word.Keyword key.Enum) tokens found
  enum_found purpose before names span tokens found None e f = enum_untagged_found purpose before names span tokens found f
  enum_found purpose before names span tokens found (Some name) e f =
      enum_tagged_found purpose before names span tokens name found (behind_mark mark.OpenBrace name.1) e refl f
