-- What is read as a declarator is spelled there, and is one.
use Rattle.std.proofs.Common.{◌≡◌, ℕ, suc, ◌<◌, Bool, true, false, cond, ◌||◌, not, List, [], ◌∷◌, ◌++◌, length, Option, None, Some, refl, ◌∙◌, arith}
use Rattle.std.specs.Prelude.{nat_lt}
use Rattle.std.proofs.lemmas.Option.{cond_some, none-some, same_Some}
use Rattle.std.proofs.lemmas.Bool.Decides.{nat_tests}
use Rattle.c_base.specs.declared.number.Span.{Span}
use Rattle.c_base.specs.declared.token.Punctuator.TheVariants as mark
use Rattle.c_base.specs.declared.token.Token.{Token}
use Rattle.c_base.specs.declared.token.Word.{Word}
use Rattle.c_base.specs.declared.token.Word.TheVariants as word
use Rattle.c_tree.specs.declared.tree.Pointer.{Pointer}
use Rattle.c_tree.specs.Spelling.{pieces, pieces_of_all, pieces_of_pointers}
use Rattle.c_tree.specs.Trees.{Tree, Declarator, Absent, Declared, Group}
use Rattle.c_tree.specs.Views.{listed}
use Rattle.c_tree.specs.WellFormed.{Names, after, Purpose, ForType, ForParameter, ForName, Before, Untyped, Typed, Braced, AreSuffixes, IsCore, IsGroup, IsDeclarator, begins_typedef, is_typedef}
use Rattle.c_parse_rules.proofs.Laws.{ExprsSound, TypingsSound}
use Rattle.c_parse_rules.specs.Rules.{Found, Several, Inner}
use Rattle.c_parse_rules.specs.Tokens.{behind_mark, is_type_at}
use Rattle.c_parse_rules.specs.TypeRules.{Specifiers, Declarators, Typings, suffixes, group_at, is_close_at, begins_parameters, may_declare, core_of, core_at, core_or_none, declarator_of, where_some, declarator_behind, declarator_rule, first_span, pointers}
use Rattle.c_parse_rules.proofs.types.Begins.{head_place}
use Rattle.c_parse_rules.proofs.types.Laws.{IsDeclaratorFront, DeclaratorsSound}
use Rattle.c_parse_rules.proofs.types.Parts.{PointersFound, pointers_sound}
use Rattle.c_parse_rules.proofs.types.SuffixesSound.{TreeFound, TreeBehind, found_behind, RowFound, suffixes_found}
use Rattle.c_parse_rules.proofs.types.Words.{bound, Fit, fit_none, fit_join, fit_mark, fit_first}

-- what does not begin with a type does not begin with a typedef name
pub not_typedef : (names : Names) (t : Tree) (tokens rest : List Token) → is_type_at names tokens ≡ false → Fit (pieces t) tokens rest → begins_typedef names t ≡ false
not_typedef names (Declarator span [] (Declared place name) suffixes) [] rest e h = absurd h.is
not_typedef names (Declarator span [] (Declared place name) suffixes) (t ∷ tokens) rest e h = let piece = fit_first h in rw piece.word at e
not_typedef names (Declarator span [] _ suffixes) tokens rest e h = refl
not_typedef names (Declarator span (p ∷ more) core suffixes) tokens rest e h = refl
not_typedef names _ tokens rest e h = refl

not_true : (b : Bool) → not b ≡ true → b ≡ false
not_true true e = absurd (cc)
not_true false e = refl

left_false : (a b : Bool) → a || b ≡ false → a ≡ false
left_false true b e = absurd (cc)
left_false false b e = refl

module _ (depth : ℕ) (inner : Inner) (typings : Typings) (specifiers : Specifiers) (declarators : Declarators) (inner_sound : ExprsSound depth inner)
    (typings_sound : TypingsSound depth typings) (declarators_sound : DeclaratorsSound declarators) where
  declarable : (purpose : Purpose) (names : Names) (before : Before) (place : Span) (name : List ℕ) →
      may_declare depth inner typings specifiers declarators purpose before (is_typedef names name) ≡ true →
      IsCore purpose names before (Declared place name)
  declarable ForType names before place name e = absurd (cc)
  declarable ForParameter names Untyped place name e = not_true (is_typedef names name) e
  declarable ForParameter names Typed place name e = tt
  declarable ForParameter names Braced place name e = tt
  declarable ForName names Untyped place name e = not_true (is_typedef names name) e
  declarable ForName names Typed place name e = tt
  declarable ForName names Braced place name e = tt

  group_of : (purpose : Purpose) (names : Names) (d : Tree) (tokens rest : List Token) → begins_parameters depth inner typings specifiers declarators purpose names tokens ≡ false →
      Fit (pieces d) tokens rest → IsGroup purpose names d
  group_of ForType names d tokens rest e h = tt
  group_of ForParameter names d tokens rest e h =
      not_typedef names d tokens rest (left_false (is_type_at names tokens) (is_close_at depth inner typings specifiers declarators tokens) e) h
  group_of ForName names d tokens rest e h = tt

  abbrev CoreBehind : Purpose → Before → Names → Span → Word → List Token → Found → Type 0
  CoreBehind purpose before names span w tokens found = TreeBehind (λ n t. IsCore purpose n before t) names span w tokens found.0 found.1

  group_holds : (purpose : Purpose) (names : Names) (before : Before) (span : Span) (d : Tree) → IsGroup purpose names d → IsDeclarator purpose names before d →
      IsCore purpose names before (Group span d)
  group_holds ForType names before span d g ok = (g, ok)
  group_holds ForParameter names before span d g ok = (g, ok)
  group_holds ForName names before span d g ok = (g, ok)

  group_found : (purpose : Purpose) (names : Names) (before : Before) (span : Span) (tokens : List Token) (found : Found) →
      begins_parameters depth inner typings specifiers declarators purpose names tokens ≡ false →
      group_at depth inner typings specifiers declarators purpose names before span tokens ≡ Some found →
      CoreBehind purpose before names span (word.Punctuator mark.OpenParenthesis) tokens found
  unfolding group_at
  group_found purpose names before span tokens found untyped e =
      bound (declarators purpose names before tokens) _ found e (λ d f e2.
      bound (behind_mark mark.CloseParenthesis d.1) _ found e2 (λ rest g e3.
      let s = declarators_sound purpose names before tokens d f in
      rw (← same_Some _ found e3) (record {
        holds = group_holds purpose names before span d.0 (group_of purpose names d.0 tokens d.1 untyped s.words) s.shape;
        begins = record { more = _; same = refl; back = fit_join s.words (fit_mark mark.CloseParenthesis g fit_none) };
      })))

  parenthesis_found : (purpose : Purpose) (names : Names) (before : Before) (span : Span) (tokens : List Token) (found : Found) (b : Bool) →
      begins_parameters depth inner typings specifiers declarators purpose names tokens ≡ b →
      cond b None (group_at depth inner typings specifiers declarators purpose names before span tokens) ≡ Some found →
      CoreBehind purpose before names span (word.Punctuator mark.OpenParenthesis) tokens found
  parenthesis_found purpose names before span tokens found true e f = absurd (none-some found f)
  parenthesis_found purpose names before span tokens found false e f = group_found purpose names before span tokens found e f

  core_of_found : (purpose : Purpose) (names : Names) (before : Before) (span : Span) (tokens : List Token) (w : Word) (found : Found) →
      core_of depth inner typings specifiers declarators purpose names before span tokens w ≡ Some found → CoreBehind purpose before names span w tokens found
  core_of_found purpose names before span tokens (word.Identifier name) found e =
      let s = cond_some (may_declare depth inner typings specifiers declarators purpose before (is_typedef names name)) (record { 0 = Declared span name; 1 = tokens }) found e in
      rw (← s.1) (record {
        holds = declarable purpose names before span name s.0;
        begins = record { more = []; same = refl; back = fit_none };
      })
  core_of_found purpose names before span tokens (word.Punctuator mark.OpenParenthesis) found e =
      parenthesis_found purpose names before span tokens found (begins_parameters depth inner typings specifiers declarators purpose names tokens) refl e
  core_of_found purpose names before span tokens _ found e = absurd (none-some found e)

  abbrev CoreFound : Purpose → Before → Names → List Token → Found → Type 0
  CoreFound purpose before names tokens found = TreeFound (λ n t. IsCore purpose n before t) names tokens found.0 found.1

  core_found : (purpose : Purpose) (names : Names) (before : Before) (tokens : List Token) (found : Found) →
      core_at depth inner typings specifiers declarators purpose names before tokens ≡ Some found → CoreFound purpose before names tokens found
  core_found purpose names before [] found e = absurd (none-some found e)
  core_found purpose names before (t ∷ tokens) found e =
      found_behind (λ n u. IsCore purpose n before u) names t tokens found.0 found.1 (core_of_found purpose names before t.span tokens t.word found e)

  absent_found : (purpose : Purpose) (names : Names) (before : Before) (tokens : List Token) (found : Found) → IsCore purpose names before Absent →
      Some (record { 0 = Absent; 1 = tokens }) ≡ Some found →
      CoreFound purpose before names tokens found
  absent_found purpose names before tokens found ok e = rw (← same_Some _ found e) (record { holds = ok; back = fit_none })

  core_or_found : (purpose : Purpose) (names : Names) (before : Before) (tokens : List Token) (found : Found) (o : Option Found) →
      core_at depth inner typings specifiers declarators purpose names before tokens ≡ o → core_or_none depth inner typings specifiers declarators purpose tokens o ≡ Some found →
      CoreFound purpose before names tokens found
  core_or_found purpose names before tokens found (Some core) e f = core_found purpose names before tokens found (e ∙ f)
  core_or_found ForName names before tokens found None e f = absurd (none-some found f)
  core_or_found ForType names before tokens found None e f = absent_found ForType names before tokens found tt f
  core_or_found ForParameter names before tokens found None e f = absent_found ForParameter names before tokens found tt f

  declarator_behind_found : (purpose : Purpose) (names : Names) (before : Before) (tokens : List Token) (stars : List Pointer × List Token) (found : Found) →
      PointersFound tokens stars.0 stars.1 → declarator_behind depth inner typings specifiers declarators purpose names before tokens stars ≡ Some found →
      IsDeclaratorFront purpose names before tokens found.0 found.1
  unfolding declarator_behind
  declarator_behind_found purpose names before tokens stars found p e =
      bound (core_or_none depth inner typings specifiers declarators purpose stars.1 (core_at depth inner typings specifiers declarators purpose names before stars.1)) _ found e
      (λ core f e2.
      let c = core_or_found purpose names before stars.1 core (core_at depth inner typings specifiers declarators purpose names before stars.1) refl f in
      let s = suffixes_found depth inner typings specifiers declarators inner_sound typings_sound (suc (length core.1)) (after names core.0) core.1 in
      whole purpose names before tokens stars core (suffixes depth inner typings specifiers declarators (suc (length core.1)) [] (after names core.0) core.1) found p c s e2)
    where
      whole : (purpose : Purpose) (names : Names) (before : Before) (tokens : List Token) (stars : List Pointer × List Token) (core : Found) (several : Several) (found : Found) →
          PointersFound tokens stars.0 stars.1 → CoreFound purpose before names stars.1 core → RowFound AreSuffixes (after names core.0) several.0 core.1 several.1 →
          where_some depth inner typings specifiers declarators tokens
          (declarator_of depth inner typings specifiers declarators (first_span (record { line = 0; col = 0 }) tokens) stars.0 core.0 several) ≡ Some found →
          IsDeclaratorFront purpose names before tokens found.0 found.1
      whole purpose names before tokens stars core several found p c s e =
          let r = cond_some (nat_lt (length several.1) (length tokens))
          (declarator_of depth inner typings specifiers declarators (first_span (record { line = 0; col = 0 }) tokens) stars.0 core.0 several) found e in
          let test = r.0 in
          let less : length several.1 < length tokens = grind (arith, nat_tests) in
          let words : Fit (pieces_of_pointers stars.0 ++ pieces core.0 ++ pieces_of_all (listed several.0)) tokens several.1 = fit_join (fit_join p.back c.back) s.back in
          let place =
          head_place purpose names (after names core.0) before stars.0 core.0 (listed several.0) (record { line = 0; col = 0 }) tokens several.1 c.holds s.each less words in
          rw (← r.1) (record { shape = (place, p.all, c.holds, s.each); words = words })

  pub declarator_rule_sound : DeclaratorsSound (declarator_rule depth inner typings specifiers declarators)
  unfolding declarator_rule
  declarator_rule_sound purpose names before tokens found e =
      declarator_behind_found purpose names before tokens (pointers (suc (length tokens)) [] tokens) found (pointers_sound (suc (length tokens)) tokens) e
