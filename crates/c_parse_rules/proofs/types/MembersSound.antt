-- What is read as fields, as several specifiers or as members is spelled there, and is that.
use Rattle.std.proofs.Common.{◌≡◌, ℕ, zero, suc, Bool, true, false, cond, List, [], ◌∷◌, ◌++◌, length, Option, None, Some, refl, arith}
use Rattle.std.proofs.lemmas.Option.{none-some, same_Some}
use Rattle.c_base.specs.declared.number.Span.{Span}
use Rattle.c_base.specs.declared.token.Keyword.TheVariants as key
use Rattle.c_base.specs.declared.token.Punctuator.TheVariants as mark
use Rattle.c_base.specs.declared.token.Token.{Token}
use Rattle.c_base.specs.declared.token.Word.{Word}
use Rattle.c_base.specs.declared.token.Word.TheVariants as word
use Rattle.c_tree.specs.Spelling.{pieces, pieces_of_all, pieces_with_commas}
use Rattle.c_tree.specs.Trees.{Tree, Fields, Assertion, Field, Nil, Next}
use Rattle.c_tree.specs.Views.{listed}
use Rattle.c_tree.specs.WellFormed.{Names, after, after_all, Purpose, ForName, Before, Untyped, before_next, before_end, AreSpecifiers, AreFields, IsField, AreMembers, IsMember, IsDeclarator, place_of, first_place}
use Rattle.c_parse_rules.proofs.Laws.{ExprsSound}
use Rattle.c_parse_rules.specs.Rules.{Found, Several, Inner, literals}
use Rattle.c_parse_rules.specs.Tokens.{◌>>=◌, behind_mark, is_key, is_mark, literal_at}
use Rattle.c_parse_rules.specs.TypeRules.{Specifiers, Declarators, Typings, first_span, attributes_at, width_of, named_field_at, padding_at, field_at, fields_behind, fields, fields_with, specifiers_with, specifiers as specifier_rounds, some_specifiers, specifiers_at, fields_of, fields_at, assertion_at, member_at, members}
use Rattle.c_parse_rules.proofs.types.Begins.{declarator_place, specifier_place}
use Rattle.c_parse_rules.proofs.types.EnumsSound.{expr_found, each_with_loop}
use Rattle.c_parse_rules.proofs.types.Laws.{IsSpecifierFront, SpecifiersSound, DeclaratorsSound}
use Rattle.c_parse_rules.proofs.types.Loops.{loop, loop_with, loop_sound}
use Rattle.c_parse_rules.proofs.types.Parts.{attributes_sound, literals_sound, key_says, mark_says}
use Rattle.c_parse_rules.proofs.types.SuffixesSound.{behind_comma, CommasFound, comma_more, RowFound, TreeFound, TreeBehind, found_behind}
use Rattle.c_parse_rules.proofs.types.Words.{bound, Fit, fit_none, fit_join, fit_split, fit_mark, fit_literal}

-- ---- several specifiers, of which `read` reads one

abbrev pub State : Type 0
State = Before × Names

abbrev pub next_state : State → Tree → State
next_state s t = (before_next s.0 t, after s.1 t)

abbrev pub read_at : Purpose → Specifiers → State → List Token → Option Found
read_at purpose read s tokens = read purpose s.1 s.0 tokens

-- the specifiers that are read, and where they begin
pub record SpecifiersFound (purpose : Purpose) (names : Names) (tokens : List Token) (found : Several) : Type 0 where
  pub place : (other : Span) → first_place (listed found.0) ≡ Some (first_span other tokens)
  pub each : AreSpecifiers purpose names Untyped (listed found.0)
  pub back : Fit (pieces_of_all (listed found.0)) tokens found.1

record StatesFound (purpose : Purpose) (s : State) (all : List Tree) (tokens rest : List Token) : Type 0 where
  pub each : AreSpecifiers purpose s.1 s.0 (listed all)
  pub back : Fit (pieces_of_all (listed all)) tokens rest

module _ (depth : ℕ) (inner : Inner) (typings : Typings) (specifiers : Specifiers) (declarators : Declarators) where
  specifiers_step : (read : Specifiers) (purpose : Purpose) (n : ℕ) → ((before : Before) (found : List Tree) (names : Names) (tokens : List Token) →
      specifier_rounds depth inner typings specifiers declarators read n purpose before found names tokens ≡ loop State Tree (read_at purpose read) next_state n found
      (before, names) tokens) →
      (before : Before) (found : List Tree) (names : Names) (tokens : List Token) (o : Option Found) →
      specifiers_with depth inner typings specifiers declarators read (specifier_rounds depth inner typings specifiers declarators read n purpose) before found names tokens o
      ≡ loop_with State Tree (read_at purpose read) next_state (loop State Tree (read_at purpose read) next_state n) found (before, names) tokens o
  specifiers_step read purpose n same before found names tokens None = refl
  specifiers_step read purpose n same before found names tokens (Some t) = same (before_next before t.0) (found ++ t.0 ∷ []) (after names t.0) t.1

  pub specifiers_loop : (read : Specifiers) (purpose : Purpose) (n : ℕ) (before : Before) (found : List Tree) (names : Names) (tokens : List Token) →
      specifier_rounds depth inner typings specifiers declarators read n purpose before found names tokens ≡ loop State Tree (read_at purpose read) next_state n found
      (before, names) tokens
  specifiers_loop read purpose zero before found names tokens = refl
  specifiers_loop read purpose (suc n) before found names tokens =
      specifiers_step read purpose n (λ b f ns ts. specifiers_loop read purpose n b f ns ts) before found names tokens (read purpose names before tokens)

  states_found : (read : Specifiers) → SpecifiersSound read → (purpose : Purpose) (n : ℕ) (names : Names) (tokens : List Token) →
      StatesFound purpose (Untyped, names) (specifier_rounds depth inner typings specifiers declarators read n purpose Untyped [] names tokens).0 tokens
      (specifier_rounds depth inner typings specifiers declarators read n purpose Untyped [] names tokens).1
  states_found read sound purpose n names tokens =
      let r = loop_sound State Tree (read_at purpose read) next_state (StatesFound purpose) (λ s start. record { each = tt; back = fit_none })
      (λ s t more start mid rest e k. states_cons s t more start mid rest (sound purpose s.1 s.0 start (t, mid) e) k) n [] (Untyped, names) tokens in
      let found : StatesFound purpose (Untyped, names) (loop State Tree (read_at purpose read) next_state n [] (Untyped, names) tokens).0 tokens
      (loop State Tree (read_at purpose read) next_state n [] (Untyped, names) tokens).1 = rw r.same r.holds in
      rw (specifiers_loop read purpose n Untyped [] names tokens) found
    where
      states_cons : (s : State) (t : Tree) (more : List Tree) (start mid rest : List Token) → IsSpecifierFront purpose s.1 s.0 start t mid →
          StatesFound purpose (next_state s t) more mid rest →
          StatesFound purpose s (t ∷ more) start rest
      states_cons s t more start mid rest f k = record { each = (f.shape, k.each); back = fit_join f.words k.back }

  some_found : (read : Specifiers) (purpose : Purpose) (names : Names) (tokens left : List Token) (all : List Tree) (found : Several) →
      StatesFound purpose (Untyped, names) all tokens left → some_specifiers depth inner typings specifiers declarators read (all, left) ≡ Some found →
      SpecifiersFound purpose names tokens found
  some_found read purpose names tokens left [] found s e = absurd (none-some found e)
  some_found read purpose names tokens left (t ∷ more) found s e =
      let whole : SpecifiersFound purpose names tokens (t ∷ more, left) = record {
        place = λ other. first_found t more s other;
        each = s.each;
        back = s.back;
      } in
      rw (← same_Some _ found e) whole
    where
      first_found : (t : Tree) (more : List Tree) → StatesFound purpose (Untyped, names) (t ∷ more) tokens left → (other : Span) → place_of t ≡ Some (first_span other tokens)
      first_found t more s other = let p = fit_split (pieces t) (pieces_of_all (listed more)) s.back in specifier_place purpose names Untyped t other tokens p.mid s.each.0 p.front

  pub specifiers_found : (read : Specifiers) → SpecifiersSound read → (purpose : Purpose) (names : Names) (tokens : List Token) (found : Several) →
      specifiers_at depth inner typings specifiers declarators read purpose names tokens ≡ Some found → SpecifiersFound purpose names tokens found
  unfolding specifiers_at
  specifiers_found read sound purpose names tokens found e =
      let several = specifier_rounds depth inner typings specifiers declarators read (suc (length tokens)) purpose Untyped [] names tokens in
      some_found read purpose names tokens several.1 several.0 found (states_found read sound purpose (suc (length tokens)) names tokens) e

module _ (depth : ℕ) (inner : Inner) (typings : Typings) (specifiers : Specifiers) (declarators : Declarators) (inner_sound : ExprsSound depth inner)
    (specifiers_sound : SpecifiersSound specifiers) (declarators_sound : DeclaratorsSound declarators) where
  -- ---- fields

  abbrev FieldFound : Before → Names → List Token → Tree → List Token → Type 0
  FieldFound before names tokens t rest = TreeFound (λ n u. IsField n before u) names tokens t rest

  width_found : (names : Names) (before : Before) (tokens : List Token) (d found : Found) (o : Option (List Token)) →
      place_of d.0 ≡ Some (first_span (record { line = 0; col = 0 }) tokens) → IsDeclarator ForName names before d.0 → Fit (pieces d.0) tokens d.1 →
      behind_mark mark.Colon d.1 ≡ o → width_of depth inner typings specifiers declarators (first_span (record { line = 0; col = 0 }) tokens) d names o ≡ Some found →
      FieldFound before names tokens found.0 found.1
  width_found names before tokens d found None place ok h e f =
      let a = attributes_sound d.1 in
      let whole : FieldFound before names tokens (Field (first_span (record { line = 0; col = 0 }) tokens) d.0 Nil (attributes_at d.1).0) (attributes_at d.1).1 = record {
        holds = (place, ok, tt {0}, a.all);
        back = fit_join (fit_join h fit_none) a.back;
      } in
      rw (← same_Some _ found f) whole
  width_found names before tokens d found (Some rest) place ok h e f =
      bound (inner (after names d.0) 2 rest) _ found f (λ width g f2.
      let s = expr_found depth inner typings specifiers declarators inner_sound 2 (after names d.0) rest width (omega arith) g in
      let a = attributes_sound width.1 in
      let whole : FieldFound before names tokens (Field (first_span (record { line = 0; col = 0 }) tokens) d.0 (Next width.0 Nil) (attributes_at width.1).0)
      (attributes_at width.1).1 = record {
        holds = (place, ok, s.holds, a.all);
        back = fit_join (fit_join h (fit_mark mark.Colon e (fit_join s.back fit_none))) a.back;
      } in
      rw (← same_Some _ found f2) whole)

  named_found : (names : Names) (before : Before) (tokens : List Token) (found : Found) → named_field_at depth inner typings specifiers declarators names before tokens ≡ Some found →
      FieldFound before names tokens found.0 found.1
  unfolding named_field_at
  named_found names before tokens found e =
      bound (declarators ForName names before tokens) _ found e (λ d f e2.
      let s = declarators_sound ForName names before tokens d f in
      width_found names before tokens d found (behind_mark mark.Colon d.1) (declarator_place ForName names before d.0 (record { line = 0; col = 0 }) tokens d.1 s.shape s.words)
      s.shape s.words refl e2)

  padding_found : (names : Names) (before : Before) (span : Span) (tokens : List Token) (found : Found) →
      padding_at depth inner typings specifiers declarators span names tokens ≡ Some found →
      TreeBehind (λ n u. IsField n before u) names span (word.Punctuator mark.Colon) tokens found.0 found.1
  unfolding padding_at
  padding_found names before span tokens found e =
      bound (inner names 2 tokens) _ found e (λ width f e2.
      let s = expr_found depth inner typings specifiers declarators inner_sound 2 names tokens width (omega arith) f in
      rw (← same_Some _ found e2) (record { holds = s.holds; begins = record { more = _; same = refl; back = s.back } }))

  field_of_found : (names : Names) (before : Before) (t : Token) (tokens : List Token) (found : Found) (b : Bool) → is_mark mark.Colon t.word ≡ b →
      cond b (padding_at depth inner typings specifiers declarators t.span names tokens)
      (named_field_at depth inner typings specifiers declarators names before (t ∷ tokens)) ≡ Some found →
      FieldFound before names (t ∷ tokens) found.0 found.1
  field_of_found names before t tokens found true e f =
      let p = padding_found names before t.span tokens found f in
      found_behind (λ n u. IsField n before u) names t tokens found.0 found.1 (rw (mark_says mark.Colon t.word e) p)
  field_of_found names before t tokens found false e f = named_found names before (t ∷ tokens) found f

  field_found : (names : Names) (before : Before) (tokens : List Token) (found : Found) → field_at depth inner typings specifiers declarators names before tokens ≡ Some found →
      FieldFound before names tokens found.0 found.1
  field_found names before [] found e = absurd (none-some found e)
  field_found names before (t ∷ tokens) found e = field_of_found names before t tokens found (is_mark mark.Colon t.word) refl e

  abbrev field_behind : Before → Names → List Token → Option Found
  field_behind before = behind_comma (λ ns ts. field_at depth inner typings specifiers declarators ns before ts)

  fields_step : (before : Before) (n : ℕ) → ((found : List Tree) (names : Names) (tokens : List Token) →
      fields depth inner typings specifiers declarators n before found names tokens ≡ loop Names Tree (field_behind before) after n found names tokens) →
      (found : List Tree) (names : Names) (tokens : List Token) (o : Option (List Token)) →
      fields_behind depth inner typings specifiers declarators (fields depth inner typings specifiers declarators n before) before found names tokens o
      ≡ loop_with Names Tree (field_behind before) after (loop Names Tree (field_behind before) after n) found names tokens
      (o >>= (λ (rest : List Token). field_at depth inner typings specifiers declarators names before rest))
  fields_step before n same found names tokens None = refl
  fields_step before n same found names tokens (Some rest) =
      each_with_loop depth inner typings specifiers declarators inner_sound (field_behind before) (fields depth inner typings specifiers declarators n before)
      (loop Names Tree (field_behind before) after n) same found names tokens
      (field_at depth inner typings specifiers declarators names before rest)

  pub fields_loop : (before : Before) (n : ℕ) (found : List Tree) (names : Names) (tokens : List Token) →
      fields depth inner typings specifiers declarators n before found names tokens ≡ loop Names Tree (field_behind before) after n found names tokens
  fields_loop before zero found names tokens = refl
  fields_loop before (suc n) found names tokens = fields_step before n (λ f ns ts. fields_loop before n f ns ts) found names tokens (behind_mark mark.Comma tokens)

  fields_cons : (before : Before) (names : Names) (t : Tree) (more : List Tree) (tokens mid rest : List Token) → field_behind before names tokens ≡ Some (t, mid) →
      CommasFound (λ n ts. AreFields n before ts) (after names t) more mid rest → CommasFound (λ n ts. AreFields n before ts) names (t ∷ more) tokens rest
  fields_cons before names t more tokens mid rest e r =
      bound (behind_mark mark.Comma tokens) _ (t, mid) e (λ inside f g.
      let p = field_found names before inside (t, mid) g in
      record { each = (p.holds, r.each); back = comma_more inside mid rest tokens t (listed more) f p.back r.back })

  record FieldsFound (names : Names) (before : Before) (tokens : List Token) (found : Several) : Type 0 where
    pub each : AreFields names before (listed found.0)
    pub back : Fit (pieces_with_commas false (listed found.0)) tokens found.1

  fields_found : (names : Names) (before : Before) (tokens : List Token) (o : Option Found) → field_at depth inner typings specifiers declarators names before tokens ≡ o →
      FieldsFound names before tokens (fields_with depth inner typings specifiers declarators before names tokens o)
  fields_found names before tokens None e = record { each = tt {0}; back = fit_none }
  fields_found names before tokens (Some t) e =
      let p = field_found names before tokens t e in
      let r = loop_sound Names Tree (field_behind before) after (CommasFound (λ n ts. AreFields n before ts)) (λ ns start. record { each = tt; back = fit_none })
      (fields_cons before) (suc (length t.1)) (t.0 ∷ []) (after names t.0) t.1 in
      let c = r.holds in
      let all : FieldsFound names before tokens (t.0 ∷ r.more, (loop Names Tree (field_behind before) after (suc (length t.1)) (t.0 ∷ []) (after names t.0) t.1).1) = record {
        each = (p.holds, c.each);
        back = fit_join p.back c.back;
      } in
      rw (fields_loop before (suc (length t.1)) (t.0 ∷ []) (after names t.0) t.1) (fields_of_found names before tokens _ _ r.same all)
    where
      fields_of_found : (names : Names) (before : Before) (tokens : List Token) (several : Several) (all : List Tree) → several.0 ≡ all →
          FieldsFound names before tokens (all, several.1) →
          FieldsFound names before tokens several
      fields_of_found names before tokens several all same f = let each = f.each in let back = f.back in record { each = rw same each; back = rw same back }

  -- ---- members

  abbrev MemberBehind : Names → Span → Word → List Token → Found → Type 0
  MemberBehind names span w tokens found = TreeBehind IsMember names span w tokens found.0 found.1

  fields_of_found : (names : Names) (span : Span) (tokens : List Token) (found several : Several) (member : Found) → first_place (listed found.0) ≡ Some span →
      AreSpecifiers ForName names Untyped (listed found.0) → Fit (pieces_of_all (listed found.0)) tokens found.1 →
      FieldsFound (after_all names (listed found.0)) (before_end Untyped (listed found.0)) found.1 several →
      fields_of depth inner typings specifiers declarators span found several ≡ Some member →
      TreeFound IsMember names tokens member.0 member.1
  fields_of_found names span tokens found several member place ok h f e =
      bound (behind_mark mark.Semicolon several.1) _ member e (λ rest g e2.
      let whole : TreeFound IsMember names tokens (Fields span (listed found.0) (listed several.0)) rest = record {
        holds = (place, ok, f.each);
        back = fit_join (fit_join h f.back) (fit_mark mark.Semicolon g fit_none);
      } in
      rw (← same_Some _ member e2) whole)

  fields_at_found : (names : Names) (t : Token) (tokens : List Token) (member : Found) →
      fields_at depth inner typings specifiers declarators t.span names (t ∷ tokens) ≡ Some member →
      TreeFound IsMember names (t ∷ tokens) member.0 member.1
  unfolding fields_at
  fields_at_found names t tokens member e =
      bound (specifiers_at depth inner typings specifiers declarators specifiers ForName names (t ∷ tokens)) _ member e (λ found f e2.
      let s = specifiers_found depth inner typings specifiers declarators specifiers specifiers_sound ForName names (t ∷ tokens) found f in
      let several = fields_found (after_all names (listed found.0)) (before_end Untyped (listed found.0)) found.1
      (field_at depth inner typings specifiers declarators (after_all names (listed found.0)) (before_end Untyped (listed found.0)) found.1) refl in
      fields_of_found names t.span (t ∷ tokens) found _ member (s.place t.span) s.each s.back several e2)

  assertion_found : (names : Names) (span : Span) (tokens : List Token) (found : Found) → assertion_at depth inner typings specifiers declarators span names tokens ≡ Some found →
      MemberBehind names span (word.Keyword key.StaticAssert) tokens found
  unfolding assertion_at
  assertion_found names span tokens found e =
      bound (behind_mark mark.OpenParenthesis tokens) _ found e (λ inside f e2.
      bound (inner names 2 inside) _ found e2 (λ condition g e3.
      bound (behind_mark mark.Comma condition.1) _ found e3 (λ comma h e4.
      bound (literal_at comma) _ found e4 (λ bytes k e5.
      bound (behind_mark mark.CloseParenthesis (literals (suc (length bytes.1)) (bytes.0 ∷ []) bytes.1).1) _ found e5 (λ closing m e6.
      bound (behind_mark mark.Semicolon closing) _ found e6 (λ rest o e7.
      let s = expr_found depth inner typings specifiers declarators inner_sound 2 names inside condition (omega arith) g in
      let l = literals_sound (suc (length bytes.1)) (bytes.0 ∷ []) bytes.1 in
      let whole : MemberBehind names span (word.Keyword key.StaticAssert) tokens (Assertion span condition.0 (bytes.0 ∷ l.more), rest) = record {
        holds = (s.holds.0, s.holds.1, tt {0});
        begins = record {
          more = _;
          same = refl;
          back = fit_join (fit_join (fit_mark mark.OpenParenthesis f s.back) (fit_mark mark.Comma h (fit_literal bytes k l.back)))
              (fit_mark mark.CloseParenthesis m (fit_mark mark.Semicolon o fit_none));
        };
      } in
      rw (← same_Some _ found e7, l.same) whole))))))

  member_of_found : (names : Names) (t : Token) (tokens : List Token) (found : Found) (b : Bool) → is_key key.StaticAssert t.word ≡ b →
      cond b (assertion_at depth inner typings specifiers declarators t.span names tokens)
      (fields_at depth inner typings specifiers declarators t.span names (t ∷ tokens)) ≡ Some found →
      TreeFound IsMember names (t ∷ tokens) found.0 found.1
  member_of_found names t tokens found true e f =
      let a = assertion_found names t.span tokens found f in
      found_behind IsMember names t tokens found.0 found.1 (rw (key_says key.StaticAssert t.word e) a)
  member_of_found names t tokens found false e f = fields_at_found names t tokens found f

  member_found : (names : Names) (tokens : List Token) (found : Found) → member_at depth inner typings specifiers declarators names tokens ≡ Some found →
      TreeFound IsMember names tokens found.0 found.1
  member_found names [] found e = absurd (none-some found e)
  member_found names (t ∷ tokens) found e = member_of_found names t tokens found (is_key key.StaticAssert t.word) refl e

  pub members_loop : (n : ℕ) (found : List Tree) (names : Names) (tokens : List Token) →
      members depth inner typings specifiers declarators n found names tokens ≡ loop Names Tree (member_at depth inner typings specifiers declarators) after n found names tokens
  members_loop zero found names tokens = refl
  members_loop (suc n) found names tokens =
      each_with_loop depth inner typings specifiers declarators inner_sound (member_at depth inner typings specifiers declarators)
      (members depth inner typings specifiers declarators n)
      (loop Names Tree (member_at depth inner typings specifiers declarators) after n) (λ f ns ts. members_loop n f ns ts) found names tokens
      (member_at depth inner typings specifiers declarators names tokens)

  members_cons : (names : Names) (t : Tree) (more : List Tree) (tokens mid rest : List Token) → member_at depth inner typings specifiers declarators names tokens ≡ Some (t, mid) →
      RowFound AreMembers (after names t) more mid rest → RowFound AreMembers names (t ∷ more) tokens rest
  members_cons names t more tokens mid rest e r =
      let s = member_found names tokens (t, mid) e in record { each = (s.holds, r.each); back = fit_join s.back r.back }

  pub members_found : (n : ℕ) (names : Names) (tokens : List Token) →
      RowFound AreMembers names (members depth inner typings specifiers declarators n [] names tokens).0 tokens (members depth inner typings specifiers declarators n [] names tokens).1
  members_found n names tokens =
      let r =
      loop_sound Names Tree (member_at depth inner typings specifiers declarators) after (RowFound AreMembers)
      (λ ns start. record { each = tt; back = fit_none }) members_cons n [] names tokens in
      let found : RowFound AreMembers names (loop Names Tree (member_at depth inner typings specifiers declarators) after n [] names tokens).0 tokens
      (loop Names Tree (member_at depth inner typings specifiers declarators) after n [] names tokens).1 = rw r.same r.holds in
      rw (members_loop n [] names tokens) found
