-- The grammar is read exactly: trees of each sort, and units.
use Rattle.std.proofs.Common.{◌≡◌, ℕ, zero, suc, ◌+◌, ◌<◌, ◌≤◌, true, false, List, [], ◌∷◌, length, Option, None, Some, refl, sym, ◌∙◌, ap, arith}
use Rattle.std.proofs.lemmas.Option.{none-some, same_Some}
use Rattle.c_base.specs.declared.token.Token.{Token}
use Rattle.c_tree.specs.WellFormed.{Names}
use Rattle.grammar.specs.Forms.{Done, Sub, Trees}
use Rattle.grammar.specs.Promises.{IsExact}
use Rattle.grammar.specs.Reading.{Ran, Several, many, parse, run, several}
use Rattle.grammar.proofs.Exact.{exact}
use Rattle.grammar.proofs.Leading.{at_end, sub_cases, sub_takes}
use Rattle.grammar.proofs.Reach.{parse_reach, reach_all}
use Rattle.grammar.proofs.Sound.{bound, either_bound, kid_bound, parse_sound, sound_all}
use Rattle.grammar.proofs.Telling.{Behind, Follow, Good}
use Rattle.c_grammar.specs.declared.rule.Sort.TheVariants as sort
use Rattle.c_grammar.specs.Leaves.{C, Ends}
use Rattle.c_grammar.specs.Picking.{readers}
use Rattle.c_grammar.specs.Table.{table}
use Rattle.c_grammar.specs.Units.{IsUnit, NoneWhereNone, OneUnit, TakesAll, UnitsAreExact, nesting, on_token, parse_unit, unit}
use Rattle.c_grammar.proofs.Beginnings.{picked, right}
use Rattle.c_grammar.proofs.Given.{no_longer, reached, sound}
use Rattle.c_grammar.proofs.Statements.{good, tree_takes}

-- each tree that is read is spelled, and each that is spelled is read
pub trees_exact : IsExact C table readers
trees_exact = exact C table readers Ends sound reached right picked good

-- ---- units

-- no token is left
abbrev AtEnd : Follow C
AtEnd names tokens = tokens ≡ []

one_more : (tokens : List Token) (n : ℕ) → n < length tokens → (names : Names) → on_token names tokens ≡ true
one_more [] n l names = absurd (omega arith)
one_more (t ∷ tokens) n l names = refl

external_there : (F : Follow C) (names : Names) (tokens : List Token) → Behind C table (Sub sort.External Done) F names tokens → on_token names tokens ≡ true
external_there F names tokens h =
    sub_cases C table (λ s t. on_token s t ≡ true) F sort.External Done (λ t s u n r sp. one_more u (length r) (tree_takes sort.External t s u n r sp) s) names tokens h

at_last : (names : Names) (tokens : List Token) → Behind C table Done AtEnd names tokens → on_token names tokens ≡ false
at_last names tokens h = ended tokens (at_end C table AtEnd names tokens h)
  where
    ended : (tokens : List Token) → tokens ≡ [] → on_token names tokens ≡ false
    ended tokens e = rw e refl

unit_good : Good C table Ends unit AtEnd
unit_good = (
  (λ names tokens h. external_there _ names tokens h),
  at_last,
  sub_takes C table no_longer sort.External Done (tree_takes sort.External),
  tt {0},
  tt {0},
)

pub units_exact : UnitsAreExact
units_exact = λ depth tokens kids new. (
  (λ e.
      let s = sound_all C table readers sound depth (parse C table readers depth) (parse_sound C table readers sound right depth) unit [] tokens (kids, new, []) e in
      (s.spells, s.shallow)),
  (λ h.
      reach_all C table Ends readers reached depth (parse C table readers depth) (parse_reach C table Ends readers reached good picked depth) unit AtEnd unit_good kids [] tokens new [] h.0 refl h.1),
)

-- ---- all tokens are taken

last_empty : (names : Names) (tokens : List Token) → on_token names tokens ≡ false → tokens ≡ []
last_empty names [] e = refl
last_empty names (t ∷ tokens) e = absurd (cc)

all_taken : (one : Names → List Token → Option (Ran C)) (n : ℕ) (found : List (Trees C)) (names : Names) (tokens : List Token) (s : Several C) →
    many C one on_token n found names tokens ≡ Some s → s.2 ≡ []
all_taken one zero found names tokens s e = absurd (none-some s e)
all_taken one (suc n) found names tokens s e =
    either_bound (on_token names tokens) _ _ s e (λ t e2. bound (one names tokens) _ s e2 (λ r p e3. all_taken one n _ r.1 r.2 s e3))
    (λ t e2. ap (λ (x : Several C). x.2) (sym (same_Some _ s e2)) ∙ last_empty names tokens t)

several_taken : (one : Names → List Token → Option (Ran C)) (tokens : List Token) (s : Several C) → several C one on_token [] [] tokens ≡ Some s → s.2 ≡ []
unfolding several
several_taken one tokens s e = all_taken one (suc (length tokens)) [] [] tokens s e

pub takes_all : TakesAll
takes_all depth tokens x e =
    bound (several C (run C readers depth (parse C table readers depth) (Sub sort.External Done)) on_token [] [] tokens) _ x e (λ s p e2.
    kid_bound C (λ (r : Ran C). r.2 ≡ []) _ _ x e2 (λ k q.
    ap (λ (r : Ran C). r.2) (sym (same_Some _ k q)) ∙ several_taken _ tokens s p))

-- ---- one unit or none

none_of : (depth : ℕ) (tokens : List Token) (o : Option (Ran C)) → parse_unit depth tokens ≡ o → ((kids : Trees C) (new : Names) → IsUnit kids tokens new → nesting kids ≤ depth → ⊥) → o ≡ None
none_of depth tokens None e none = refl
none_of depth tokens (Some x) e none =
    let all : x.2 ≡ [] = takes_all depth tokens x e in
    let same : parse_unit depth tokens ≡ Some (x.0, x.1, []) = e ∙ ap (λ (rest : List Token). Some (record { 0 = x.0; 1 = x.1; 2 = rest })) all in
    let h = (units_exact depth tokens x.0 x.1).0 same in
    absurd (none x.0 x.1 h.0 h.1)

pub none_where_none : NoneWhereNone
none_where_none = λ depth tokens. (
  (λ e kids new is small. none-some (kids, new, []) (sym e ∙ (units_exact depth tokens kids new).1 (is, small))),
  (λ none. none_of depth tokens (parse_unit depth tokens) refl none),
)

pub one_unit : OneUnit
one_unit = λ tokens a b m n is other.
    let depth = nesting a + nesting b in
    let e : parse_unit depth tokens ≡ Some (a, m, []) = (units_exact depth tokens a m).1 (is, omega arith) in
    let f : parse_unit depth tokens ≡ Some (b, n, []) = (units_exact depth tokens b n).1 (other, omega arith) in
    let same : (a, m, []) ≡ (b, n, []) = same_Some _ _ (sym e ∙ f) in
    (ap (λ (x : Ran C). x.0) same, ap (λ (x : Ran C). x.1) same)
