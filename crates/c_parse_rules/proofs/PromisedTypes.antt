-- What the parsers of specifiers and of declarators find is what they promise.
use Rattle.std.proofs.Common.{◌≡◌, ℕ, suc, ◌<◌, ◌≤◌, Bool, true, false, cond, refl, List, Option, None, Some, sym, ap, ◌∙◌, arith}
use Rattle.std.specs.Prelude.{nat_le}
use Rattle.std.proofs.lemmas.Bool.Decides.{nat_tests}
use Rattle.std.proofs.lemmas.Option.{none-some}
use Rattle.c_base.specs.declared.number.Span.{Span}
use Rattle.c_base.specs.declared.token.Token.{Token}
use Rattle.c_tree.specs.Nesting.{nest, nest_all}
use Rattle.c_tree.specs.Spelling.{pieces, pieces_of_all}
use Rattle.c_tree.specs.Trees.{Tree, Trees, Nil, Next}
use Rattle.c_tree.specs.Views.{listed}
use Rattle.c_tree.specs.WellFormed.{Names, Before, Untyped, Purpose, AreThere, first_place}
use Rattle.c_parse_rules.specs.Declaring.{AreSpecifiersFront, AreSpecifiersParsed, EndSpecifiers, EndsDeclarator, IsDeclaratorFront, IsDeclaratorParsed}
use Rattle.c_parse_rules.specs.Measured.{where_shallow, where_all_shallow, declarator_within, specifiers_within}
use Rattle.c_parse_rules.specs.Parsers.{declarator_at, expr_at, specifier_at, specifiers_at, typing_at}
use Rattle.c_parse_rules.specs.Rules.{Found, Several}
use Rattle.c_parse_rules.specs.TypeRules.{first_span}
use Rattle.c_parse_rules.proofs.Knot.{laws}
use Rattle.c_parse_rules.proofs.types.Begins.{specifier_place}
use Rattle.c_parse_rules.proofs.types.MembersReach.{specifiers_reach}
use Rattle.c_parse_rules.proofs.types.MembersSound.{specifiers_found}
use Rattle.c_parse_rules.proofs.types.SuffixesReach.{plain_list, listed_plain}
use Rattle.c_parse_rules.proofs.types.Words.{Fit, fit_split}

-- ---- specifiers

there_is : (all : Trees) (span : Span) → first_place all ≡ Some span → AreThere all
there_is Nil span e = absurd (none-some span e)
there_is (Next t more) span e = tt

nowhere : Span
nowhere = record { line = 0; col = 0 }

specifiers_reached : (purpose : Purpose) (depth : ℕ) (names : Names) (tokens : List Token) (all : Trees) (rest : List Token) →
    AreSpecifiersFront purpose names depth tokens all rest → EndSpecifiers names all rest →
    specifiers_at (suc depth) (specifier_at (suc depth)) purpose names tokens ≡ Some (plain_list all, rest)
specifiers_reached purpose depth names tokens Nil rest front end = absurd front.there
specifiers_reached purpose depth names tokens (Next t more) rest front end =
    let d = suc depth in
    let known = (laws d).types in
    let fit : Fit (pieces_of_all (Next t more)) tokens rest = record { is = front.words } in
    let s = fit_split (pieces t) (pieces_of_all more) fit in
    let ok = front.shape in
    let small : nest_all (Next t more) ≤ depth = front.shallow in
    specifiers_reach d (expr_at d) (typing_at d) (specifier_at d) (declarator_at d) (specifier_at d) d known.specifiers_sound known.specifiers_reached
    purpose names (first_span nowhere tokens) (Next t more) tokens rest (specifier_place purpose names Untyped t nowhere tokens s.mid ok.0 s.front) ok (omega arith) fit end

pub specifiers_parsed : (purpose : Purpose) (depth : ℕ) (names : Names) (tokens : List Token) (found : Several) →
    specifiers_at (suc depth) (specifier_at (suc depth)) purpose names tokens ≡ Some found → nest_all (listed found.0) ≤ depth →
    AreSpecifiersParsed purpose names depth tokens (listed found.0) found.1
specifiers_parsed purpose depth names tokens found same small =
    let d = suc depth in
    let s = specifiers_found d (expr_at d) (typing_at d) (specifier_at d) (declarator_at d) (specifier_at d) (laws d).types.specifiers_sound purpose names tokens found same in
    let words = s.back in
    record {
      front = record { there = there_is (listed found.0) (first_span nowhere tokens) (s.place nowhere); shape = s.each; shallow = small; words = words.is };
      only = λ others left front end.
          let h : Some found ≡ Some (plain_list others, left) = sym same ∙ specifiers_reached purpose depth names tokens others left front end in
          let e : found ≡ (plain_list others, left) = cc in
          (ap (λ (x : Several). listed x.0) e ∙ listed_plain others, ap (λ (x : Several). x.1) e);
    }

pub specifiers_none : (purpose : Purpose) (depth : ℕ) (names : Names) (tokens : List Token) (plain : Option Several) →
    specifiers_at (suc depth) (specifier_at (suc depth)) purpose names tokens ≡ plain → ((f : Several) → plain ≡ Some f → depth < nest_all (listed f.0)) →
    (others : Trees) (left : List Token) → AreSpecifiersFront purpose names depth tokens others left → EndSpecifiers names others left → ⊥
specifiers_none purpose depth names tokens plain same past others left front end =
    let past_it : depth < nest_all (listed (plain_list others)) = past (plain_list others, left) (sym same ∙ specifiers_reached purpose depth names tokens others left front end) in
    let it : listed (plain_list others) ≡ others = listed_plain others in
    let deep : depth < nest_all others = rw it at past_it in
    let small : nest_all others ≤ depth = front.shallow in
    omega arith

-- ---- declarators

declarator_reached : (purpose : Purpose) (depth : ℕ) (before : Before) (names : Names) (tokens : List Token) (tree : Tree) (rest : List Token) →
    IsDeclaratorFront purpose names depth before tokens tree rest → EndsDeclarator purpose rest → declarator_at depth purpose names before tokens ≡ Some (tree, rest)
declarator_reached purpose depth before names tokens tree rest front end =
    (laws depth).types.declarators_reached purpose names before tokens tree rest (record { shape = front.shape; words = record { is = front.words } }) front.shallow end

pub declarator_parsed : (purpose : Purpose) (depth : ℕ) (before : Before) (names : Names) (tokens : List Token) (found : Found) →
    declarator_at depth purpose names before tokens ≡ Some found → nest found.0 ≤ depth → IsDeclaratorParsed purpose names depth before tokens found.0 found.1
declarator_parsed purpose depth before names tokens found same small =
    let s = (laws depth).types.declarators_sound purpose names before tokens found same in
    let words = s.words in
    record {
      front = record { shape = s.shape; shallow = small; words = words.is };
      only = λ other left front end.
          let h : Some found ≡ Some (other, left) = sym same ∙ declarator_reached purpose depth before names tokens other left front end in
          let e : found ≡ (other, left) = cc in
          (ap (λ (x : Found). x.0) e, ap (λ (x : Found). x.1) e);
    }

pub declarator_none : (purpose : Purpose) (depth : ℕ) (before : Before) (names : Names) (tokens : List Token) (plain : Option Found) →
    declarator_at depth purpose names before tokens ≡ plain → ((f : Found) → plain ≡ Some f → depth < nest f.0) →
    (other : Tree) (left : List Token) → IsDeclaratorFront purpose names depth before tokens other left → EndsDeclarator purpose left → ⊥
declarator_none purpose depth before names tokens plain same past other left front end =
    let deep : depth < nest other = past (other, left) (sym same ∙ declarator_reached purpose depth before names tokens other left front end) in
    let small : nest other ≤ depth = front.shallow in
    omega arith

-- ---- both, as far as they nest no deeper

within_true : (n depth : ℕ) → n ≤ depth → nat_le n depth ≡ true
within_true n depth h = grind (arith, nat_tests)

true_within : (n depth : ℕ) → nat_le n depth ≡ true → n ≤ depth
true_within n depth h = grind (arith, nat_tests)

-- what passes a measure
shallow_is : {A : Type 0} (n depth : ℕ) (x y : A) (b : Bool) → nat_le n depth ≡ b → cond b (Some x) None ≡ Some y → (x ≡ y) × (nat_le n depth ≡ true)
shallow_is n depth x y true k e = let same : x ≡ y = cc in (same, k)
shallow_is n depth x y false k e = absurd (none-some y e)

specifiers_measured : (purpose : Purpose) (depth : ℕ) (names : Names) (tokens : List Token) (plain : Option Several) (found : Several) →
    specifiers_at (suc depth) (specifier_at (suc depth)) purpose names tokens ≡ plain → where_all_shallow depth plain ≡ Some found →
    AreSpecifiersParsed purpose names depth tokens (listed found.0) found.1
specifiers_measured purpose depth names tokens None found same e = absurd (none-some found e)
specifiers_measured purpose depth names tokens (Some f) found same e =
    let s = shallow_is (nest_all (listed f.0)) depth f found (nat_le (nest_all (listed f.0)) depth) refl e in
    rw (← s.0) (specifiers_parsed purpose depth names tokens f same (true_within _ _ s.1))

-- the specifiers that are found are those of the tokens
pub specifiers_within_sound : (purpose : Purpose) (depth : ℕ) (names : Names) (tokens : List Token) (found : Several) →
    specifiers_within depth purpose names tokens ≡ Some found → AreSpecifiersParsed purpose names depth tokens (listed found.0) found.1
unfolding specifiers_within
specifiers_within_sound purpose depth names tokens found e = specifiers_measured purpose depth names tokens _ found refl e

-- and those of the tokens are found
pub specifiers_within_reached : (purpose : Purpose) (depth : ℕ) (names : Names) (tokens : List Token) (all : Trees) (rest : List Token) →
    AreSpecifiersFront purpose names depth tokens all rest → EndSpecifiers names all rest → specifiers_within depth purpose names tokens ≡ Some (plain_list all, rest)
unfolding specifiers_within
specifiers_within_reached purpose depth names tokens all rest front end =
    let same : listed (plain_list all) ≡ all = listed_plain all in
    let small : nat_le (nest_all (listed (plain_list all))) depth ≡ true = rw same (within_true (nest_all all) depth front.shallow) in
    rw (specifiers_reached purpose depth names tokens all rest front end, small) refl

declarator_measured : (purpose : Purpose) (depth : ℕ) (before : Before) (names : Names) (tokens : List Token) (plain : Option Found) (found : Found) →
    declarator_at depth purpose names before tokens ≡ plain → where_shallow depth plain ≡ Some found →
    IsDeclaratorParsed purpose names depth before tokens found.0 found.1
declarator_measured purpose depth before names tokens None found same e = absurd (none-some found e)
declarator_measured purpose depth before names tokens (Some f) found same e =
    let s = shallow_is (nest f.0) depth f found (nat_le (nest f.0) depth) refl e in
    rw (← s.0) (declarator_parsed purpose depth before names tokens f same (true_within _ _ s.1))

pub declarator_within_sound : (purpose : Purpose) (depth : ℕ) (before : Before) (names : Names) (tokens : List Token) (found : Found) →
    declarator_within depth purpose names before tokens ≡ Some found → IsDeclaratorParsed purpose names depth before tokens found.0 found.1
unfolding declarator_within
declarator_within_sound purpose depth before names tokens found e = declarator_measured purpose depth before names tokens _ found refl e

pub declarator_within_reached : (purpose : Purpose) (depth : ℕ) (before : Before) (names : Names) (tokens : List Token) (tree : Tree) (rest : List Token) →
    IsDeclaratorFront purpose names depth before tokens tree rest → EndsDeclarator purpose rest →
    declarator_within depth purpose names before tokens ≡ Some (tree, rest)
unfolding declarator_within
declarator_within_reached purpose depth before names tokens tree rest front end =
    let small : nat_le (nest tree) depth ≡ true = within_true (nest tree) depth front.shallow in
    rw (declarator_reached purpose depth before names tokens tree rest front end, small) refl
