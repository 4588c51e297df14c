-- What has been read in each state of the reader, in C's words.
use Rattle.std.proofs.Common.{◌≡◌, ℕ, zero, suc, ◌<◌, ◌≤◌, ◌==◌, Bool, true, false, not, cond, ◌&&◌, ◌||◌, IsTrue, List, [], ◌∷◌, ◌++◌, length, get_or, take, drop, Option, Some, None, option_and_then, refl, sym, ◌∙◌, ap, subst, inl, inr, arith, append_assoc}
use Rattle.std.proofs.lemmas.Bool.Decides.{nat_tests}
use Rattle.c_base.specs.declared.token.Punctuator.{Punctuator}
use Rattle.c_base.specs.declared.token.Punctuator.TheVariants.{Dot, Arrow, Increment, Decrement, Ampersand, Star, Plus, Minus, Exclamation, Slash, Percent, ShiftLeft, ShiftRight, Less, Greater, LessEqual, GreaterEqual, Equal, NotEqual, Caret, Bar, AndAnd, OrOr, Ellipsis, Assign, StarAssign, SlashAssign, PercentAssign, PlusAssign, MinusAssign, ShiftLeftAssign, ShiftRightAssign, AmpersandAssign, CaretAssign, BarAssign, DotDot, Implies, Equivalent}
use Rattle.c_lex.specs.declared.state.Context.{Context}
use Rattle.c_lex.specs.declared.state.Context.TheVariants.{Code, LineAnnotation, BlockAnnotation}
use Rattle.c_lex.specs.declared.state.Quote.{Quote}
use Rattle.c_lex.specs.declared.state.Quote.TheVariants.{Character, Text}
use Rattle.c_lex.specs.declared.state.State.{State}
use Rattle.c_lex.specs.declared.state.State.TheVariants.{Start, White, Name, Backslash, AnnotationName, Number, Exponent, Mark, LessEqualEqual, LineComment, BlockComment, BlockStar, Comment, SkippedLine, Quoted, Escape, Closed, Other}
use Rattle.c_lex.specs.Bytes.{is_white, is_digit, is_letter, is_name_start, is_name_byte, is_sign, is_exponent_letter}
use Rattle.c_lex.specs.Pieces.{is_inside, mark_in, begin_mark, begin_hash, begin_sign, begin, when, number_goes, exponent_goes, one, two, dot_goes, minus_goes, slash_goes, equal_goes, less_equal_goes, mark_goes, comment_goes, byte_of_quote, quoted_goes, step, reached}
use Rattle.c_lex.specs.Spellings.{last_of, single_marks, spelling}
use Rattle.c_lex.specs.Laws.{AllBytes, IsName, goes_on, GoOn, IsNumber, is_on_line, IsLineComment, IsHashLine, HasNoEnd, IsBlockComment, QuotedUnit, plain, escaped, spell_units, is_unit, AreUnits, IsConstant}
use Rattle.c_lex.proofs.Marking.{IsMade, IsMadeNext, is_byte, take_next, reached_made}
use Rattle.c_lex.proofs.Walks.{at_drop}

-- ---- what has been read

pub record IsSkipped (c : Context) (fresh : Bool) (text : List ℕ) : Type 0 where
  pub code : c ≡ Code
  pub first : fresh ≡ true
  pub line : IsHashLine text

-- a comment that is open, and whose last byte is no `*`
pub record IsOpen (c : Context) (text : List ℕ) : Type 0 where
  pub code : c ≡ Code
  pub inner : List ℕ
  pub is : text ≡ 47 ∷ 42 ∷ inner
  pub none : HasNoEnd inner
  pub last : (last_of 0 inner == 42) ≡ false

-- a comment that is open, and whose last byte is a `*`
pub record IsStarred (c : Context) (text : List ℕ) : Type 0 where
  pub code : c ≡ Code
  pub inner : List ℕ
  pub is : text ≡ 47 ∷ 42 ∷ (inner ++ 42 ∷ [])
  pub none : HasNoEnd (inner ++ 42 ∷ [])

pub record IsClosed (c : Context) (text : List ℕ) : Type 0 where
  pub code : c ≡ Code
  pub comment : IsBlockComment text

pub record IsQuoted (q : Quote) (text end : List ℕ) : Type 0 where
  pub units : List QuotedUnit
  pub is : text ≡ byte_of_quote q ∷ (spell_units units ++ end)
  pub all : AreUnits q units

pub record IsNumeral (c : Context) (letter : Bool) (text rest : List ℕ) : Type 0 where
  pub number : IsNumber c text rest
  pub last : is_exponent_letter (last_of 0 text) ≡ letter

abbrev pub IsRead : Context → Bool → State → List ℕ → List ℕ → Type 0
IsRead c fresh (Start f) text rest = f ≡ fresh
IsRead c fresh Name text rest = IsName text
IsRead c fresh Number text rest = IsNumeral c false text rest
IsRead c fresh Exponent text rest = IsNumeral c true text rest
IsRead c fresh LineComment text rest = IsLineComment text
IsRead c fresh BlockComment text rest = IsOpen c text
IsRead c fresh BlockStar text rest = IsStarred c text
IsRead c fresh Comment text rest = IsClosed c text
IsRead c fresh SkippedLine text rest = IsSkipped c fresh text
IsRead c fresh (Quoted q) text rest = IsQuoted q text []
IsRead c fresh (Escape q) text rest = IsQuoted q text (92 ∷ [])
IsRead c fresh (Closed q) text rest = IsConstant q text
IsRead c fresh _ text rest = Unit {0}

abbrev pub IsReadNext : Context → Bool → Option State → List ℕ → List ℕ → Type 0
IsReadNext c fresh None text rest = Unit {0}
IsReadNext c fresh (Some s) text rest = IsRead c fresh s text rest

-- ---- one byte more

all_more : (test : ℕ → Bool) (bs : List ℕ) (b : ℕ) → AllBytes test bs → IsTrue (test b) → AllBytes test (bs ++ b ∷ [])
all_more test [] b h e = (e, tt)
all_more test (x ∷ xs) b h e = (h.0, all_more test xs b h.1 e)

name_more : (text : List ℕ) (b : ℕ) → IsName text → IsTrue (is_name_byte b) → IsName (text ++ b ∷ [])
name_more [] b h e = absurd h
name_more (x ∷ xs) b h e = (h.0, all_more is_name_byte xs b h.1 e)

pub last_more : (x : ℕ) (bs : List ℕ) (b : ℕ) → last_of x (bs ++ b ∷ []) ≡ b
last_more x [] b = refl
last_more x (y ∷ ys) b = last_more y ys b

first_same : (bs : List ℕ) (b : ℕ) (rest : List ℕ) → get_or ((bs ++ b ∷ []) ++ rest) 0 0 ≡ get_or (bs ++ b ∷ rest) 0 0
first_same [] b rest = refl
first_same (x ∷ xs) b rest = refl

goes_same : (c : Context) (x y b : ℕ) (bs rest : List ℕ) → IsTrue (goes_on c x y (bs ++ b ∷ rest)) → IsTrue (goes_on c x y ((bs ++ b ∷ []) ++ rest))
goes_same c x y b bs rest h = subst (λ d. IsTrue ((is_letter y || is_digit y) || ((y == 46 && not (d == 46 && is_inside c)) || (is_sign y && is_exponent_letter x)))) (sym (first_same bs b rest)) h

go_more : (c : Context) (x : ℕ) (bs : List ℕ) (b : ℕ) (rest : List ℕ) → GoOn c x bs (b ∷ rest) → IsTrue (goes_on c (last_of x bs) b rest) → GoOn c x (bs ++ b ∷ []) rest
go_more c x [] b rest h e = (e, tt)
go_more c x (y ∷ ys) b rest h e = (goes_same c x y b ys rest h.0, go_more c y ys b rest h.1 e)

number_more : (c : Context) (text : List ℕ) (b : ℕ) (rest : List ℕ) → IsNumber c text (b ∷ rest) → IsTrue (goes_on c (last_of 0 text) b rest) → IsNumber c (text ++ b ∷ []) rest
number_more c [] b rest h e = absurd h
number_more c (x ∷ xs) b rest h e = (elim h.0 [ inl d ↦ inl d | inr p ↦ inr (p.0, digit_stays xs p.1) ], go_more c x xs b rest h.1 e)
  where
    digit_stays : (xs : List ℕ) → IsTrue (is_digit (get_or xs 0 0)) → IsTrue (is_digit (get_or (xs ++ b ∷ []) 0 0))
    digit_stays [] d = cc
    digit_stays (y ∷ ys) d = d

pub digit_letter : (b : ℕ) → is_digit b ≡ true → is_exponent_letter b ≡ false
digit_letter b h = grind (arith, nat_tests)

pub sign_letter : (b : ℕ) → is_sign b ≡ true → is_exponent_letter b ≡ false
sign_letter b h = grind (arith, nat_tests)

dot_letter : (b : ℕ) → (b == 46) ≡ true → is_exponent_letter b ≡ false
dot_letter b h = grind (arith, nat_tests)

pub letter_goes : (b : ℕ) → is_exponent_letter b ≡ true → (is_letter b || is_digit b) ≡ true
letter_goes b h = grind (arith, nat_tests)

numeral_more : (c : Context) (letter : Bool) (text : List ℕ) (b : ℕ) (rest : List ℕ) → IsNumber c text (b ∷ rest) → IsTrue (goes_on c (last_of 0 text) b rest) →
    is_exponent_letter b ≡ letter → IsNumeral c letter (text ++ b ∷ []) rest
numeral_more c letter text b rest h e f = record {
  number = number_more c text b rest h e;
  last = rw (last_more 0 text b) f;
}

or_left : (x y : Bool) → x ≡ true → (x || y) ≡ true
or_left true y e = refl
or_left false y e = cc

or_right : (x y : Bool) → y ≡ true → (x || y) ≡ true
or_right true y e = refl
or_right false y e = e

and_both : (x y : Bool) → x ≡ true → y ≡ true → (x && y) ≡ true
and_both true y e f = f
and_both false y e f = cc

and_first : (x y : Bool) → (x && y) ≡ true → x ≡ true
and_first true y e = refl
and_first false y e = cc

plain_goes : (c : Context) (x b : ℕ) (rest : List ℕ) → (is_letter b || is_digit b) ≡ true → IsTrue (goes_on c x b rest)
plain_goes c x b rest h = or_left (is_letter b || is_digit b) _ h

dot_on : (c : Context) (x b : ℕ) (rest : List ℕ) → (b == 46 && not (get_or rest 0 0 == 46 && is_inside c)) ≡ true → IsTrue (goes_on c x b rest)
dot_on c x b rest h = or_right (is_letter b || is_digit b) _ (or_left (b == 46 && not (get_or rest 0 0 == 46 && is_inside c)) (is_sign b && is_exponent_letter x) h)

sign_on : (c : Context) (x b : ℕ) (rest : List ℕ) → is_sign b ≡ true → is_exponent_letter x ≡ true → IsTrue (goes_on c x b rest)
sign_on c x b rest h k = or_right (is_letter b || is_digit b) _ (or_right (b == 46 && not (get_or rest 0 0 == 46 && is_inside c)) (is_sign b && is_exponent_letter x) (and_both (is_sign b) (is_exponent_letter x) h k))

number_read : (c : Context) (fresh : Bool) (text : List ℕ) (b : ℕ) (rest : List ℕ) → IsNumber c text (b ∷ rest) →
    IsReadNext c fresh (number_goes c b (get_or rest 0 0 == 46)) (text ++ b ∷ []) rest
unfolding number_goes
number_read c fresh text b rest h =
    by_tests (is_exponent_letter b) (is_letter b || is_digit b) (b == 46 && not (get_or rest 0 0 == 46 && is_inside c)) refl refl refl
  where
    by_tests : (letter digit point : Bool) → is_exponent_letter b ≡ letter → (is_letter b || is_digit b) ≡ digit → (b == 46 && not (get_or rest 0 0 == 46 && is_inside c)) ≡ point →
        IsReadNext c fresh (cond letter (Some Exponent) (cond digit (Some Number) (when point Number))) (text ++ b ∷ []) rest
    by_tests true digit point e f g = numeral_more c true text b rest h (plain_goes c (last_of 0 text) b rest (letter_goes b e)) e
    by_tests false true point e f g = numeral_more c false text b rest h (plain_goes c (last_of 0 text) b rest f) e
    by_tests false false true e f g = numeral_more c false text b rest h (dot_on c (last_of 0 text) b rest g) e
    by_tests false false false e f g = tt

exponent_read : (c : Context) (fresh : Bool) (text : List ℕ) (b : ℕ) (rest : List ℕ) → IsNumeral c true text (b ∷ rest) →
    IsReadNext c fresh (exponent_goes c b (get_or rest 0 0 == 46)) (text ++ b ∷ []) rest
unfolding exponent_goes
exponent_read c fresh text b rest h = by_test (is_sign b) refl
  where
    by_test : (sign : Bool) → is_sign b ≡ sign → IsReadNext c fresh (cond sign (Some Number) (number_goes c b (get_or rest 0 0 == 46))) (text ++ b ∷ []) rest
    by_test true e = numeral_more c false text b rest h.number (sign_on c (last_of 0 text) b rest e h.last) (sign_letter b e)
    by_test false e = number_read c fresh text b rest h.number

-- comments

no_end_more : (bs : List ℕ) (b : ℕ) → HasNoEnd bs → (last_of 0 bs == 42 && b == 47) ≡ false → HasNoEnd (bs ++ b ∷ [])
no_end_more [] b h e = (one_byte (b == 42), tt)
  where
    one_byte : (x : Bool) → (x && false) ≡ false
    one_byte true = refl
    one_byte false = refl
no_end_more (x ∷ []) b h e = (e, no_end_more [] b tt refl)
no_end_more (x ∷ y ∷ ys) b h e = (h.0, no_end_more (y ∷ ys) b h.1 e)

is_star : (b : ℕ) → (b == 42) ≡ true → b ≡ 42
is_star b e = is_byte b 42 e

open_star : (c : Context) (text : List ℕ) (b : ℕ) → IsOpen c text → (b == 42) ≡ true → IsStarred c (text ++ b ∷ [])
open_star c text b h e =
    let z : b ≡ 42 = is_star b e in
    record {
      code = h.code;
      inner = h.inner;
      is = ap (λ b. text ++ b ∷ []) z ∙ ap (λ t. t ++ 42 ∷ []) h.is;
      none = no_end_more h.inner 42 h.none (ap (λ t. t && false) h.last);
    }

open_on : (c : Context) (text : List ℕ) (b : ℕ) → IsOpen c text → (b == 42) ≡ false → IsOpen c (text ++ b ∷ [])
open_on c text b h e = record {
  code = h.code;
  inner = h.inner ++ b ∷ [];
  is = ap (λ t. t ++ b ∷ []) h.is;
  none = no_end_more h.inner b h.none (ap (λ t. t && b == 47) h.last);
  last = ap (λ x. x == 42) (last_more 0 h.inner b) ∙ e;
}

starred_star : (c : Context) (text : List ℕ) (b : ℕ) → IsStarred c text → (b == 42) ≡ true → IsStarred c (text ++ b ∷ [])
starred_star c text b h e =
    let z : b ≡ 42 = is_star b e in
    record {
      code = h.code;
      inner = h.inner ++ 42 ∷ [];
      is = ap (λ b. text ++ b ∷ []) z ∙ ap (λ t. t ++ 42 ∷ []) h.is;
      none = no_end_more (h.inner ++ 42 ∷ []) 42 h.none (no_slash (last_of 0 (h.inner ++ 42 ∷ []) == 42));
    }
  where
    no_slash : (x : Bool) → (x && false) ≡ false
    no_slash true = refl
    no_slash false = refl

starred_on : (c : Context) (text : List ℕ) (b : ℕ) → IsStarred c text → (b == 42) ≡ false → (b == 47) ≡ false → IsOpen c (text ++ b ∷ [])
starred_on c text b h e f = record {
  code = h.code;
  inner = (h.inner ++ 42 ∷ []) ++ b ∷ [];
  is = ap (λ t. t ++ b ∷ []) h.is;
  none = no_end_more (h.inner ++ 42 ∷ []) b h.none (ap (λ t. last_of 0 (h.inner ++ 42 ∷ []) == 42 && t) f ∙ no_slash (last_of 0 (h.inner ++ 42 ∷ []) == 42));
  last = ap (λ x. x == 42) (last_more 0 (h.inner ++ 42 ∷ []) b) ∙ e;
}
  where
    no_slash : (x : Bool) → (x && false) ≡ false
    no_slash true = refl
    no_slash false = refl

starred_ends : (c : Context) (text : List ℕ) (b : ℕ) → IsStarred c text → (b == 47) ≡ true → IsClosed c (text ++ b ∷ [])
starred_ends c text b h e =
    let z : b ≡ 47 = is_byte b 47 e in
    record {
      code = h.code;
      comment = record {
        inner = h.inner;
        is = ap (λ b. text ++ b ∷ []) z ∙ ap (λ t. t ++ 47 ∷ []) h.is ∙ ap (λ (t : List ℕ). 47 ∷ 42 ∷ t) (append_assoc h.inner (42 ∷ []) (47 ∷ []));
        first = h.none;
      };
    }

open_read : (c : Context) (fresh : Bool) (text : List ℕ) (b : ℕ) (rest : List ℕ) → IsOpen c text → IsRead c fresh (comment_goes false b) (text ++ b ∷ []) rest
unfolding comment_goes
open_read c fresh text b rest h = by_tests (b == 42) (b == 47) refl
  where
    by_tests : (s t : Bool) → (b == 42) ≡ s → IsRead c fresh (cond s BlockStar (cond (t && false) Comment BlockComment)) (text ++ b ∷ []) rest
    by_tests true t e = open_star c text b h e
    by_tests false true e = open_on c text b h e
    by_tests false false e = open_on c text b h e

starred_read : (c : Context) (fresh : Bool) (text : List ℕ) (b : ℕ) (rest : List ℕ) → IsStarred c text → IsRead c fresh (comment_goes true b) (text ++ b ∷ []) rest
unfolding comment_goes
starred_read c fresh text b rest h = by_tests (b == 42) (b == 47) refl refl
  where
    by_tests : (s t : Bool) → (b == 42) ≡ s → (b == 47) ≡ t → IsRead c fresh (cond s BlockStar (cond (t && true) Comment BlockComment)) (text ++ b ∷ []) rest
    by_tests true t e f = starred_star c text b h e
    by_tests false true e f = starred_ends c text b h f
    by_tests false false e f = starred_on c text b h e f

-- constants

units_more : (us : List QuotedUnit) (u : QuotedUnit) (end : List ℕ) → spell_units us ++ (spell_units (u ∷ []) ++ end) ≡ spell_units (us ++ u ∷ []) ++ end
units_more [] u end = refl
units_more (plain b ∷ us) u end = ap (λ (t : List ℕ). b ∷ t) (units_more us u end)
units_more (escaped b ∷ us) u end = ap (λ (t : List ℕ). 92 ∷ b ∷ t) (units_more us u end)

are_more : (q : Quote) (us : List QuotedUnit) (u : QuotedUnit) → AreUnits q us → IsTrue (is_unit q u) → AreUnits q (us ++ u ∷ [])
are_more q [] u h e = (e, tt)
are_more q (x ∷ us) u h e = (h.0, are_more q us u h.1 e)

quoted_ends : (q : Quote) (text : List ℕ) (b : ℕ) → IsQuoted q text [] → (b == byte_of_quote q) ≡ true → IsConstant q (text ++ b ∷ [])
quoted_ends q text b h e = record {
  units = h.units;
  is = ap (λ b. text ++ b ∷ []) (is_byte b (byte_of_quote q) e) ∙ ap (λ t. t ++ byte_of_quote q ∷ []) h.is
      ∙ ap (λ (t : List ℕ). byte_of_quote q ∷ t) (append_assoc (spell_units h.units) [] (byte_of_quote q ∷ []));
  all = h.all;
}

quoted_escape : (q : Quote) (text : List ℕ) (b : ℕ) → IsQuoted q text [] → (b == 92) ≡ true → IsQuoted q (text ++ b ∷ []) (92 ∷ [])
quoted_escape q text b h e = record {
  units = h.units;
  is = ap (λ b. text ++ b ∷ []) (is_byte b 92 e) ∙ ap (λ t. t ++ 92 ∷ []) h.is ∙ ap (λ (t : List ℕ). byte_of_quote q ∷ t) (append_assoc (spell_units h.units) [] (92 ∷ []));
  all = h.all;
}

quoted_on : (q : Quote) (text : List ℕ) (b : ℕ) → IsQuoted q text [] → IsTrue (is_unit q (plain b)) → IsQuoted q (text ++ b ∷ []) []
quoted_on q text b h e = record {
  units = h.units ++ plain b ∷ [];
  is = ap (λ t. t ++ b ∷ []) h.is ∙ ap (λ (t : List ℕ). byte_of_quote q ∷ t) (append_assoc (spell_units h.units) [] (b ∷ []) ∙ units_more h.units (plain b) []);
  all = are_more q h.units (plain b) h.all e;
}

escape_on : (q : Quote) (text : List ℕ) (b : ℕ) → IsQuoted q text (92 ∷ []) → IsTrue (is_on_line b) → IsQuoted q (text ++ b ∷ []) []
escape_on q text b h e = record {
  units = h.units ++ escaped b ∷ [];
  is = ap (λ t. t ++ b ∷ []) h.is ∙ ap (λ (t : List ℕ). byte_of_quote q ∷ t) (append_assoc (spell_units h.units) (92 ∷ []) (b ∷ []) ∙ units_more h.units (escaped b) []);
  all = are_more q h.units (escaped b) h.all e;
}

quoted_read : (c : Context) (fresh : Bool) (q : Quote) (text : List ℕ) (b : ℕ) (rest : List ℕ) → IsQuoted q text [] → IsReadNext c fresh (quoted_goes q b) (text ++ b ∷ []) rest
unfolding quoted_goes
quoted_read c fresh q text b rest h = by_tests (b == 10) (b == 92) (b == byte_of_quote q) refl refl refl
  where
    by_tests : (s t u : Bool) → (b == 10) ≡ s → (b == 92) ≡ t → (b == byte_of_quote q) ≡ u →
        IsReadNext c fresh (cond s None (cond t (Some (Escape q)) (cond u (Some (Closed q)) (Some (Quoted q))))) (text ++ b ∷ []) rest
    by_tests true t u e f g = tt
    by_tests false true u e f g = quoted_escape q text b h f
    by_tests false false true e f g = quoted_ends q text b h g
    by_tests false false false e f g = quoted_on q text b h (rw (e, f, g) refl)

-- lines

line_more : (text : List ℕ) (b : ℕ) → IsLineComment text → IsTrue (is_on_line b) → IsLineComment (text ++ b ∷ [])
line_more text b h e = record { line = h.line ++ b ∷ []; is = ap (λ t. t ++ b ∷ []) h.is; on_line = all_more is_on_line h.line b h.on_line e }

hash_more : (c : Context) (fresh : Bool) (text : List ℕ) (b : ℕ) → IsSkipped c fresh text → IsTrue (is_on_line b) → IsSkipped c fresh (text ++ b ∷ [])
hash_more c fresh text b h e = record {
  code = h.code;
  first = h.first;
  line = record { line = h.line.line ++ b ∷ []; is = ap (λ t. t ++ b ∷ []) h.line.is; on_line = all_more is_on_line h.line.line b h.line.on_line e };
}

when_read : (c : Context) (fresh : Bool) (test : Bool) (s : State) (text rest : List ℕ) → (test ≡ true → IsRead c fresh s text rest) → IsReadNext c fresh (when test s) text rest
when_read c fresh true s text rest h = h refl
when_read c fresh false s text rest h = tt

-- punctuators

or_read : (c : Context) (fresh : Bool) (t : Bool) (p : Punctuator) (o : Option State) (text rest : List ℕ) → IsReadNext c fresh o text rest →
    IsReadNext c fresh (cond t (Some (Mark p)) o) text rest
or_read c fresh true p o text rest h = tt
or_read c fresh false p o text rest h = h

one_read : (c : Context) (fresh : Bool) (b x : ℕ) (p : Punctuator) (text rest : List ℕ) → IsReadNext c fresh (one b x p) text rest
one_read c fresh b x p text rest = or_read c fresh (b == x) p None text rest tt

two_read : (c : Context) (fresh : Bool) (b x y : ℕ) (p q : Punctuator) (text rest : List ℕ) → IsReadNext c fresh (two b x p y q) text rest
two_read c fresh b x y p q text rest = or_read c fresh (b == x) p (one b y q) text rest (one_read c fresh b y q text rest)

dot_read : (c : Context) (fresh : Bool) (b : ℕ) (rest : List ℕ) → IsReadNext c fresh (dot_goes b) (46 ∷ b ∷ []) rest
unfolding dot_goes
dot_read c fresh b rest = by_test (is_digit b) refl
  where
    by_test : (digit : Bool) → is_digit b ≡ digit → IsReadNext c fresh (cond digit (Some Number) (one b 46 DotDot)) (46 ∷ b ∷ []) rest
    by_test true e = record { number = (inr (refl, e), (plain_goes c 46 b rest (or_right (is_letter b) (is_digit b) e), tt)); last = digit_letter b e }
    by_test false e = one_read c fresh b 46 DotDot (46 ∷ b ∷ []) rest

slash_read : (c : Context) (fresh : Bool) (b : ℕ) (rest : List ℕ) → IsReadNext c fresh (slash_goes c b) (47 ∷ b ∷ []) rest
unfolding slash_goes
slash_read c fresh b rest = by_tests (b == 47) (b == 61) (b == 42) refl refl
  where
    code_only : (c : Context) → not (is_inside c) ≡ true → c ≡ Code
    code_only Code e = refl
    code_only LineAnnotation e = cc
    code_only BlockAnnotation e = cc

    block : (inside : Bool) → (not inside ≡ true → c ≡ Code) → (b == 42) ≡ true → IsReadNext c fresh (when (not inside) BlockComment) (47 ∷ b ∷ []) rest
    block true f e = tt
    block false f e = record { code = f refl; inner = []; is = ap (λ (b : ℕ). 47 ∷ b ∷ []) (is_star b e); none = tt; last = refl }

    by_tests : (line assign star : Bool) → (b == 47) ≡ line → (b == 42) ≡ star →
        IsReadNext c fresh (cond line (Some LineComment) (cond assign (Some (Mark SlashAssign)) (cond star (when (not (is_inside c)) BlockComment) None))) (47 ∷ b ∷ []) rest
    by_tests true assign star e f = record { line = []; is = ap (λ (b : ℕ). 47 ∷ b ∷ []) (is_byte b 47 e); on_line = tt }
    by_tests false true star e f = tt
    by_tests false false true e f = block (is_inside c) (code_only c) f
    by_tests false false false e f = tt

minus_read : (c : Context) (fresh : Bool) (b : ℕ) (text rest : List ℕ) → IsReadNext c fresh (minus_goes b) text rest
unfolding minus_goes
minus_read c fresh b text rest = or_read c fresh (b == 62) Arrow (two b 45 Decrement 61 MinusAssign) text rest (two_read c fresh b 45 61 Decrement MinusAssign text rest)

equal_read : (c : Context) (fresh : Bool) (b : ℕ) (text rest : List ℕ) → IsReadNext c fresh (equal_goes c b) text rest
unfolding equal_goes
equal_read c fresh b text rest = by_test (is_inside c)
  where
    by_test : (inside : Bool) → IsReadNext c fresh (cond inside (one b 62 Implies) None) text rest
    by_test true = one_read c fresh b 62 Implies text rest
    by_test false = tt

less_equal_read : (c : Context) (fresh : Bool) (b : ℕ) (text rest : List ℕ) → IsReadNext c fresh (less_equal_goes c b) text rest
unfolding less_equal_goes
less_equal_read c fresh b text rest = when_read c fresh (b == 61 && is_inside c) LessEqualEqual text rest (λ e. tt)

mark_read : (c : Context) (fresh : Bool) (p : Punctuator) (b : ℕ) (rest : List ℕ) → IsReadNext c fresh (mark_goes c p b) (spelling p ++ b ∷ []) rest
mark_read c fresh Dot b rest = dot_read c fresh b rest
mark_read c fresh DotDot b rest = one_read c fresh b 46 Ellipsis _ rest
mark_read c fresh Minus b rest = minus_read c fresh b _ rest
mark_read c fresh Plus b rest = two_read c fresh b 43 61 Increment PlusAssign _ rest
mark_read c fresh Ampersand b rest = two_read c fresh b 38 61 AndAnd AmpersandAssign _ rest
mark_read c fresh Bar b rest = two_read c fresh b 124 61 OrOr BarAssign _ rest
mark_read c fresh Less b rest = two_read c fresh b 60 61 ShiftLeft LessEqual _ rest
mark_read c fresh Greater b rest = two_read c fresh b 62 61 ShiftRight GreaterEqual _ rest
mark_read c fresh Star b rest = one_read c fresh b 61 StarAssign _ rest
mark_read c fresh Percent b rest = one_read c fresh b 61 PercentAssign _ rest
mark_read c fresh Caret b rest = one_read c fresh b 61 CaretAssign _ rest
mark_read c fresh Exclamation b rest = one_read c fresh b 61 NotEqual _ rest
mark_read c fresh ShiftLeft b rest = one_read c fresh b 61 ShiftLeftAssign _ rest
mark_read c fresh ShiftRight b rest = one_read c fresh b 61 ShiftRightAssign _ rest
mark_read c fresh Assign b rest = one_read c fresh b 61 Equal _ rest
mark_read c fresh Equal b rest = equal_read c fresh b _ rest
mark_read c fresh LessEqual b rest = less_equal_read c fresh b _ rest
mark_read c fresh Slash b rest = slash_read c fresh b rest
mark_read c fresh _ b rest = tt

-- the first byte

mark_in_read : (c : Context) (fresh : Bool) (ps : List Punctuator) (b : ℕ) (rest : List ℕ) → IsRead c fresh (mark_in ps b) (b ∷ []) rest
unfolding mark_in
mark_in_read c fresh [] b rest = tt
mark_in_read c fresh (p ∷ ps) b rest = by_test (b == last_of 0 (spelling p)) (mark_in ps b) (mark_in_read c fresh ps b rest)
  where
    by_test : (t : Bool) (s : State) → IsRead c fresh s (b ∷ []) rest → IsRead c fresh (cond t (Mark p) s) (b ∷ []) rest
    by_test true s h = tt
    by_test false s h = h

mark_first : (c : Context) (fresh : Bool) (b : ℕ) (rest : List ℕ) → IsRead c fresh (begin_mark b) (b ∷ []) rest
unfolding begin_mark
mark_first c fresh b rest = mark_in_read c fresh single_marks b rest

hash_first : (c : Context) (fresh : Bool) (b : ℕ) (rest : List ℕ) → (b == 35) ≡ true → IsRead c fresh (begin_hash c fresh) (b ∷ []) rest
hash_first Code true b rest e = record { code = refl; first = refl; line = record { line = []; is = ap (λ (b : ℕ). b ∷ []) (is_byte b 35 e); on_line = tt } }
hash_first Code false b rest e = tt
hash_first LineAnnotation fresh b rest e = tt
hash_first BlockAnnotation fresh b rest e = tt

quote_first : (q : Quote) (b : ℕ) → (b == byte_of_quote q) ≡ true → IsQuoted q (b ∷ []) []
quote_first q b e = record { units = []; is = ap (λ (b : ℕ). b ∷ []) (is_byte b (byte_of_quote q) e); all = tt }

sign_first : (c : Context) (fresh : Bool) (b : ℕ) (rest : List ℕ) → IsRead c fresh (begin_sign c fresh b) (b ∷ []) rest
unfolding begin_sign
sign_first c fresh b rest = by_tests (b == 34) (b == 39) (b == 92) (b == 64) (b == 35) (is_inside c) refl refl refl
  where
    by_tests : (text quote slash at hash inside : Bool) → (b == 34) ≡ text → (b == 39) ≡ quote → (b == 35) ≡ hash →
        IsRead c fresh (cond text (Quoted Text) (cond quote (Quoted Character) (cond slash (cond inside Backslash Other) (cond at (cond inside White Other) (cond hash (begin_hash c fresh) (begin_mark b)))))) (b ∷ []) rest
    by_tests true quote slash at hash inside e f g = quote_first Text b e
    by_tests false true slash at hash inside e f g = quote_first Character b f
    by_tests false false true at hash true e f g = tt
    by_tests false false true at hash false e f g = tt
    by_tests false false false true hash true e f g = tt
    by_tests false false false true hash false e f g = tt
    by_tests false false false false true inside e f g = hash_first c fresh b rest g
    by_tests false false false false false inside e f g = mark_first c fresh b rest

first_read : (c : Context) (fresh : Bool) (b : ℕ) (rest : List ℕ) → IsRead c fresh (begin c fresh b) (b ∷ []) rest
first_read c fresh b rest = by_tests (is_white b) (is_name_start b) (is_digit b) refl refl
  where
    by_tests : (white name digit : Bool) → is_name_start b ≡ name → is_digit b ≡ digit →
        IsRead c fresh (cond white White (cond name Name (cond digit Number (begin_sign c fresh b)))) (b ∷ []) rest
    by_tests true name digit e f = tt
    by_tests false true digit e f = (e, tt)
    by_tests false false true e f = record { number = (inl f, tt); last = digit_letter b f }
    by_tests false false false e f = sign_first c fresh b rest

-- ---- all bytes

step_read : (c : Context) (fresh : Bool) (s : State) (b : ℕ) (text rest : List ℕ) → IsMade s text → IsRead c fresh s text (b ∷ rest) →
    IsReadNext c fresh (step c s b (get_or rest 0 0 == 46)) (text ++ b ∷ []) rest
step_read c fresh (Start f) b text rest m h =
    subst (λ (t : List ℕ). IsRead c fresh (begin c f b) (t ++ b ∷ []) rest) (sym m) (subst (λ f. IsRead c fresh (begin c f b) (b ∷ []) rest) (sym h) (first_read c fresh b rest))
step_read c fresh White b text rest m h = tt
step_read c fresh Name b text rest m h = when_read c fresh (is_name_byte b) Name _ rest (λ e. name_more text b h e)
step_read c fresh Backslash b text rest m h = when_read c fresh (is_name_start b) AnnotationName _ rest (λ e. tt)
step_read c fresh AnnotationName b text rest m h = when_read c fresh (is_name_byte b) AnnotationName _ rest (λ e. tt)
step_read c fresh Number b text rest m h = number_read c fresh text b rest h.number
step_read c fresh Exponent b text rest m h = exponent_read c fresh text b rest h
step_read c fresh (Mark p) b text rest m h = subst (λ (t : List ℕ). IsReadNext c fresh (mark_goes c p b) (t ++ b ∷ []) rest) (sym m) (mark_read c fresh p b rest)
step_read c fresh LessEqualEqual b text rest m h = one_read c fresh b 62 Equivalent _ rest
step_read c fresh LineComment b text rest m h = when_read c fresh (not (b == 10)) LineComment _ rest (λ e. line_more text b h e)
step_read c fresh BlockComment b text rest m h = open_read c fresh text b rest h
step_read c fresh BlockStar b text rest m h = starred_read c fresh text b rest h
step_read c fresh Comment b text rest m h = tt
step_read c fresh SkippedLine b text rest m h = when_read c fresh (not (b == 10)) SkippedLine _ rest (λ e. hash_more c fresh text b h e)
step_read c fresh (Quoted q) b text rest m h = quoted_read c fresh q text b rest h
step_read c fresh (Escape q) b text rest m h = when_read c fresh (not (b == 10)) (Quoted q) _ rest (λ e. escape_on q text b h e)
step_read c fresh (Closed q) b text rest m h = tt
step_read c fresh Other b text rest m h = tt

drop_at : (bytes : List ℕ) (n : ℕ) → n < length bytes → drop n bytes ≡ get_or bytes n 0 ∷ drop (suc n) bytes
drop_at [] n h = absurd (omega arith)
drop_at (b ∷ bs) zero h = refl
drop_at (b ∷ bs) (suc n) h = drop_at bs n (omega arith)

pub reached_read : (c : Context) (fresh : Bool) (bytes : List ℕ) (n : ℕ) → n ≤ length bytes → IsReadNext c fresh (reached c fresh bytes n) (take n bytes) (drop n bytes)
reached_read c fresh bytes zero h = refl
reached_read c fresh bytes (suc n) h =
    rw (take_next bytes n (omega arith), at_drop bytes (suc n))
    (on (reached c fresh bytes n) (reached_made c fresh bytes n (omega arith)) (reached_read c fresh bytes n (omega arith)))
  where
    on : (o : Option State) → IsMadeNext o (take n bytes) → IsReadNext c fresh o (take n bytes) (drop n bytes) →
        IsReadNext c fresh (option_and_then (λ s. step c s (get_or bytes n 0) (get_or (drop (suc n) bytes) 0 0 == 46)) o) (take n bytes ++ get_or bytes n 0 ∷ []) (drop (suc n) bytes)
    on None m h' = tt
    on (Some s) m h' = step_read c fresh s (get_or bytes n 0) (take n bytes) (drop (suc n) bytes) m (subst (IsRead c fresh s (take n bytes)) (drop_at bytes n (omega arith)) h')
