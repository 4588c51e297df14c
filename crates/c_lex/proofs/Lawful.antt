-- The laws of pieces.
use Rattle.std.proofs.Common.{◌≡◌, ◌⊎◌, ℕ, ◌==◌, Bool, true, false, not, cond, ◌&&◌, ◌||◌, IsTrue, List, [], ◌∷◌, ◌++◌, length, get_or, take, drop, Option, Some, None, option_and_then, refl, sym, ◌∙◌, ap, subst, inl, inr, arith}
use Rattle.std.proofs.lemmas.Bool.Decides.{nat_tests}
use Rattle.c_base.specs.declared.token.Punctuator.TheVariants.{Dot}
use Rattle.c_lex.specs.declared.state.Context.{Context}
use Rattle.c_lex.specs.declared.state.Context.TheVariants.{Code}
use Rattle.c_lex.specs.declared.state.Quote.{Quote}
use Rattle.c_lex.specs.declared.state.Quote.TheVariants.{Character, Text}
use Rattle.c_lex.specs.declared.state.State.{State}
use Rattle.c_lex.specs.declared.state.State.TheVariants.{Start, Name, Number, Exponent, Mark, LineComment, BlockComment, BlockStar, Comment, SkippedLine, Quoted, Escape, Closed}
use Rattle.c_lex.specs.Bytes.{is_white, is_digit, is_letter, is_name_start, is_name_byte, is_sign, is_exponent_letter}
use Rattle.c_lex.specs.Pieces.{is_inside, mark_in, begin_mark, begin_sign, begin, when, number_goes, exponent_goes, dot_goes, slash_goes, comment_goes, byte_of_quote, quoted_goes, step, accepts}
use Rattle.c_lex.specs.Spellings.{last_of}
use Rattle.c_lex.specs.Laws.{AllBytes, Stops, IsFront, IsName, NamesAre, goes_on, GoOn, IsNumber, NumberStops, NumbersAre, is_on_line, LineCommentsAre, IsHashLine, SkippedLinesAre, HasNoEnd, BlockCommentsAre, QuotedUnit, plain, escaped, spell_units, is_unit, AreUnits, ConstantsAre}
use Rattle.c_lex.proofs.Marking.{is_byte}
use Rattle.c_lex.proofs.Walks.{walk, walk_reaches, take_front, drop_front, Ends, is_front, front_ends}
use Rattle.c_lex.proofs.Reading.{IsRead, IsReadNext, reached_read, digit_letter, sign_letter, letter_goes}

front_read : (c : Context) (fresh : Bool) (text rest : List ℕ) (s : State) → IsFront c fresh text rest s → IsRead c fresh s text rest
front_read c fresh text rest s f =
    rw (take_front text rest, drop_front text rest) at
    (subst (λ (o : Option State). IsReadNext c fresh o (take (length text) (text ++ rest)) (drop (length text) (text ++ rest))) f.piece.made
    (reached_read c fresh (text ++ rest) (length text) f.piece.within))

-- a text that leads to a state from the start
walk_front : (c : Context) (fresh : Bool) (text rest : List ℕ) (s : State) → walk c (Start fresh) text rest ≡ Some s → IsTrue (accepts c s) → Ends c s rest → IsFront c fresh text rest s
walk_front c fresh text rest s w a e = is_front c fresh text rest s (walk_reaches c fresh text rest s w) a e

-- a state that goes on in itself while a test holds
pub record Loops (c : Context) (s : State) (test : ℕ → Bool) : Type 0 where
  pub steps : (b : ℕ) (dot : Bool) → step c s b dot ≡ when (test b) s
  pub whole : IsTrue (accepts c s)

loop_walk : (c : Context) (s : State) (test : ℕ → Bool) → Loops c s test → (bs rest : List ℕ) → AllBytes test bs → walk c s bs rest ≡ Some s
loop_walk c s test l [] rest h = refl
loop_walk c s test l (b ∷ bs) rest h =
    ap (option_and_then (λ t. walk c t bs rest)) (l.steps b (get_or (bs ++ rest) 0 0 == 46) ∙ ap (λ t. when t s) h.0) ∙ loop_walk c s test l bs rest h.1

loop_ends : (c : Context) (s : State) (test : ℕ → Bool) → Loops c s test → (rest : List ℕ) → Stops test rest → Ends c s rest
loop_ends c s test l [] h = tt
loop_ends c s test l (b ∷ bs) h = l.steps b (get_or bs 0 0 == 46) ∙ ap (λ t. when t s) h

loop_stops : (c : Context) (fresh : Bool) (s : State) (test : ℕ → Bool) → Loops c s test → (text rest : List ℕ) → IsFront c fresh text rest s → Stops test rest
loop_stops c fresh s test l text [] f = tt
loop_stops c fresh s test l text (b ∷ bs) f = by_test (test b) refl
  where
    by_test : (t : Bool) → test b ≡ t → test b ≡ false
    by_test false e = e
    by_test true e = absurd (front_ends c fresh text b bs s s f (l.steps b (get_or bs 0 0 == 46) ∙ ap (λ t. when t s) e) l.whole)

-- ---- names

name_white : (b : ℕ) → is_name_start b ≡ true → is_white b ≡ false
name_white b h = grind (arith, nat_tests)

name_begins : (c : Context) (fresh : Bool) (b : ℕ) → is_name_start b ≡ true → begin c fresh b ≡ Name
name_begins c fresh b h = let w = name_white b h in rw (w, h) refl

name_loops : (c : Context) → Loops c Name is_name_byte
name_loops c = record { steps = λ b dot. refl; whole = refl }

name_walk : (c : Context) (fresh : Bool) (text rest : List ℕ) → IsName text → walk c (Start fresh) text rest ≡ Some Name
name_walk c fresh [] rest h = absurd h
name_walk c fresh (b ∷ bs) rest h = ap (λ s. walk c s bs rest) (name_begins c fresh b h.0) ∙ loop_walk c Name is_name_byte (name_loops c) bs rest h.1

pub names_are : NamesAre
names_are c fresh text rest = (
  (λ f. (front_read c fresh text rest Name f, loop_stops c fresh Name is_name_byte (name_loops c) text rest f)),
  (λ p. walk_front c fresh text rest Name (name_walk c fresh text rest p.0) refl (loop_ends c Name is_name_byte (name_loops c) rest p.1)),
)

-- ---- comments to the end of a line

line_loops : (c : Context) → Loops c LineComment is_on_line
line_loops c = record { steps = λ b dot. refl; whole = refl }

line_begins : (c : Context) (fresh : Bool) (line rest : List ℕ) → walk c (Start fresh) (47 ∷ 47 ∷ line) rest ≡ walk c LineComment line rest
unfolding begin_sign begin_mark mark_in slash_goes
line_begins c fresh line rest = refl

pub line_comments_are : LineCommentsAre
line_comments_are c fresh text rest = (
  (λ f. (front_read c fresh text rest LineComment f, loop_stops c fresh LineComment is_on_line (line_loops c) text rest f)),
  (λ p. walk_front c fresh text rest LineComment
      (ap (λ t. walk c (Start fresh) t rest) p.0.is ∙ line_begins c fresh p.0.line rest ∙ loop_walk c LineComment is_on_line (line_loops c) p.0.line rest p.0.on_line) refl
      (loop_ends c LineComment is_on_line (line_loops c) rest p.1)),
)

hash_loops : (c : Context) → Loops c SkippedLine is_on_line
hash_loops c = record { steps = λ b dot. refl; whole = refl }

hash_begins : (line rest : List ℕ) → walk Code (Start true) (35 ∷ line) rest ≡ walk Code SkippedLine line rest
unfolding begin_sign
hash_begins line rest = refl

hash_walk : (c : Context) (fresh : Bool) (text rest : List ℕ) → c ≡ Code → fresh ≡ true → IsHashLine text → walk c (Start fresh) text rest ≡ Some SkippedLine
hash_walk c fresh text rest e f h =
    ap (λ c. walk c (Start fresh) text rest) e ∙ ap (λ f. walk Code (Start f) text rest) f ∙ ap (λ t. walk Code (Start true) t rest) h.is
    ∙ hash_begins h.line rest ∙ loop_walk Code SkippedLine is_on_line (hash_loops Code) h.line rest h.on_line

pub skipped_lines_are : SkippedLinesAre
skipped_lines_are c fresh text rest = (
  (λ f. let r = front_read c fresh text rest SkippedLine f in ((r.code, r.first), (r.line, loop_stops c fresh SkippedLine is_on_line (hash_loops c) text rest f))),
  (λ p. walk_front c fresh text rest SkippedLine (hash_walk c fresh text rest p.0.0 p.0.1 p.1.0) refl (loop_ends c SkippedLine is_on_line (hash_loops c) rest p.1.1)),
)

-- ---- numbers

abbrev number_state : ℕ → State
number_state b = cond (is_exponent_letter b) Exponent Number

from_number : (letter digit point sign : Bool) → (digit || (point || (sign && false))) ≡ true →
    cond letter (Some Exponent) (cond digit (Some Number) (when point Number)) ≡ Some (cond letter Exponent Number)
from_number true digit point sign h = refl
from_number false true point sign h = refl
from_number false false true sign h = refl
from_number false false false true h = cc
from_number false false false false h = cc

from_exponent : (letter digit point sign : Bool) → (sign ≡ true → letter ≡ false) → (digit || (point || (sign && true))) ≡ true →
    cond sign (Some Number) (cond letter (Some Exponent) (cond digit (Some Number) (when point Number))) ≡ Some (cond letter Exponent Number)
from_exponent true digit point true f h = let e = f refl in cc
from_exponent false digit point true f h = refl
from_exponent letter digit point false f h = from_number letter digit point false h

number_step : (c : Context) (x b : ℕ) (behind : List ℕ) → IsTrue (goes_on c x b behind) → step c (number_state x) b (get_or behind 0 0 == 46) ≡ Some (number_state b)
unfolding number_goes exponent_goes
number_step c x b behind h = by_letter (is_exponent_letter x) h
  where
    by_letter : (letter : Bool) → ((is_letter b || is_digit b) || ((b == 46 && not (get_or behind 0 0 == 46 && is_inside c)) || (is_sign b && letter))) ≡ true →
        step c (cond letter Exponent Number) b (get_or behind 0 0 == 46) ≡ Some (number_state b)
    by_letter true h = from_exponent (is_exponent_letter b) (is_letter b || is_digit b) (b == 46 && not (get_or behind 0 0 == 46 && is_inside c)) (is_sign b) (sign_letter b) h
    by_letter false h = from_number (is_exponent_letter b) (is_letter b || is_digit b) (b == 46 && not (get_or behind 0 0 == 46 && is_inside c)) (is_sign b) h

none_number : (letter digit point sign : Bool) → (letter ≡ true → digit ≡ true) → (digit || (point || (sign && false))) ≡ false →
    ◌≡◌ {A = Option State} (cond letter (Some Exponent) (cond digit (Some Number) (when point Number))) None
none_number true true point sign f h = cc
none_number true false point sign f h = let e = f refl in cc
none_number false true point sign f h = cc
none_number false false true sign f h = cc
none_number false false false sign f h = refl

none_exponent : (letter digit point sign : Bool) → (letter ≡ true → digit ≡ true) → (digit || (point || (sign && true))) ≡ false →
    ◌≡◌ {A = Option State} (cond sign (Some Number) (cond letter (Some Exponent) (cond digit (Some Number) (when point Number)))) None
none_exponent letter true point true f h = cc
none_exponent letter false true true f h = cc
none_exponent letter false false true f h = cc
none_exponent letter digit point false f h = none_number letter digit point false f h

number_none : (c : Context) (x b : ℕ) (behind : List ℕ) → goes_on c x b behind ≡ false → step c (number_state x) b (get_or behind 0 0 == 46) ≡ None
unfolding number_goes exponent_goes
number_none c x b behind h = by_letter (is_exponent_letter x) h
  where
    by_letter : (letter : Bool) → ((is_letter b || is_digit b) || ((b == 46 && not (get_or behind 0 0 == 46 && is_inside c)) || (is_sign b && letter))) ≡ false →
        step c (cond letter Exponent Number) b (get_or behind 0 0 == 46) ≡ None
    by_letter true h = none_exponent (is_exponent_letter b) (is_letter b || is_digit b) (b == 46 && not (get_or behind 0 0 == 46 && is_inside c)) (is_sign b) (letter_goes b) h
    by_letter false h = none_number (is_exponent_letter b) (is_letter b || is_digit b) (b == 46 && not (get_or behind 0 0 == 46 && is_inside c)) (is_sign b) (letter_goes b) h

number_walk : (c : Context) (x : ℕ) (bs rest : List ℕ) → GoOn c x bs rest → walk c (number_state x) bs rest ≡ Some (number_state (last_of x bs))
number_walk c x [] rest h = refl
number_walk c x (b ∷ bs) rest h = ap (option_and_then (λ t. walk c t bs rest)) (number_step c x b (bs ++ rest) h.0) ∙ number_walk c b bs rest h.1

digit_white : (b : ℕ) → is_digit b ≡ true → is_white b ≡ false
digit_white b h = grind (arith, nat_tests)

digit_name : (b : ℕ) → is_digit b ≡ true → is_name_start b ≡ false
digit_name b h = grind (arith, nat_tests)

digit_begins : (c : Context) (fresh : Bool) (b : ℕ) → is_digit b ≡ true → begin c fresh b ≡ number_state b
digit_begins c fresh b h = let w = digit_white b h in let n = digit_name b h in let l = digit_letter b h in rw (w, n, h, l) refl

dot_begins : (c : Context) (fresh : Bool) → begin c fresh 46 ≡ Mark Dot
unfolding begin_sign begin_mark mark_in
dot_begins c fresh = refl

dot_digit : (c : Context) (b : ℕ) (dot : Bool) → is_digit b ≡ true → step c (Mark Dot) b dot ≡ Some (number_state b)
unfolding dot_goes
dot_digit c b dot h = let l = digit_letter b h in rw (h, l) refl

numeral_walk : (c : Context) (fresh : Bool) (text rest : List ℕ) → IsNumber c text rest → walk c (Start fresh) text rest ≡ Some (number_state (last_of 0 text))
numeral_walk c fresh [] rest h = absurd h
numeral_walk c fresh (b ∷ bs) rest h = elim h.0 [
  | inl d ↦ ap (λ s. walk c s bs rest) (digit_begins c fresh b d) ∙ number_walk c b bs rest h.1
  | inr p ↦ ap (λ b. walk c (Start fresh) (b ∷ bs) rest) p.0 ∙ ap (λ s. walk c s bs rest) (dot_begins c fresh) ∙ behind_dot bs p.1 h.1
]
  where
    behind_dot : (bs : List ℕ) → is_digit (get_or bs 0 0) ≡ true → GoOn c b bs rest → walk c (Mark Dot) bs rest ≡ Some (number_state (last_of b bs))
    behind_dot [] d g = cc
    behind_dot (y ∷ ys) d g = ap (option_and_then (λ t. walk c t ys rest)) (dot_digit c y (get_or (ys ++ rest) 0 0 == 46) d) ∙ number_walk c y ys rest g.1

number_ends : (c : Context) (x : ℕ) (rest : List ℕ) → NumberStops c x rest → Ends c (number_state x) rest
number_ends c x [] h = tt
number_ends c x (b ∷ bs) h = number_none c x b bs h

number_whole : (c : Context) (letter : Bool) → IsTrue (accepts c (cond letter Exponent Number))
number_whole c true = refl
number_whole c false = refl

number_front : (c : Context) (fresh : Bool) (text rest : List ℕ) → IsNumber c text rest → NumberStops c (last_of 0 text) rest → IsFront c fresh text rest (number_state (last_of 0 text))
number_front c fresh text rest h k =
    walk_front c fresh text rest (number_state (last_of 0 text)) (numeral_walk c fresh text rest h) (number_whole c (is_exponent_letter (last_of 0 text))) (number_ends c (last_of 0 text) rest k)

number_stops : (c : Context) (fresh : Bool) (text rest : List ℕ) → IsFront c fresh text rest (number_state (last_of 0 text)) → NumberStops c (last_of 0 text) rest
number_stops c fresh text [] f = tt
number_stops c fresh text (b ∷ bs) f = by_test (goes_on c (last_of 0 text) b bs) refl
  where
    by_test : (t : Bool) → goes_on c (last_of 0 text) b bs ≡ t → goes_on c (last_of 0 text) b bs ≡ false
    by_test false e = e
    by_test true e =
        absurd (front_ends c fresh text b bs (number_state (last_of 0 text)) (number_state b) f (number_step c (last_of 0 text) b bs e) (number_whole c (is_exponent_letter b)))

pub numbers_are : NumbersAre
numbers_are c fresh text rest = (
  (λ f. elim f [
    | inl f ↦
        let r = front_read c fresh text rest Number f in
        (r.number, number_stops c fresh text rest (subst (λ t. IsFront c fresh text rest (cond t Exponent Number)) (sym r.last) f))
    | inr f ↦
        let r = front_read c fresh text rest Exponent f in
        (r.number, number_stops c fresh text rest (subst (λ t. IsFront c fresh text rest (cond t Exponent Number)) (sym r.last) f))
  ]),
  (λ p. by_letter (is_exponent_letter (last_of 0 text)) (number_front c fresh text rest p.0 p.1)),
)
  where
    by_letter : (letter : Bool) → IsFront c fresh text rest (cond letter Exponent Number) → IsFront c fresh text rest Number ⊎ IsFront c fresh text rest Exponent
    by_letter true f = inr f
    by_letter false f = inl f

-- ---- comments

comment_begins : (fresh : Bool) (more rest : List ℕ) → walk Code (Start fresh) (47 ∷ 42 ∷ more) rest ≡ walk Code BlockComment more rest
unfolding begin_sign begin_mark mark_in slash_goes
comment_begins fresh more rest = refl

abbrev comment_state : Bool → State
comment_state star = cond star BlockStar BlockComment

comment_step : (star : Bool) (b : ℕ) (dot : Bool) → step Code (comment_state star) b dot ≡ Some (comment_goes star b)
comment_step true b dot = refl
comment_step false b dot = refl

star_goes : (star : Bool) → comment_goes star 42 ≡ BlockStar
unfolding comment_goes
star_goes star = refl

slash_ends : comment_goes true 47 ≡ Comment
unfolding comment_goes
slash_ends = refl

other_goes : (star : Bool) (b : ℕ) → (b == 42) ≡ false → (star && b == 47) ≡ false → comment_goes star b ≡ BlockComment
unfolding comment_goes
other_goes star b e f = rw e (by_tests (b == 47) star f)
  where
    by_tests : (slash star : Bool) → (star && slash) ≡ false → cond (slash && star) Comment BlockComment ≡ BlockComment
    by_tests true true f = cc
    by_tests true false f = refl
    by_tests false star f = refl

comment_walk : (star : Bool) (inner rest : List ℕ) → (star && get_or (inner ++ 42 ∷ []) 0 0 == 47) ≡ false → HasNoEnd (inner ++ 42 ∷ []) →
    walk Code (comment_state star) (inner ++ 42 ∷ 47 ∷ []) rest ≡ Some Comment
comment_walk star [] rest e h =
    ap (option_and_then (λ t. walk Code t (47 ∷ []) rest)) (comment_step star 42 _ ∙ ap Some (star_goes star))
    ∙ ap (option_and_then (λ t. walk Code t [] rest)) (ap Some slash_ends)
comment_walk star (b ∷ inner) rest e h = by_test (b == 42) refl (λ star e. comment_walk star inner rest e h.1)
  where
    by_test : (t : Bool) → (b == 42) ≡ t →
        ((star : Bool) → (star && get_or (inner ++ 42 ∷ []) 0 0 == 47) ≡ false → walk Code (comment_state star) (inner ++ 42 ∷ 47 ∷ []) rest ≡ Some Comment) →
        walk Code (comment_state star) (b ∷ (inner ++ 42 ∷ 47 ∷ [])) rest ≡ Some Comment
    by_test true f k =
        let s : comment_goes star b ≡ BlockStar = ap (comment_goes star) (is_byte b 42 f) ∙ star_goes star in
        ap (option_and_then (λ t. walk Code t (inner ++ 42 ∷ 47 ∷ []) rest)) (comment_step star b _ ∙ ap Some s)
        ∙ k true (ap (λ t. t && get_or (inner ++ 42 ∷ []) 0 0 == 47) (sym f) ∙ h.0)
    by_test false f k =
        ap (option_and_then (λ t. walk Code t (inner ++ 42 ∷ 47 ∷ []) rest)) (comment_step star b _ ∙ ap Some (other_goes star b f e)) ∙ k false refl

closed_ends : (c : Context) (s : State) → ((b : ℕ) (dot : Bool) → step c s b dot ≡ None) → (rest : List ℕ) → Ends c s rest
closed_ends c s f [] = tt
closed_ends c s f (b ∷ bs) = f b _

pub block_comments_are : BlockCommentsAre
block_comments_are c fresh text rest = (
  (λ f. let r = front_read c fresh text rest Comment f in (r.code, r.comment)),
  (λ p. walk_front c fresh text rest Comment
      (ap (λ c. walk c (Start fresh) text rest) p.0 ∙ ap (λ t. walk Code (Start fresh) t rest) p.1.is ∙ comment_begins fresh (p.1.inner ++ 42 ∷ 47 ∷ []) rest
      ∙ comment_walk false p.1.inner rest refl p.1.first) refl (closed_ends c Comment (λ b dot. refl) rest)),
)

-- ---- constants

quote_begins : (c : Context) (fresh : Bool) (q : Quote) → begin c fresh (byte_of_quote q) ≡ Quoted q
unfolding begin_sign
quote_begins c fresh Character = refl
quote_begins c fresh Text = refl

quote_closes : (q : Quote) → quoted_goes q (byte_of_quote q) ≡ Some (Closed q)
unfolding quoted_goes
quote_closes Character = refl
quote_closes Text = refl

escape_opens : (q : Quote) → quoted_goes q 92 ≡ Some (Escape q)
unfolding quoted_goes
escape_opens q = refl

plain_stays : (q : Quote) (b : ℕ) → IsTrue (is_unit q (plain b)) → quoted_goes q b ≡ Some (Quoted q)
unfolding quoted_goes
plain_stays q b h = by_tests (b == 10) (b == 92) (b == byte_of_quote q) h
  where
    by_tests : (s t u : Bool) → (not s && (not t && not u)) ≡ true → cond s None (cond t (Some (Escape q)) (cond u (Some (Closed q)) (Some (Quoted q)))) ≡ Some (Quoted q)
    by_tests true t u h = cc
    by_tests false true u h = cc
    by_tests false false true h = cc
    by_tests false false false h = refl

units_walk : (c : Context) (q : Quote) (us : List QuotedUnit) (rest : List ℕ) → AreUnits q us → walk c (Quoted q) (spell_units us ++ byte_of_quote q ∷ []) rest ≡ Some (Closed q)
units_walk c q [] rest h = ap (option_and_then (λ t. walk c t [] rest)) (quote_closes q)
units_walk c q (plain b ∷ us) rest h =
    ap (option_and_then (λ t. walk c t (spell_units us ++ byte_of_quote q ∷ []) rest)) (plain_stays q b h.0) ∙ units_walk c q us rest h.1
units_walk c q (escaped b ∷ us) rest h =
    ap (option_and_then (λ t. walk c t (b ∷ (spell_units us ++ byte_of_quote q ∷ [])) rest)) (escape_opens q)
    ∙ ap (λ t. option_and_then (λ t. walk c t (spell_units us ++ byte_of_quote q ∷ []) rest) (when t (Quoted q))) h.0 ∙ units_walk c q us rest h.1

pub constants_are : ConstantsAre
constants_are c fresh q text rest = (
  (λ f. front_read c fresh text rest (Closed q) f),
  (λ p. walk_front c fresh text rest (Closed q)
      (ap (λ t. walk c (Start fresh) t rest) p.is ∙ ap (λ s. walk c s (spell_units p.units ++ byte_of_quote q ∷ []) rest) (quote_begins c fresh q) ∙ units_walk c q p.units rest p.all) refl
      (closed_ends c (Closed q) (λ b dot. refl) rest)),
)
