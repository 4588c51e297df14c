-- A piece makes a punctuator exactly where it is spelled like it.
use Rattle.std.proofs.Common.{◌≡◌, ℕ, zero, suc, ◌<◌, ◌≤◌, ◌==◌, not, Bool, true, false, cond, ◌&&◌, ◌||◌, IsTrue, List, [], ◌∷◌, ◌++◌, length, get_or, take, Option, Some, None, option_and_then, refl, sym, ◌∙◌, ap, subst, arith, length-append}
use Rattle.std.proofs.lemmas.Bool.Decides.{nat_tests}
use Rattle.c_base.specs.declared.token.Punctuator.{Punctuator}
use Rattle.c_base.specs.declared.token.Punctuator.TheVariants.{OpenBracket, CloseBracket, OpenParenthesis, CloseParenthesis, OpenBrace, CloseBrace, Dot, Arrow, Increment, Decrement, Ampersand, Star, Plus, Minus, Tilde, Exclamation, Slash, Percent, ShiftLeft, ShiftRight, Less, Greater, LessEqual, GreaterEqual, Equal, NotEqual, Caret, Bar, AndAnd, OrOr, Question, Colon, Semicolon, Ellipsis, Assign, StarAssign, SlashAssign, PercentAssign, PlusAssign, MinusAssign, ShiftLeftAssign, ShiftRightAssign, AmpersandAssign, CaretAssign, BarAssign, Comma, DotDot, Implies, Equivalent}
use Rattle.c_lex.specs.declared.state.Context.{Context}
use Rattle.c_lex.specs.declared.state.Context.TheVariants.{Code, LineAnnotation, BlockAnnotation}
use Rattle.c_lex.specs.declared.state.Quote.{Quote}
use Rattle.c_lex.specs.declared.state.Quote.TheVariants.{Character, Text}
use Rattle.c_lex.specs.declared.state.State.{State}
use Rattle.c_lex.specs.declared.state.State.TheVariants.{Start, White, Name, Backslash, AnnotationName, Number, Exponent, Mark, LessEqualEqual, LineComment, BlockComment, BlockStar, Comment, SkippedLine, Quoted, Escape, Closed, Other}
use Rattle.c_lex.specs.Bytes.{is_white, is_digit, is_letter, is_name_start, is_sign, is_exponent_letter}
use Rattle.c_lex.specs.Pieces.{is_inside, mark_in, begin_mark, begin_hash, begin_sign, begin, when, number_goes, exponent_goes, one, two, dot_goes, minus_goes, slash_goes, equal_goes, less_equal_goes, mark_goes, comment_goes, byte_of_quote, quoted_goes, step, accepts, reached, IsPiece}
use Rattle.c_lex.specs.Spellings.{spelling, last_byte, single_marks}
use Rattle.c_lex.specs.Marks.{is_allowed, IsSpelled}

-- what has been read where a punctuator has been read, or a part of one
abbrev pub IsMade : State → List ℕ → Type 0
IsMade (Start fresh) text = text ≡ []
IsMade (Mark p) text = text ≡ spelling p
IsMade LessEqualEqual text = text ≡ 60 ∷ 61 ∷ 61 ∷ []
IsMade _ text = Unit {0}

abbrev pub IsMadeNext : Option State → List ℕ → Type 0
IsMadeNext None text = Unit {0}
IsMadeNext (Some s) text = IsMade s text

pub is_byte : (b x : ℕ) → (b == x) ≡ true → b ≡ x
is_byte b x h = grind (arith, nat_tests)

-- the text with its last byte
at_end : (text : List ℕ) (b x : ℕ) → (b == x) ≡ true → text ++ b ∷ [] ≡ text ++ x ∷ []
at_end text b x h = ap (λ c. text ++ c ∷ []) (is_byte b x h)

one_byte : (b x : ℕ) → (b == x) ≡ true → b ∷ [] ≡ x ∷ []
one_byte b x h = ap (λ c. c ∷ []) (is_byte b x h)

-- punctuators of one byte
abbrev AllSingle : List Punctuator → Type 0
AllSingle [] = Unit {0}
AllSingle (p ∷ ps) = (spelling p ≡ last_byte p ∷ []) × AllSingle ps

all_single : AllSingle single_marks
all_single = (refl, (refl, (refl, (refl, (refl, (refl, (refl, (refl, (refl, (refl, (refl, (refl, (refl, (refl, (refl, (refl, (refl, (refl, (refl, (refl, (refl, (refl, (refl, (refl, tt))))))))))))))))))))))))

mark_in_made : (ps : List Punctuator) (b : ℕ) → AllSingle ps → IsMade (mark_in ps b) (b ∷ [])
unfolding mark_in
mark_in_made [] b h = tt
mark_in_made (p ∷ ps) b h = by_test (mark_in ps b) (mark_in_made ps b h.1) (b == last_byte p) refl
  where
    by_test : (s : State) → IsMade s (b ∷ []) → (t : Bool) → (b == last_byte p) ≡ t → IsMade (cond t (Mark p) s) (b ∷ [])
    by_test s k true e = one_byte b (last_byte p) e ∙ sym h.0
    by_test s k false e = k

mark_begun : (b : ℕ) → IsMade (begin_mark b) (b ∷ [])
unfolding begin_mark
mark_begun b = mark_in_made single_marks b all_single

hash_begun : (c : Context) (fresh : Bool) (text : List ℕ) → IsMade (begin_hash c fresh) text
hash_begun Code true text = tt
hash_begun Code false text = tt
hash_begun LineAnnotation fresh text = tt
hash_begun BlockAnnotation fresh text = tt

sign_begun : (c : Context) (fresh : Bool) (b : ℕ) → IsMade (begin_sign c fresh b) (b ∷ [])
unfolding begin_sign
sign_begun c fresh b = by_tests (b == 34) (b == 39) (b == 92) (b == 64) (b == 35) (is_inside c) (begin_hash c fresh) (begin_mark b) (hash_begun c fresh _) (mark_begun b)
  where
    by_tests : (text quote slash at hash inside : Bool) (s t : State) → IsMade s (b ∷ []) → IsMade t (b ∷ []) →
        IsMade (cond text (Quoted Text) (cond quote (Quoted Character) (cond slash (cond inside Backslash Other) (cond at (cond inside White Other) (cond hash s t))))) (b ∷ [])
    by_tests true quote slash at hash inside s t h k = tt
    by_tests false true slash at hash inside s t h k = tt
    by_tests false false true at hash true s t h k = tt
    by_tests false false true at hash false s t h k = tt
    by_tests false false false true hash true s t h k = tt
    by_tests false false false true hash false s t h k = tt
    by_tests false false false false true inside s t h k = h
    by_tests false false false false false inside s t h k = k

begun : (c : Context) (fresh : Bool) (b : ℕ) → IsMade (begin c fresh b) (b ∷ [])
begun c fresh b = by_tests (is_white b) (is_name_start b) (is_digit b) (begin_sign c fresh b) (sign_begun c fresh b)
  where
    by_tests : (white name digit : Bool) (s : State) → IsMade s (b ∷ []) → IsMade (cond white White (cond name Name (cond digit Number s))) (b ∷ [])
    by_tests true name digit s h = tt
    by_tests false true digit s h = tt
    by_tests false false true s h = tt
    by_tests false false false s h = h

when_made : (test : Bool) (s : State) (text : List ℕ) → IsMade s text → IsMadeNext (when test s) text
when_made true s text h = h
when_made false s text h = tt

number_made : (c : Context) (b : ℕ) (dot : Bool) (text : List ℕ) → IsMadeNext (number_goes c b dot) text
unfolding number_goes
number_made c b dot text = by_tests (is_exponent_letter b) (is_letter b || is_digit b) (b == 46 && not (dot && is_inside c))
  where
    by_tests : (letter digit point : Bool) → IsMadeNext (cond letter (Some Exponent) (cond digit (Some Number) (when point Number))) text
    by_tests true digit point = tt
    by_tests false true point = tt
    by_tests false false true = tt
    by_tests false false false = tt

exponent_made : (c : Context) (b : ℕ) (dot : Bool) (text : List ℕ) → IsMadeNext (exponent_goes c b dot) text
unfolding exponent_goes
exponent_made c b dot text = by_test (is_sign b) (number_goes c b dot) (number_made c b dot text)
  where
    by_test : (sign : Bool) (o : Option State) → IsMadeNext o text → IsMadeNext (cond sign (Some Number) o) text
    by_test true o h = tt
    by_test false o h = h

one_made : (b x : ℕ) (p : Punctuator) (text : List ℕ) → text ++ x ∷ [] ≡ spelling p → IsMadeNext (one b x p) (text ++ b ∷ [])
one_made b x p text h = by_test (b == x) refl
  where
    by_test : (t : Bool) → (b == x) ≡ t → IsMadeNext (cond t (Some (Mark p)) None) (text ++ b ∷ [])
    by_test true e = at_end text b x e ∙ h
    by_test false e = tt

-- one more punctuator before others
or_made : (b x : ℕ) (p : Punctuator) (o : Option State) (text : List ℕ) → text ++ x ∷ [] ≡ spelling p → IsMadeNext o (text ++ b ∷ []) →
    IsMadeNext (cond (b == x) (Some (Mark p)) o) (text ++ b ∷ [])
or_made b x p o text h k = by_test (b == x) refl
  where
    by_test : (t : Bool) → (b == x) ≡ t → IsMadeNext (cond t (Some (Mark p)) o) (text ++ b ∷ [])
    by_test true e = at_end text b x e ∙ h
    by_test false e = k

two_made : (b x y : ℕ) (p q : Punctuator) (text : List ℕ) → text ++ x ∷ [] ≡ spelling p → text ++ y ∷ [] ≡ spelling q → IsMadeNext (two b x p y q) (text ++ b ∷ [])
two_made b x y p q text h k = or_made b x p (one b y q) text h (one_made b y q text k)

comment_made : (star : Bool) (b : ℕ) (text : List ℕ) → IsMade (comment_goes star b) text
unfolding comment_goes
comment_made star b text = by_tests (b == 42) (b == 47 && star)
  where
    by_tests : (s t : Bool) → IsMade (cond s BlockStar (cond t Comment BlockComment)) text
    by_tests true t = tt
    by_tests false true = tt
    by_tests false false = tt

quoted_made : (q : Quote) (b : ℕ) (text : List ℕ) → IsMadeNext (quoted_goes q b) text
unfolding quoted_goes
quoted_made q b text = by_tests (b == 10) (b == 92) (b == byte_of_quote q)
  where
    by_tests : (s t u : Bool) → IsMadeNext (cond s None (cond t (Some (Escape q)) (cond u (Some (Closed q)) (Some (Quoted q))))) text
    by_tests true t u = tt
    by_tests false true u = tt
    by_tests false false true = tt
    by_tests false false false = tt

dot_made : (b : ℕ) → IsMadeNext (dot_goes b) (46 ∷ b ∷ [])
unfolding dot_goes
dot_made b = by_test (is_digit b) (one b 46 DotDot) (one_made b 46 DotDot (46 ∷ []) refl)
  where
    by_test : (digit : Bool) (o : Option State) → IsMadeNext o (46 ∷ b ∷ []) → IsMadeNext (cond digit (Some Number) o) (46 ∷ b ∷ [])
    by_test true o h = tt
    by_test false o h = h

equal_made : (c : Context) (b : ℕ) → IsMadeNext (equal_goes c b) (61 ∷ 61 ∷ b ∷ [])
unfolding equal_goes
equal_made c b = by_test (is_inside c) (one b 62 Implies) (one_made b 62 Implies (61 ∷ 61 ∷ []) refl)
  where
    by_test : (inside : Bool) (o : Option State) → IsMadeNext o (61 ∷ 61 ∷ b ∷ []) → IsMadeNext (cond inside o None) (61 ∷ 61 ∷ b ∷ [])
    by_test true o h = h
    by_test false o h = tt

less_equal_made : (c : Context) (b : ℕ) → IsMadeNext (less_equal_goes c b) (60 ∷ 61 ∷ b ∷ [])
unfolding less_equal_goes
less_equal_made c b = by_tests (b == 61) (is_inside c) refl
  where
    by_tests : (t i : Bool) → (b == 61) ≡ t → IsMadeNext (when (t && i) LessEqualEqual) (60 ∷ 61 ∷ b ∷ [])
    by_tests true true e = at_end (60 ∷ 61 ∷ []) b 61 e
    by_tests true false e = tt
    by_tests false i e = tt

slash_made : (c : Context) (b : ℕ) → IsMadeNext (slash_goes c b) (47 ∷ b ∷ [])
unfolding slash_goes
slash_made c b = by_tests (b == 47) (b == 61) (b == 42) (not (is_inside c)) refl
  where
    by_tests : (line assign block code : Bool) → (b == 61) ≡ assign →
        IsMadeNext (cond line (Some LineComment) (cond assign (Some (Mark SlashAssign)) (cond block (when code BlockComment) None))) (47 ∷ b ∷ [])
    by_tests true assign block code e = tt
    by_tests false true block code e = at_end (47 ∷ []) b 61 e
    by_tests false false true true e = tt
    by_tests false false true false e = tt
    by_tests false false false code e = tt

minus_made : (b : ℕ) → IsMadeNext (minus_goes b) (45 ∷ b ∷ [])
unfolding minus_goes
minus_made b = or_made b 62 Arrow (two b 45 Decrement 61 MinusAssign) (45 ∷ []) refl (two_made b 45 61 Decrement MinusAssign (45 ∷ []) refl refl)

mark_made : (c : Context) (p : Punctuator) (b : ℕ) → IsMadeNext (mark_goes c p b) (spelling p ++ b ∷ [])
mark_made c Dot b = dot_made b
mark_made c DotDot b = one_made b 46 Ellipsis (46 ∷ 46 ∷ []) refl
mark_made c Minus b = minus_made b
mark_made c Plus b = two_made b 43 61 Increment PlusAssign (43 ∷ []) refl refl
mark_made c Ampersand b = two_made b 38 61 AndAnd AmpersandAssign (38 ∷ []) refl refl
mark_made c Bar b = two_made b 124 61 OrOr BarAssign (124 ∷ []) refl refl
mark_made c Less b = two_made b 60 61 ShiftLeft LessEqual (60 ∷ []) refl refl
mark_made c Greater b = two_made b 62 61 ShiftRight GreaterEqual (62 ∷ []) refl refl
mark_made c Star b = one_made b 61 StarAssign (42 ∷ []) refl
mark_made c Percent b = one_made b 61 PercentAssign (37 ∷ []) refl
mark_made c Caret b = one_made b 61 CaretAssign (94 ∷ []) refl
mark_made c Exclamation b = one_made b 61 NotEqual (33 ∷ []) refl
mark_made c ShiftLeft b = one_made b 61 ShiftLeftAssign (60 ∷ 60 ∷ []) refl
mark_made c ShiftRight b = one_made b 61 ShiftRightAssign (62 ∷ 62 ∷ []) refl
mark_made c Assign b = one_made b 61 Equal (61 ∷ []) refl
mark_made c Equal b = equal_made c b
mark_made c LessEqual b = less_equal_made c b
mark_made c Slash b = slash_made c b
mark_made c _ b = tt

step_made : (c : Context) (s : State) (b : ℕ) (dot : Bool) (text : List ℕ) → IsMade s text → IsMadeNext (step c s b dot) (text ++ b ∷ [])
step_made c (Start fresh) b dot text h = subst (λ (t : List ℕ). IsMade (begin c fresh b) (t ++ b ∷ [])) (sym h) (begun c fresh b)
step_made c White b dot text h = tt
step_made c Name b dot text h = when_made _ Name _ tt
step_made c Backslash b dot text h = when_made _ AnnotationName _ tt
step_made c AnnotationName b dot text h = when_made _ AnnotationName _ tt
step_made c Number b dot text h = number_made c b dot _
step_made c Exponent b dot text h = exponent_made c b dot _
step_made c (Mark p) b dot text h = subst (λ (t : List ℕ). IsMadeNext (mark_goes c p b) (t ++ b ∷ [])) (sym h) (mark_made c p b)
step_made c LessEqualEqual b dot text h =
    subst (λ (t : List ℕ). IsMadeNext (one b 62 Equivalent) (t ++ b ∷ [])) (sym h) (one_made b 62 Equivalent (60 ∷ 61 ∷ 61 ∷ []) refl)
step_made c LineComment b dot text h = when_made _ LineComment _ tt
step_made c BlockComment b dot text h = comment_made false b _
step_made c BlockStar b dot text h = comment_made true b _
step_made c Comment b dot text h = tt
step_made c SkippedLine b dot text h = when_made _ SkippedLine _ tt
step_made c (Quoted q) b dot text h = quoted_made q b _
step_made c (Escape q) b dot text h = when_made _ (Quoted q) _ tt
step_made c (Closed q) b dot text h = tt
step_made c Other b dot text h = tt

pub take_next : (bytes : List ℕ) (n : ℕ) → n < length bytes → take (suc n) bytes ≡ take n bytes ++ get_or bytes n 0 ∷ []
take_next [] n h = absurd (omega arith)
take_next (b ∷ bs) zero h = refl
take_next (b ∷ bs) (suc n) h = ap (λ t. b ∷ t) (take_next bs n (omega arith))

pub reached_made : (c : Context) (fresh : Bool) (bytes : List ℕ) (n : ℕ) → n ≤ length bytes → IsMadeNext (reached c fresh bytes n) (take n bytes)
reached_made c fresh bytes zero h = refl
reached_made c fresh bytes (suc n) h =
    rw (take_next bytes n (omega arith)) (on (reached c fresh bytes n) (reached_made c fresh bytes n (omega arith)))
  where
    on : (o : Option State) → IsMadeNext o (take n bytes) →
        IsMadeNext (option_and_then (λ s. step c s (get_or bytes n 0) (get_or bytes (suc n) 0 == 46)) o) (take n bytes ++ get_or bytes n 0 ∷ [])
    on None h = tt
    on (Some s) h = step_made c s (get_or bytes n 0) (get_or bytes (suc n) 0 == 46) (take n bytes) h

only_spelled : (p : Punctuator) (c : Context) (fresh : Bool) (bytes : List ℕ) (n : ℕ) → IsPiece c fresh bytes n (Mark p) → take n bytes ≡ spelling p
only_spelled p c fresh bytes n piece = subst (λ (o : Option State). IsMadeNext o (take n bytes)) piece.made (reached_made c fresh bytes n piece.within)

spelled_made : (p : Punctuator) (c : Context) (fresh : Bool) (rest : List ℕ) → IsTrue (is_allowed c p) →
    reached c fresh (spelling p ++ rest) (length (spelling p)) ≡ Some (Mark p)
unfolding begin_sign begin_mark mark_in dot_goes minus_goes slash_goes equal_goes less_equal_goes
spelled_made OpenBracket c fresh rest h = refl
spelled_made CloseBracket c fresh rest h = refl
spelled_made OpenParenthesis c fresh rest h = refl
spelled_made CloseParenthesis c fresh rest h = refl
spelled_made OpenBrace c fresh rest h = refl
spelled_made CloseBrace c fresh rest h = refl
spelled_made Dot c fresh rest h = refl
spelled_made Arrow c fresh rest h = refl
spelled_made Increment c fresh rest h = refl
spelled_made Decrement c fresh rest h = refl
spelled_made Ampersand c fresh rest h = refl
spelled_made Star c fresh rest h = refl
spelled_made Plus c fresh rest h = refl
spelled_made Minus c fresh rest h = refl
spelled_made Tilde c fresh rest h = refl
spelled_made Exclamation c fresh rest h = refl
spelled_made Slash c fresh rest h = refl
spelled_made Percent c fresh rest h = refl
spelled_made ShiftLeft c fresh rest h = refl
spelled_made ShiftRight c fresh rest h = refl
spelled_made Less c fresh rest h = refl
spelled_made Greater c fresh rest h = refl
spelled_made LessEqual c fresh rest h = refl
spelled_made GreaterEqual c fresh rest h = refl
spelled_made Equal c fresh rest h = refl
spelled_made NotEqual c fresh rest h = refl
spelled_made Caret c fresh rest h = refl
spelled_made Bar c fresh rest h = refl
spelled_made AndAnd c fresh rest h = refl
spelled_made OrOr c fresh rest h = refl
spelled_made Question c fresh rest h = refl
spelled_made Colon c fresh rest h = refl
spelled_made Semicolon c fresh rest h = refl
spelled_made Ellipsis c fresh rest h = refl
spelled_made Assign c fresh rest h = refl
spelled_made StarAssign c fresh rest h = refl
spelled_made SlashAssign c fresh rest h = refl
spelled_made PercentAssign c fresh rest h = refl
spelled_made PlusAssign c fresh rest h = refl
spelled_made MinusAssign c fresh rest h = refl
spelled_made ShiftLeftAssign c fresh rest h = refl
spelled_made ShiftRightAssign c fresh rest h = refl
spelled_made AmpersandAssign c fresh rest h = refl
spelled_made CaretAssign c fresh rest h = refl
spelled_made BarAssign c fresh rest h = refl
spelled_made Comma c fresh rest h = refl
spelled_made DotDot c fresh rest h = refl
spelled_made Implies Code fresh rest h = absurd (cc)
spelled_made Implies LineAnnotation fresh rest h = refl
spelled_made Implies BlockAnnotation fresh rest h = refl
spelled_made Equivalent Code fresh rest h = absurd (cc)
spelled_made Equivalent LineAnnotation fresh rest h = refl
spelled_made Equivalent BlockAnnotation fresh rest h = refl

allowed_whole : (p : Punctuator) (c : Context) → IsTrue (is_allowed c p) → IsTrue (accepts c (Mark p))
allowed_whole OpenBracket c h = refl
allowed_whole CloseBracket c h = refl
allowed_whole OpenParenthesis c h = refl
allowed_whole CloseParenthesis c h = refl
allowed_whole OpenBrace c h = refl
allowed_whole CloseBrace c h = refl
allowed_whole Dot c h = refl
allowed_whole Arrow c h = refl
allowed_whole Increment c h = refl
allowed_whole Decrement c h = refl
allowed_whole Ampersand c h = refl
allowed_whole Star c h = refl
allowed_whole Plus c h = refl
allowed_whole Minus c h = refl
allowed_whole Tilde c h = refl
allowed_whole Exclamation c h = refl
allowed_whole Slash c h = refl
allowed_whole Percent c h = refl
allowed_whole ShiftLeft c h = refl
allowed_whole ShiftRight c h = refl
allowed_whole Less c h = refl
allowed_whole Greater c h = refl
allowed_whole LessEqual c h = refl
allowed_whole GreaterEqual c h = refl
allowed_whole Equal c h = refl
allowed_whole NotEqual c h = refl
allowed_whole Caret c h = refl
allowed_whole Bar c h = refl
allowed_whole AndAnd c h = refl
allowed_whole OrOr c h = refl
allowed_whole Question c h = refl
allowed_whole Colon c h = refl
allowed_whole Semicolon c h = refl
allowed_whole Ellipsis c h = refl
allowed_whole Assign c h = refl
allowed_whole StarAssign c h = refl
allowed_whole SlashAssign c h = refl
allowed_whole PercentAssign c h = refl
allowed_whole PlusAssign c h = refl
allowed_whole MinusAssign c h = refl
allowed_whole ShiftLeftAssign c h = refl
allowed_whole ShiftRightAssign c h = refl
allowed_whole AmpersandAssign c h = refl
allowed_whole CaretAssign c h = refl
allowed_whole BarAssign c h = refl
allowed_whole Comma c h = refl
allowed_whole DotDot c h = h
allowed_whole Implies c h = refl
allowed_whole Equivalent c h = refl

pub is_spelled : (p : Punctuator) → IsSpelled p
is_spelled p = record {
  only = only_spelled p;
  made = λ c fresh rest h. record {
    within = omega (arith, length-append (spelling p) rest);
    made = spelled_made p c fresh rest h;
    whole = allowed_whole p c h;
  };
}
