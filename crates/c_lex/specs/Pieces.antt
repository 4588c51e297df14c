-- Pieces of a file (C11 6.4): what a byte begins, how a piece goes on, and which piece is the longest.
use Rattle.std.specs.Prelude.{◌≡◌, [], ◌∷◌, ℕ, zero, suc, ◌≤◌, ◌<◌, ◌==◌, Bool, true, false, not, cond, ◌&&◌, ◌||◌, IsTrue, List, length, slice_index, Option, None, Some}
use Rattle.std.specs.Option.{option_and_then}
use Rattle.c_base.specs.declared.token.Punctuator.{Punctuator}
use Rattle.c_base.specs.declared.token.Punctuator.TheVariants.{Dot, Arrow, Increment, Decrement, Ampersand, Star, Plus, Minus, Exclamation, Slash, Percent, ShiftLeft, ShiftRight, Less, Greater, LessEqual, GreaterEqual, Equal, NotEqual, Caret, Bar, AndAnd, OrOr, Ellipsis, Assign, StarAssign, SlashAssign, PercentAssign, PlusAssign, MinusAssign, ShiftLeftAssign, ShiftRightAssign, AmpersandAssign, CaretAssign, BarAssign, DotDot, Implies, Equivalent}
use Rattle.c_lex.specs.declared.state.Context.{Context}
use Rattle.c_lex.specs.declared.state.Context.TheVariants.{Code, LineAnnotation, BlockAnnotation}
use Rattle.c_lex.specs.declared.state.Quote.{Quote}
use Rattle.c_lex.specs.declared.state.Quote.TheVariants.{Character, Text}
use Rattle.c_lex.specs.declared.state.State.{State}
use Rattle.c_lex.specs.declared.state.State.TheVariants.{Start, White, Name, Backslash, AnnotationName, Number, Exponent, Mark, LessEqualEqual, LineComment, BlockComment, BlockStar, Comment, SkippedLine, Quoted, Escape, Closed, Other}
use Rattle.c_lex.specs.Spellings.{last_byte, single_marks}
use Rattle.c_lex.specs.Bytes.{is_white, is_digit, is_letter, is_name_start, is_name_byte, is_sign, is_exponent_letter}

-- inside an annotation
abbrev pub is_inside : Context → Bool
is_inside Code = false
is_inside LineAnnotation = true
is_inside BlockAnnotation = true

-- ---- what a byte begins

-- the punctuator of one byte that the byte is, if it is one
unfoldable pub mark_in : List Punctuator → ℕ → State
mark_in [] b = Other
mark_in (p ∷ ps) b = cond (b == last_byte p) (Mark p) (mark_in ps b)

unfoldable pub begin_mark : ℕ → State
begin_mark b = mark_in single_marks b

-- `#` skips its line, where only white space stands before it on the line
abbrev pub begin_hash : Context → Bool → State
begin_hash Code fresh = cond fresh SkippedLine Other
begin_hash LineAnnotation fresh = Other
begin_hash BlockAnnotation fresh = Other

-- `"`, `'`; inside an annotation `\` begins a word and `@` is white space; `#`
unfoldable pub begin_sign : Context → Bool → ℕ → State
begin_sign c fresh b =
    cond (b == 34) (Quoted Text) (cond (b == 39) (Quoted Character) (cond (b == 92) (cond (is_inside c) Backslash Other)
    (cond (b == 64) (cond (is_inside c) White Other) (cond (b == 35) (begin_hash c fresh) (begin_mark b)))))

abbrev pub begin : Context → Bool → ℕ → State
begin c fresh b = cond (is_white b) White (cond (is_name_start b) Name (cond (is_digit b) Number (begin_sign c fresh b)))

-- ---- how a piece goes on

abbrev pub when : Bool → State → Option State
when test s = cond test (Some s) None

-- A number goes on with letters, digits and dots, and directly behind e, E, p, P with a sign (C11 6.4.8). Inside an annotation it ends before two dots.
unfoldable pub number_goes : Context → ℕ → Bool → Option State
number_goes c b before_dot =
    cond (is_exponent_letter b) (Some Exponent) (cond (is_letter b || is_digit b) (Some Number)
    (when (b == 46 && not (before_dot && is_inside c)) Number))

unfoldable pub exponent_goes : Context → ℕ → Bool → Option State
exponent_goes c b before_dot = cond (is_sign b) (Some Number) (number_goes c b before_dot)

-- a punctuator that goes on with one byte, or with either of two
abbrev pub one : ℕ → ℕ → Punctuator → Option State
one b x p = cond (b == x) (Some (Mark p)) None

abbrev pub two : ℕ → ℕ → Punctuator → ℕ → Punctuator → Option State
two b x p y q = cond (b == x) (Some (Mark p)) (one b y q)

-- by a byte to a longer punctuator, or to either of two
abbrev pub to : ℕ → Punctuator → Option State
to b p = one b (last_byte p) p

abbrev pub to_either : ℕ → Punctuator → Punctuator → Option State
to_either b p q = two b (last_byte p) p (last_byte q) q

-- a dot before a digit begins a number
unfoldable pub dot_goes : ℕ → Option State
dot_goes b = cond (is_digit b) (Some Number) (to b DotDot)

unfoldable pub minus_goes : ℕ → Option State
minus_goes b = cond (b == last_byte Arrow) (Some (Mark Arrow)) (to_either b Decrement MinusAssign)

-- `//` begins a comment; `/*` begins one in the code alone
unfoldable pub slash_goes : Context → ℕ → Option State
slash_goes c b = cond (b == 47) (Some LineComment) (cond (b == 61) (Some (Mark SlashAssign)) (cond (b == 42) (when (not (is_inside c)) BlockComment) None))

-- `==>` inside annotations
unfoldable pub equal_goes : Context → ℕ → Option State
equal_goes c b = cond (is_inside c) (to b Implies) None

-- `<==`, before `>`, inside annotations
unfoldable pub less_equal_goes : Context → ℕ → Option State
less_equal_goes c b = when (b == 61 && is_inside c) LessEqualEqual

-- how a punctuator goes on (C11 6.4.6)
abbrev pub mark_goes : Context → Punctuator → ℕ → Option State
mark_goes c Dot b = dot_goes b
mark_goes c DotDot b = to b Ellipsis
mark_goes c Minus b = minus_goes b
mark_goes c Plus b = to_either b Increment PlusAssign
mark_goes c Ampersand b = to_either b AndAnd AmpersandAssign
mark_goes c Bar b = to_either b OrOr BarAssign
mark_goes c Less b = to_either b ShiftLeft LessEqual
mark_goes c Greater b = to_either b ShiftRight GreaterEqual
mark_goes c Star b = to b StarAssign
mark_goes c Percent b = to b PercentAssign
mark_goes c Caret b = to b CaretAssign
mark_goes c Exclamation b = to b NotEqual
mark_goes c ShiftLeft b = to b ShiftLeftAssign
mark_goes c ShiftRight b = to b ShiftRightAssign
mark_goes c Assign b = to b Equal
mark_goes c Equal b = equal_goes c b
mark_goes c LessEqual b = less_equal_goes c b
mark_goes c Slash b = slash_goes c b
mark_goes c _ b = None

-- a comment ends with the first `*/`; `star` says that its last byte is a `*`
unfoldable pub comment_goes : Bool → ℕ → State
comment_goes star b = cond (b == 42) BlockStar (cond (b == 47 && star) Comment BlockComment)

abbrev pub byte_of_quote : Quote → ℕ
byte_of_quote Character = 39
byte_of_quote Text = 34

-- a constant between quotes ends with its quote, if no `\` stands directly before it, and stays on its line (C11 6.4.4.4, 6.4.5)
unfoldable pub quoted_goes : Quote → ℕ → Option State
quoted_goes q b = cond (b == 10) None (cond (b == 92) (Some (Escape q)) (cond (b == byte_of_quote q) (Some (Closed q)) (Some (Quoted q))))

-- What a further byte makes of what has been read, or nothing where the piece can't go on with it; `before_dot` says that a dot follows the byte.
abbrev pub step : Context → State → ℕ → Bool → Option State
step c (Start fresh) b before_dot = Some (begin c fresh b)
step c White b before_dot = None
step c Name b before_dot = when (is_name_byte b) Name
step c Backslash b before_dot = when (is_name_start b) AnnotationName
step c AnnotationName b before_dot = when (is_name_byte b) AnnotationName
step c Number b before_dot = number_goes c b before_dot
step c Exponent b before_dot = exponent_goes c b before_dot
step c (Mark p) b before_dot = mark_goes c p b
step c LessEqualEqual b before_dot = to b Equivalent
step c LineComment b before_dot = when (not (b == 10)) LineComment
step c BlockComment b before_dot = Some (comment_goes false b)
step c BlockStar b before_dot = Some (comment_goes true b)
step c Comment b before_dot = None
step c SkippedLine b before_dot = when (not (b == 10)) SkippedLine
step c (Quoted q) b before_dot = quoted_goes q b
step c (Escape q) b before_dot = when (not (b == 10)) (Quoted q)
step c (Closed q) b before_dot = None
step c Other b before_dot = None

-- ---- pieces

-- `..` is a token inside annotations alone
abbrev pub accepts_mark : Context → Punctuator → Bool
accepts_mark c DotDot = is_inside c
accepts_mark c _ = true

-- what may stand as a piece; one that lacks its end is a piece too, and gives a fault
abbrev pub accepts : Context → State → Bool
accepts c (Start fresh) = false
accepts c LessEqualEqual = false
accepts c (Mark p) = accepts_mark c p
accepts c _ = true

-- what the first n bytes make, or nothing where no piece goes on so far
abbrev pub reached : Context → Bool → List ℕ → ℕ → Option State
reached c fresh bytes zero = Some (Start fresh)
reached c fresh bytes (suc n) =
    option_and_then (λ s. step c s (slice_index bytes n) (slice_index bytes (suc n) == 46)) (reached c fresh bytes n)

-- the first n bytes are a piece
pub record IsPiece (c : Context) (fresh : Bool) (bytes : List ℕ) (n : ℕ) (s : State) : Type 0 where
  pub within : n ≤ length bytes
  pub made : reached c fresh bytes n ≡ Some s
  pub whole : IsTrue (accepts c s)

-- the first n bytes are a piece, and no more of the bytes are
pub record IsLongest (c : Context) (fresh : Bool) (bytes : List ℕ) (n : ℕ) (s : State) : Type 0 where
  pub piece : IsPiece c fresh bytes n s
  pub longest : (more : ℕ) (t : State) → n < more → IsPiece c fresh bytes more t → ⊥
