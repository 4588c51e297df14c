-- What pieces are in C's words: names, numbers, comments, skipped lines and constants between quotes (C11 6.4).
use Rattle.std.specs.Prelude.{◌≡◌, ◌⊎◌, ◌↔◌, ℕ, ◌==◌, Bool, false, true, not, ◌&&◌, ◌||◌, IsTrue, List, [], ◌∷◌, ◌++◌, length, slice_index}
use lib.Chars.{codes}
use Rattle.c_lex.specs.declared.state.Context.{Context}
use Rattle.c_lex.specs.declared.state.Context.TheVariants.{Code}
use Rattle.c_lex.specs.declared.state.Quote.{Quote}
use Rattle.c_lex.specs.declared.state.State.{State}
use Rattle.c_lex.specs.declared.state.State.TheVariants.{Name, Number, Exponent, LineComment, Comment, SkippedLine, Closed}
use Rattle.c_lex.specs.Bytes.{is_digit, is_letter, is_name_start, is_name_byte, is_sign, is_exponent_letter}
use Rattle.c_lex.specs.Pieces.{is_inside, byte_of_quote, IsLongest}
use Rattle.c_lex.specs.Spellings.{last_of}

-- each byte passes the test
abbrev pub AllBytes : (ℕ → Bool) → List ℕ → Type 0
AllBytes test [] = Unit {0}
AllBytes test (b ∷ bs) = IsTrue (test b) × AllBytes test bs

-- what comes behind a piece: nothing, or first a byte that fails the test
abbrev pub Stops : (ℕ → Bool) → List ℕ → Type 0
Stops test [] = Unit {0}
Stops test (b ∷ bs) = test b ≡ false

-- the front `text` of some bytes, before `rest`, is their longest piece, and of this sort
abbrev pub IsFront : Context → Bool → List ℕ → List ℕ → State → Type 0
IsFront c fresh text rest s = IsLongest c fresh (text ++ rest) (length text) s

-- ---- names

-- a letter or an underscore, and then letters, underscores and digits (C11 6.4.2.1)
abbrev pub IsName : List ℕ → Type 0
IsName [] = ⊥
IsName (b ∷ bs) = IsTrue (is_name_start b) × AllBytes is_name_byte bs

-- a name is as long as it can be
abbrev pub NamesAre : Type 0
NamesAre = (c : Context) (fresh : Bool) (text rest : List ℕ) → IsFront c fresh text rest Name ↔ (IsName text × Stops is_name_byte rest)

-- ---- numbers

-- A number goes on behind a byte with a digit, a letter, a dot, or directly behind e, E, p, P with a sign (C11 6.4.8, but without `_`).
-- Inside an annotation it ends before two dots.
abbrev pub goes_on : Context → ℕ → ℕ → List ℕ → Bool
goes_on c before b behind =
    (is_letter b || is_digit b) || ((b == 46 && not (slice_index behind 0 == 46 && is_inside c)) || (is_sign b && is_exponent_letter before))

-- so it does with each of some bytes, before a rest
abbrev pub GoOn : Context → ℕ → List ℕ → List ℕ → Type 0
GoOn c before [] rest = Unit {0}
GoOn c before (b ∷ bs) rest = IsTrue (goes_on c before b (bs ++ rest)) × GoOn c b bs rest

-- it begins with a digit, or with a dot and a digit
abbrev pub IsNumber : Context → List ℕ → List ℕ → Type 0
IsNumber c [] rest = ⊥
IsNumber c (b ∷ bs) rest = (IsTrue (is_digit b) ⊎ ((b ≡ 46) × IsTrue (is_digit (slice_index bs 0)))) × GoOn c b bs rest

-- it does not go on with what comes behind it
abbrev pub NumberStops : Context → ℕ → List ℕ → Type 0
NumberStops c before [] = Unit {0}
NumberStops c before (b ∷ bs) = goes_on c before b bs ≡ false

-- the reader has one more state behind a letter that a sign may follow
abbrev pub NumbersAre : Type 0
NumbersAre =
    (c : Context) (fresh : Bool) (text rest : List ℕ) →
    (IsFront c fresh text rest Number ⊎ IsFront c fresh text rest Exponent) ↔ (IsNumber c text rest × NumberStops c (last_of 0 text) rest)

-- ---- comments and skipped lines

abbrev pub is_on_line : ℕ → Bool
is_on_line b = not (b == 10)

-- `//` and the rest of its line (C11 6.4.9p2)
pub record IsLineComment (text : List ℕ) : Type 0 where
  pub line : List ℕ
  pub is : text ≡ codes "//" ++ line
  pub on_line : AllBytes is_on_line line

abbrev pub LineCommentsAre : Type 0
LineCommentsAre = (c : Context) (fresh : Bool) (text rest : List ℕ) → IsFront c fresh text rest LineComment ↔ (IsLineComment text × Stops is_on_line rest)

-- `#` and the rest of its line
pub record IsHashLine (text : List ℕ) : Type 0 where
  pub line : List ℕ
  pub is : text ≡ codes "#" ++ line
  pub on_line : AllBytes is_on_line line

-- a line is skipped in the code alone, where only white space stands before the `#`
abbrev pub SkippedLinesAre : Type 0
SkippedLinesAre =
    (c : Context) (fresh : Bool) (text rest : List ℕ) →
    IsFront c fresh text rest SkippedLine ↔ (((c ≡ Code) × (fresh ≡ true)) × (IsHashLine text × Stops is_on_line rest))

-- `*/` stands nowhere in the bytes
abbrev pub HasNoEnd : List ℕ → Type 0
HasNoEnd [] = Unit {0}
HasNoEnd (b ∷ bs) = ((b == 42 && slice_index bs 0 == 47) ≡ false) × HasNoEnd bs

-- a comment ends at the first `*/` behind its `/*` (C11 6.4.9p1)
pub record IsBlockComment (text : List ℕ) : Type 0 where
  pub inner : List ℕ
  pub is : text ≡ codes "/*" ++ (inner ++ codes "*/")
  pub first : HasNoEnd (inner ++ codes "*")

-- whatever comes behind it; inside annotations there are none
abbrev pub BlockCommentsAre : Type 0
BlockCommentsAre = (c : Context) (fresh : Bool) (text rest : List ℕ) → IsFront c fresh text rest Comment ↔ ((c ≡ Code) × IsBlockComment text)

-- ---- constants between quotes

-- a byte by itself, or a `\` with the byte behind it
pub data QuotedUnit : Type 0 where
  plain : ℕ → QuotedUnit
  escaped : ℕ → QuotedUnit

abbrev pub spell_units : List QuotedUnit → List ℕ
spell_units [] = []
spell_units (plain b ∷ us) = b ∷ spell_units us
spell_units (escaped b ∷ us) = 92 ∷ b ∷ spell_units us

-- a plain byte is no quote, no `\` and no line feed; none of them passes its line (C11 6.4.4.4, 6.4.5)
abbrev pub is_unit : Quote → QuotedUnit → Bool
is_unit q (plain b) = is_on_line b && (not (b == 92) && not (b == byte_of_quote q))
is_unit q (escaped b) = is_on_line b

abbrev pub AreUnits : Quote → List QuotedUnit → Type 0
AreUnits q [] = Unit {0}
AreUnits q (u ∷ us) = IsTrue (is_unit q u) × AreUnits q us

-- its quote, units, its quote
pub record IsConstant (q : Quote) (text : List ℕ) : Type 0 where
  pub units : List QuotedUnit
  pub is : text ≡ byte_of_quote q ∷ (spell_units units ++ byte_of_quote q ∷ [])
  pub all : AreUnits q units

-- whatever comes behind it
abbrev pub ConstantsAre : Type 0
ConstantsAre = (c : Context) (fresh : Bool) (q : Quote) (text rest : List ℕ) → IsFront c fresh text rest (Closed q) ↔ IsConstant q text
