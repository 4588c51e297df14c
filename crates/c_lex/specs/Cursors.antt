-- How far the lexer has come in a file's bytes.
use Rattle.std.specs.Prelude.{◌≡◌, ℕ, ◌+◌, ◌-◌, ◌*◌, ◌≤◌, ◌<◌, true, false, cond, List, length, slice_index, take, drop}
use Rattle.c_base.specs.declared.token.Word.TheVariants.{OpenAnnotation, CloseAnnotation}
use Rattle.c_lex.specs.declared.meaning.Meaning.{Meaning}
use Rattle.c_lex.specs.declared.meaning.Meaning.TheVariants.{Blank, Gives, Annotates, Wrong}
use Rattle.c_lex.specs.declared.state.Context.{Context}
use Rattle.c_lex.specs.declared.state.State.{State}
use Rattle.c_lex.specs.declared.cut.Cursor.{Cursor}
use Rattle.c_lex.specs.declared.cut.Step.{Step}
use Rattle.c_lex.specs.declared.cut.Step.TheVariants.{End, Fault, Skip, Give}
use Rattle.c_lex.specs.declared.state.Context.TheVariants.{Code}
use Rattle.c_lex.specs.Meanings.{closing, fault_of}
use Rattle.c_lex.specs.Pieces.{is_inside}
use Rattle.c_lex.specs.Tokens.{Left, Move, ends, fails, gives, skips, IsMove, token, further, after_all, is_fresh}

abbrev pub start_cursor : ℕ → Cursor
start_cursor n = record { context = Code; fresh = true; at = record { line = 1; col = 1 }; next = 0; end = n }

-- behind a piece
abbrev pub over_cursor : Cursor → State → List ℕ → Cursor
over_cursor c s piece = record c { fresh = is_fresh c.fresh s (slice_index piece 0); at = after_all c.at piece; next = c.next + length piece }

-- at the inside of an annotation of n bytes
abbrev pub inside_cursor : Cursor → Context → ℕ → Cursor
inside_cursor c a n = record { context = a; fresh = false; at = further c.at 3; next = c.next + 3; end = c.next + n - length (closing a) }

-- behind an annotation, in a file of n bytes
abbrev pub outside_cursor : Cursor → ℕ → Cursor
outside_cursor c n = record { context = Code; fresh = false; at = further c.at (length (closing c.context)); next = c.end + length (closing c.context); end = n }

-- what comes behind a piece
abbrev pub step_of : Cursor → State → List ℕ → Meaning → Step
step_of c s piece Blank = Skip (over_cursor c s piece)
step_of c s piece (Gives w) = Give (token w c.at) (over_cursor c s piece)
step_of c s piece (Annotates a) = Give (token OpenAnnotation c.at) (inside_cursor c a (length piece))
step_of c s piece (Wrong sort n) = Fault (fault_of sort (further c.at n))

-- what comes where the text is used up
abbrev pub step_at_end : Cursor → ℕ → Step
step_at_end c n = cond (is_inside c.context) (Give (token CloseAnnotation c.at) (outside_cursor c n)) End

-- what is left of the bytes
abbrev pub left_of : List ℕ → Cursor → Left
left_of bytes c = record {
  context = c.context;
  fresh = c.fresh;
  at = c.at;
  text = take (c.end - c.next) (drop c.next bytes);
  rest = drop (c.end + length (closing c.context)) bytes;
}

-- the indices stand in order, and a place is no further than its index
pub record IsCursor (bytes : List ℕ) (c : Cursor) : Type 0 where
  pub ordered : c.next ≤ c.end
  pub within : c.end + length (closing c.context) ≤ length bytes
  pub code : is_inside c.context ≡ false → c.end ≡ length bytes
  pub line : c.at.line ≤ c.next + 1
  pub col : c.at.col ≤ c.next + 1

-- each move makes this less
abbrev pub moves_left : List ℕ → Cursor → ℕ
moves_left bytes c = 2 * (length bytes - c.next) + cond (is_inside c.context) 1 0

pub record IsNext (bytes : List ℕ) (c next : Cursor) (m : Move) : Type 0 where
  pub move : IsMove (left_of bytes c) m
  pub valid : IsCursor bytes next
  pub less : moves_left bytes next < moves_left bytes c

abbrev pub IsStep : List ℕ → Cursor → Step → Type 0
IsStep bytes c End = IsMove (left_of bytes c) ends
IsStep bytes c (Fault f) = IsMove (left_of bytes c) (fails f)
IsStep bytes c (Skip next) = IsNext bytes c next (skips (left_of bytes next))
IsStep bytes c (Give t next) = IsNext bytes c next (gives t (left_of bytes next))
