-- How a file is cut into tokens (C11 6.4): from its front into pieces, each of them the longest that can stand there.
use Rattle.std.specs.Prelude.{◌≡◌, ℕ, zero, suc, ◌+◌, ◌-◌, ◌==◌, Bool, true, false, cond, ◌||◌, List, [], ◌∷◌, length, slice_index, take, drop}
use Rattle.c_base.specs.declared.number.Span.{Span}
use Rattle.c_base.specs.declared.token.Word.{Word}
use Rattle.c_base.specs.declared.token.Word.TheVariants.{OpenAnnotation, CloseAnnotation}
use Rattle.c_base.specs.declared.token.Token.{Token}
use Rattle.c_lex.specs.declared.fault.LexFault.{LexFault}
use Rattle.c_lex.specs.declared.meaning.Meaning.{Meaning}
use Rattle.c_lex.specs.declared.meaning.Meaning.TheVariants.{Blank, Gives, Annotates, Wrong}
use Rattle.c_lex.specs.declared.state.Context.{Context}
use Rattle.c_lex.specs.declared.state.Context.TheVariants.{Code, LineAnnotation, BlockAnnotation}
use Rattle.c_lex.specs.declared.state.State.{State}
use Rattle.c_lex.specs.declared.state.State.TheVariants.{White}
use Rattle.c_lex.specs.Meanings.{closing, fault_of, meaning}
use Rattle.c_lex.specs.Pieces.{IsLongest}

-- ---- places

-- the place behind a byte: a line feed ends a line
abbrev pub after : Span → ℕ → Span
after at b = cond (b == 10) (record { line = at.line + 1; col = 1 }) (record { line = at.line; col = at.col + 1 })

unfoldable pub after_all : Span → List ℕ → Span
after_all at [] = at
after_all at (b ∷ bs) = after_all (after at b) bs

-- so many bytes on, on one line
abbrev pub further : Span → ℕ → Span
further at n = record { line = at.line; col = at.col + n }

-- whether only white space stands on the line behind a piece
abbrev pub is_fresh : Bool → State → ℕ → Bool
is_fresh fresh White b = b == 10 || fresh
is_fresh fresh _ b = false

-- ---- what is left

-- What is left of a file: the text that is cut, which is an annotation's inside or else the rest of the file, and what stands behind an annotation.
pub record Left : Type 0 where
  pub context : Context
  pub fresh : Bool
  pub at : Span
  pub text : List ℕ
  pub rest : List ℕ

-- what is left behind the first n bytes, which are a piece
abbrev pub behind : Left → ℕ → State → Left
behind l n s = record l { fresh = is_fresh l.fresh s (slice_index (take n l.text) 0); at = after_all l.at (take n l.text); text = drop n l.text }

-- what stands in a comment that is an annotation: all but its first three bytes and what closes it
abbrev pub annotated : Context → List ℕ → List ℕ
annotated c piece = take (length piece - (3 + length (closing c))) (drop 3 piece)

-- the first n bytes are an annotation, whose inside comes next
abbrev pub inside : Left → ℕ → Context → Left
inside l n c = record { context = c; fresh = false; at = further l.at 3; text = annotated c (take n l.text); rest = drop n l.text }

-- an annotation's inside is used up
abbrev pub outside : Left → Left
outside l = record { context = Code; fresh = false; at = further l.at (length (closing l.context)); text = l.rest; rest = [] }

-- ---- one piece after the other

pub data Move : Type 0 where
  -- the file ends
  ends : Move
  -- a piece is wrong
  fails : LexFault → Move
  -- a token, and what is left behind it
  gives : Token → Left → Move
  -- no token, and what is left
  skips : Left → Move

abbrev pub token : Word → Span → Token
token w at = record { word = w; span = at }

-- where the text is used up
abbrev pub move_at_end : Context → Left → Move
move_at_end Code l = ends
move_at_end LineAnnotation l = gives (token CloseAnnotation l.at) (outside l)
move_at_end BlockAnnotation l = gives (token CloseAnnotation l.at) (outside l)

-- over a piece of n bytes, by what it gives
abbrev pub move_over : Left → ℕ → State → Meaning → Move
move_over l n s Blank = skips (behind l n s)
move_over l n s (Gives w) = gives (token w l.at) (behind l n s)
move_over l n s (Annotates c) = gives (token OpenAnnotation l.at) (inside l n c)
move_over l n s (Wrong sort offset) = fails (fault_of sort (further l.at offset))

-- over the longest piece at the front
pub record IsOver (l : Left) (m : Move) : Type 0 where
  pub length : ℕ
  pub state : State
  pub longest : IsLongest l.context l.fresh l.text length state
  pub is : m ≡ move_over l length state (meaning l.context state (take length l.text))

abbrev pub IsMoveBy : Left → List ℕ → Move → Type 0
IsMoveBy l [] m = m ≡ move_at_end l.context l
IsMoveBy l (b ∷ bs) m = IsOver l m

-- the next move
abbrev pub IsMove : Left → Move → Type 0
IsMove l m = IsMoveBy l l.text m

-- ---- the whole file

pub data Outcome : Type 0 where
  tokens : List Token → Outcome
  fault : LexFault → Outcome

-- a token before what comes
abbrev pub before : Token → Outcome → Outcome
before t (tokens ts) = tokens (t ∷ ts)
before t (fault f) = fault f

abbrev pub Onward : (Left → Outcome → Type 0) → Move → Outcome → Type 0
Onward Then ends out = out ≡ tokens []
Onward Then (fails f) out = out ≡ fault f
Onward Then (gives t l) out = (more : Outcome) × Then l more × (out ≡ before t more)
Onward Then (skips l) out = Then l out

-- n moves lead to this outcome
abbrev pub Comes : ℕ → Left → Outcome → Type 0
Comes zero l out = ⊥
Comes (suc n) l out = (m : Move) × IsMove l m × Onward (Comes n) m out

-- the whole file is left, from its first line and column on
abbrev pub start : List ℕ → Left
start bytes = record { context = Code; fresh = true; at = record { line = 1; col = 1 }; text = bytes; rest = [] }

-- a file is cut into these tokens
pub record AreTokensOf (bytes : List ℕ) (ts : List Token) : Type 0 where
  pub moves : ℕ
  pub come : Comes moves (start bytes) (tokens ts)

-- a file's first piece that is wrong has this fault
pub record HasFault (bytes : List ℕ) (f : LexFault) : Type 0 where
  pub moves : ℕ
  pub come : Comes moves (start bytes) (fault f)
