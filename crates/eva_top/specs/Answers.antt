-- What an answer of the command promises.
use Rattle.std.specs.Prelude.{ℕ, ◌<◌, ◌≤◌, ◌≡◌, ◌≢◌, ◌⊎◌, Bool, true, false, List, [], ◌∷◌, ◌++◌, length, Option, Some, ⊤}
use Rattle.std.specs.Fmt.{decimal}
use lib.Chars.{codes}
use Rattle.c_base.specs.declared.number.Span.{Span}
use Rattle.c_base.specs.declared.token.Token.{Token}
use Rattle.first_program.specs.Source.{Program}
use Rattle.first_program.specs.Meaning.{meaning_of}
use Rattle.eva_io.specs.Outside.{Rose, SinkState, HeldWhereTold, Appended, AppendedInPart}
use Rattle.c_lex.specs.declared.fault.LexFault.{LexFault}
use Rattle.c_lex.specs.declared.fault.LexFault.TheVariants.{BadByte as BadByteFault, OpenComment as OpenCommentFault, OpenString as OpenStringFault, BadNumber as BadNumberFault}
use Rattle.c_lex.specs.Lexing.{AreAnswered, IsRefusedFor, AreTooMany}
use Rattle.c_parse_expr.specs.Places.{IsRefusedAt}
use Rattle.c_parse_unit.specs.Promises.{HasNoUnit}
use Rattle.first_units.specs.Language.{has_annotation, Spells, SpellsAnother}
use Rattle.first_units.specs.Place.{IsPlaceIn}
use Rattle.c_base.specs.declared.token.LexSort.{LexSort}
use Rattle.c_base.specs.declared.token.LexSort.TheVariants.{BadByte, OpenComment, OpenString, BadNumber}
use Rattle.eva_top.specs.declared.status.Refusal.TheVariants.{Form, Lex, Limit, Syntax}
use Rattle.eva_top.specs.declared.status.Status.{Status}
use Rattle.eva_top.specs.declared.status.Status.TheVariants.{Clean, Alarmed, Usage, Unread, Refused, Unwritten, Memory, TooLong}
use Rattle.eva_report.specs.Report.{line_end}
use Rattle.eva_claim.specs.Claims.{IsReportOf}

-- a sink before the call and after it
pub record Sunk : Type 0 where
  pub before : SinkState
  pub after : SinkState

-- a call: its words, what the store told, the counts of its failed loads before and after, and the two sinks
pub record Call : Type 0 where
  pub words : List (List ℕ)
  pub told : List ℕ → Option (Option (List ℕ))
  pub loads_before : List ℕ → ℕ
  pub loads_after : List ℕ → ℕ
  pub out : Sunk
  pub notes : Sunk

abbrev pub most_bytes : ℕ
most_bytes = 16777216

-- the one word names a file, of which the whole content was read
pub record IsRead (c : Call) (bytes : List ℕ) : Type 0 where
  pub name : List ℕ
  pub word : c.words ≡ name ∷ []
  pub held : HeldWhereTold (c.told name) (λ content. content ≡ bytes)
  pub small : length bytes ≤ most_bytes

-- the content is longer than a file may be
pub record IsTooLong (c : Call) (name : List ℕ) : Type 0 where
  pub word : c.words ≡ name ∷ []
  pub long : HeldWhereTold (c.told name) (λ content. most_bytes < length content)

-- a load of the file failed in this call
pub record IsUnread (c : Call) (name : List ℕ) : Type 0 where
  pub word : c.words ≡ name ∷ []
  pub rose : Rose (c.loads_before name) (c.loads_after name)

-- the bytes are cut into tokens, at most 2,000,000, that spell the program
pub record IsSource (bytes : List ℕ) (p : Program) : Type 0 where
  pub tokens : List Token
  pub cut : AreAnswered bytes tokens
  pub spells : Spells tokens p

-- a token is of an annotation, or the tokens spell a unit that is no program of the language
abbrev pub IsOther : List Token → Type 0
IsOther tokens = (has_annotation tokens ≡ true) ⊎ SpellsAnother tokens

-- the file is read and cut into tokens, at most 2,000,000, of an annotation or of another unit; the place is that of one of them, and 1:1 where
-- there are none
pub record IsForm (c : Call) (at : Span) : Type 0 where
  pub bytes : List ℕ
  pub tokens : List Token
  pub read : IsRead c bytes
  pub cut : AreAnswered bytes tokens
  pub other : IsOther tokens
  pub place : IsPlaceIn tokens at

-- the file is read and cut into tokens, at most 2,000,000, none of an annotation, that spell no unit of nesting at most 200; the place is that of
-- one of them, and 1:1 where there are none
pub record IsSyntax (c : Call) (at : Span) : Type 0 where
  pub bytes : List ℕ
  pub tokens : List Token
  pub read : IsRead c bytes
  pub cut : AreAnswered bytes tokens
  pub plain : has_annotation tokens ≡ false
  pub none : HasNoUnit 200 tokens
  pub place : IsRefusedAt tokens 0 at

abbrev pub fault_of : LexSort → Span → LexFault
fault_of BadByte at = BadByteFault at
fault_of OpenComment at = OpenCommentFault at
fault_of OpenString at = OpenStringFault at
fault_of BadNumber at = BadNumberFault at

-- the file is read, and can't be cut into tokens: this is its first wrong piece
pub record IsLex (c : Call) (sort : LexSort) (at : Span) : Type 0 where
  pub bytes : List ℕ
  pub read : IsRead c bytes
  pub refused : IsRefusedFor bytes (fault_of sort at)

-- the file is read, and has more than 2,000,000 tokens, which is the first limit
pub record IsBeyond (c : Call) (limit found : ℕ) : Type 0 where
  pub first : limit ≡ 1
  pub bytes : List ℕ
  pub read : IsRead c bytes
  pub many : AreTooMany bytes found

-- the text is that of a report of the program that the file spells
pub record IsReportText (c : Call) (alarmed : Bool) (text : List ℕ) : Type 0 where
  pub bytes : List ℕ
  pub program : Program
  pub read : IsRead c bytes
  pub source : IsSource bytes program
  pub report : IsReportOf (meaning_of program) alarmed text

-- a place, and the end of its line
unfoldable pub at_text : Span → List ℕ
at_text at = codes " at " ++ decimal at.line ++ codes ":" ++ decimal at.col ++ line_end

abbrev pub memory_note : List ℕ
memory_note = codes "out of memory" ++ line_end

abbrev pub usage_note : List ℕ
usage_note = codes "usage: eva FILE" ++ line_end

abbrev pub sort_name : LexSort → List ℕ
sort_name BadByte = codes "bad byte"
sort_name OpenComment = codes "open comment"
sort_name OpenString = codes "open string"
sort_name BadNumber = codes "bad number"

unfoldable pub form_text : Span → List ℕ
form_text at = codes "refused: form" ++ at_text at

unfoldable pub syntax_text : Span → List ℕ
syntax_text at = codes "refused: syntax" ++ at_text at

unfoldable pub lex_text : LexSort → Span → List ℕ
lex_text sort at = codes "refused: lex " ++ sort_name sort ++ at_text at

unfoldable pub limit_text : ℕ → ℕ → List ℕ
limit_text limit found = codes "refused: limit " ++ decimal limit ++ codes " found " ++ decimal found ++ line_end

-- a line that ends in a name
unfoldable pub named_text : List ℕ → List ℕ → List ℕ
named_text head name = head ++ name ++ line_end

-- the note of an answer, with its cause
abbrev pub IsNote : Call → Status → List ℕ → Type 0
IsNote c Clean text = ⊥
IsNote c Alarmed text = ⊥
IsNote c Usage text = (length c.words ≢ 1) × (text ≡ usage_note)
IsNote c Unread text = (name : List ℕ) × IsUnread c name × (text ≡ named_text (codes "unread: ") name)
IsNote c (Refused (Form at)) text = IsForm c at × (text ≡ form_text at)
IsNote c (Refused (Syntax at)) text = IsSyntax c at × (text ≡ syntax_text at)
IsNote c (Refused (Lex sort at)) text = IsLex c sort at × (text ≡ lex_text sort at)
IsNote c (Refused (Limit limit found)) text = IsBeyond c limit found × (text ≡ limit_text limit found)
IsNote c Unwritten text = ⊥
IsNote c Memory text = text ≡ memory_note
IsNote c TooLong text = (name : List ℕ) × IsTooLong c name × (text ≡ named_text (codes "too long: ") name)

abbrev pub IsUntouched : Sunk → Type 0
IsUntouched s = s.after.written ≡ s.before.written

abbrev pub IsWritten : Sunk → List ℕ → Type 0
IsWritten s text = Appended s.before.written text s.after.written

-- a proper front of the text was written
abbrev pub IsBroken : Sunk → List ℕ → Type 0
IsBroken s text = AppendedInPart s.before.written text s.after.written

-- a put of the sink failed in this call
abbrev pub HasFailed : Sunk → Type 0
HasFailed s = Rose s.before.faults s.after.faults

-- memory was wanting in a put of the sink
abbrev pub HasStarved : Sunk → Type 0
HasStarved s = Rose s.before.starved s.after.starved

-- the report stands whole on `out`, and nothing on `notes`
abbrev pub Reports : Call → Bool → Type 0
Reports c alarmed = (text : List ℕ) × IsReportText c alarmed text × IsWritten c.out text × IsUntouched c.notes

-- the note stands whole on `notes`, and nothing on `out`
abbrev pub Notes : Call → Status → Type 0
Notes c status = (text : List ℕ) × IsNote c status text × IsWritten c.notes text × IsUntouched c.out

-- a report or a note was begun and not ended, and nothing stands on the other sink
pub record BreaksReport (c : Call) : Type 0 where
  pub alarmed : Bool
  pub text : List ℕ
  pub is : IsReportText c alarmed text
  pub part : IsBroken c.out text
  pub other : IsUntouched c.notes

pub record BreaksNote (c : Call) : Type 0 where
  pub status : Status
  pub text : List ℕ
  pub is : IsNote c status text
  pub part : IsBroken c.notes text
  pub other : IsUntouched c.out

-- Each answer with its cause, and what stands on the sinks after it.
abbrev pub Answers : Call → Status → Type 0
Answers c Clean = Reports c false
Answers c Alarmed = Reports c true
Answers c Usage = Notes c Usage
Answers c Unread = Notes c Unread
Answers c (Refused refusal) = Notes c (Refused refusal)
Answers c TooLong = Notes c TooLong
Answers c Unwritten = (BreaksReport c × HasFailed c.out) ⊎ (BreaksNote c × HasFailed c.notes)
Answers c Memory = Notes c Memory ⊎ ((BreaksReport c × HasStarved c.out) ⊎ (BreaksNote c × HasStarved c.notes))

-- the answer is a report, or memory was wanting
abbrev pub IsReportOrMemory : Status → Type 0
IsReportOrMemory Clean = ⊤
IsReportOrMemory Alarmed = ⊤
IsReportOrMemory Usage = ⊥
IsReportOrMemory Unread = ⊥
IsReportOrMemory (Refused refusal) = ⊥
IsReportOrMemory Unwritten = ⊥
IsReportOrMemory Memory = ⊤
IsReportOrMemory TooLong = ⊥

-- a file that is held, told and in the language, and no fault of the store or the sinks
pub record IsGood (c : Call) : Type 0 where
  pub name : List ℕ
  pub bytes : List ℕ
  pub program : Program
  pub word : c.words ≡ name ∷ []
  pub held : c.told name ≡ Some (Some bytes)
  pub small : length bytes ≤ most_bytes
  pub source : IsSource bytes program
  pub loaded : Rose (c.loads_before name) (c.loads_after name) → ⊥
  pub put : HasFailed c.out → ⊥
  pub noted : HasFailed c.notes → ⊥

abbrev pub status_of : Bool → Status
status_of true = Alarmed
status_of false = Clean

-- what an attempt to put a text leaves: the text, and the answer that was meant; or a part of it, and another answer
pub data Puts (status : Status) (text : List ℕ) (s : Sunk) : Status → Type 0 where
  whole : IsWritten s text → Puts status text s status
  failed : IsBroken s text → HasFailed s → Puts status text s Unwritten
  starved : IsBroken s text → HasStarved s → Puts status text s Memory

-- the same of a note, in place of which memory may be wanting
abbrev pub PutsNote : Status → List ℕ → Sunk → Status → Type 0
PutsNote status text s result = Puts status text s result ⊎ Puts Memory memory_note s result

abbrev pub sunk : SinkState → SinkState → Sunk
sunk before after = record { before = before; after = after }

abbrev pub call_of : List (List ℕ) → (List ℕ → Option (Option (List ℕ))) → (List ℕ → ℕ) → (List ℕ → ℕ) → Sunk → Sunk → Call
call_of words told loads_before loads_after out notes =
    record { words = words; told = told; loads_before = loads_before; loads_after = loads_after; out = out; notes = notes }
