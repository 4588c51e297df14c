-- From what was put to the answer of the command.
use Rattle.std.proofs.Common.{◌≡◌, ◌≢◌, ◌↔◌, ℕ, suc, ◌<◌, Bool, true, false, IsTrue, List, [], ◌∷◌, ◌++◌, length, get_or, map, Option, None, Some, refl, sym, ◌∙◌, ap, inl, inr, arith}
use Rattle.c_base.specs.declared.number.Span.{Span}
use Rattle.c_base.specs.declared.token.Token.{Token}
use Rattle.first_program.specs.Source.{Program}
use Rattle.first_program.specs.SourceViews.{IsShaped}
use Rattle.first_program.specs.Meaning.{meaning_of}
use Rattle.c_lex.specs.Lexing.{AreAnswered}
use Rattle.std.specs.Fmt.{decimal}
use Rattle.std.proofs.lemmas.Fmt.{decimal_digit}
use Rattle.std.proofs.lemmas.List.{length-append}
use lib.Chars.{codes}
use Rattle.eva_io.specs.Outside.{SinkState, HeldWhereTold}
use Rattle.c_grammar.proofs.Exactly.{one_unit}
use Rattle.first_units.specs.Language.{Spells, SpellsAnother}
use Rattle.c_base.specs.declared.token.LexSort.{LexSort}
use Rattle.eva_top.specs.declared.status.Refusal.TheVariants.{Form, Lex, Limit, Syntax}
use Rattle.eva_top.specs.declared.status.Status.{Status}
use Rattle.eva_top.specs.declared.status.Status.TheVariants.{Clean, Alarmed, Usage, Unread, Refused, Unwritten, Memory, TooLong}
use Rattle.eva_top.specs.Answers.{Sunk, Call, IsRead, IsSource, IsForm, IsOther, IsLex, IsBeyond, IsReportText, IsNote, IsUntouched, IsWritten, Answers, Puts, whole, failed, starved, PutsNote, memory_note, sunk, status_of, IsReportOrMemory, IsGood, most_bytes}

pub untouched : (s : Sunk) (state : SinkState) → s ≡ sunk state state → IsUntouched s
untouched s state e = rw e refl

-- a note that is written whole is the answer's
noted_whole : (c : Call) (status : Status) (text : List ℕ) → IsNote c status text → IsWritten c.notes text → IsUntouched c.out → Answers c status
noted_whole c Clean text note written out = absurd note
noted_whole c Alarmed text note written out = absurd note
noted_whole c Usage text note written out = (text, note, written, out)
noted_whole c Unread text note written out = (text, note, written, out)
noted_whole c (Refused refusal) text note written out = (text, note, written, out)
noted_whole c Unwritten text note written out = absurd note
noted_whole c Memory text note written out = inl (text, note, written, out)
noted_whole c TooLong text note written out = (text, note, written, out)

module _ (c : Call) (text : List ℕ) (before after : SinkState) where
  pub noted : (status result : Status) → c.notes ≡ sunk before after → IsNote c status text → IsUntouched c.out → Puts status text (sunk before after) result → Answers c result
  noted status result e note out (whole w) = noted_whole c status text note (rw e w) out
  noted status result e note out (failed part rose) =
      inr (record { status = status; text = text; is = note; part = rw e part; other = out }, rw e rose)
  noted status result e note out (starved part rose) =
      inr (inr (record { status = status; text = text; is = note; part = rw e part; other = out }, rw e rose))

  pub reported : (alarmed : Bool) (result : Status) → c.out ≡ sunk before after → IsReportText c alarmed text → IsUntouched c.notes →
      Puts (status_of alarmed) text (sunk before after) result → Answers c result
  reported true result e is notes (whole w) = (text, is, rw e w, notes)
  reported false result e is notes (whole w) = (text, is, rw e w, notes)
  reported alarmed result e is notes (failed part rose) =
      inl (record { alarmed = alarmed; text = text; is = is; part = rw e part; other = notes }, rw e rose)
  reported alarmed result e is notes (starved part rose) =
      inr (inl (record { alarmed = alarmed; text = text; is = is; part = rw e part; other = notes }, rw e rose))

pub note_put : (c : Call) (status : Status) (text : List ℕ) (before after : SinkState) (result : Status) → c.notes ≡ sunk before after → IsUntouched c.out → IsNote c status text →
    PutsNote status text (sunk before after) result → Answers c result
note_put c status text before after result e out note (inl put) = noted c text before after status result e note out put
note_put c status text before after result e out note (inr put) = noted c memory_note before after Memory result e refl out put

-- ---- the words of a call

pub first_word : {X : Type 0} (f : X → List ℕ) (xs : List X) (x : X) → length xs ≡ 1 → x ≡ get_or xs 0 x → map f xs ≡ f x ∷ []
first_word f [] x e h = absurd (omega arith)
first_word f (y ∷ []) x e h = ap (λ z. f z ∷ []) (sym h)
first_word f (y ∷ z ∷ xs) x e h = absurd (omega arith)

pub length-map : {X : Type 0} (f : X → List ℕ) (xs : List X) → length (map f xs) ≡ length xs
length-map f [] = refl
length-map f (x ∷ xs) = ap suc (length-map f xs)

-- ---- completeness

same_name : (c : Call) (a b : List ℕ) → c.words ≡ a ∷ [] → c.words ≡ b ∷ [] → a ≡ b
same_name c a b e f = let g : a ∷ [] ≡ b ∷ [] = sym e ∙ f in cc

held_bytes : (told : Option (Option (List ℕ))) (bytes : List ℕ) (P : List ℕ → Type 0) → told ≡ Some (Some bytes) → HeldWhereTold told P → P bytes
held_bytes None bytes P e h = absurd (cc)
held_bytes (Some None) bytes P e h = absurd h
held_bytes (Some (Some other)) bytes P e h = let same : other ≡ bytes = cc in rw same at h

-- what was read of a good file is what is held
same_bytes : (c : Call) (bytes : List ℕ) → IsRead c bytes → (good : IsGood c) → bytes ≡ good.bytes
same_bytes c bytes read good =
    let same : read.name ≡ good.name = same_name c read.name good.name read.word good.word in
    sym (held_bytes (c.told good.name) good.bytes (λ content. content ≡ bytes) good.held (rw same at read.held))

-- a program's tokens are of no annotation and of no other unit
no_other : (tokens : List Token) (p : Program) → IsOther tokens → Spells tokens p → ⊥
no_other tokens p (inl annotated) s = let plain = s.plain in cc
no_other tokens p (inr another) s =
    let same = (one_unit tokens another.kids s.kids another.names s.names another.unit s.unit).0 in
    let none = another.program in
    let some = s.program in
    let e = rw same at none in cc

-- a good file gets its report, or memory was wanting
pub good_reported : (c : Call) (status : Status) → Answers c status → IsGood c → IsReportOrMemory status
good_reported c Clean a good = tt
good_reported c Alarmed a good = tt
good_reported c Usage a good = let one : length c.words ≡ 1 = ap length good.word in absurd (a.1.0 one)
good_reported c Unread a good =
    let unread = a.1.1 in
    let same : a.1.0 ≡ good.name = same_name c a.1.0 good.name unread.word good.word in
    absurd (good.loaded (rw same at unread.rose))
good_reported c (Refused (Form at)) a good =
    let form = a.1.0 in
    let held = same_bytes c form.bytes form.read good in
    let source = rw (← held) at good.source in
    let tokens : source.tokens ≡ form.tokens = form.cut.all.only source.tokens source.cut.all.cut in
    absurd (no_other form.tokens good.program form.other (rw tokens at source.spells))
good_reported c (Refused (Syntax at)) a good =
    let syntax = a.1.0 in
    let held = same_bytes c syntax.bytes syntax.read good in
    let source = rw (← held) at good.source in
    let tokens : source.tokens ≡ syntax.tokens = syntax.cut.all.only source.tokens source.cut.all.cut in
    let spells = rw tokens at source.spells in
    absurd (syntax.none spells.kids spells.names spells.unit spells.shallow)
good_reported c (Refused (Lex sort at)) a good =
    let lex = a.1.0 in
    let held = same_bytes c lex.bytes lex.read good in
    let source = rw (← held) at good.source in
    absurd (lex.refused.none source.tokens source.cut.all.cut)
good_reported c (Refused (Limit limit found)) a good =
    let beyond = a.1.0 in
    let held = same_bytes c beyond.bytes beyond.read good in
    let source = rw (← held) at good.source in
    let tokens : source.tokens ≡ beyond.many.ts = beyond.many.all.only source.tokens source.cut.all.cut in
    let few = source.cut.few in let so_many = beyond.many.so_many in let many = beyond.many.many in let l = ap length tokens in
    absurd (omega arith)
good_reported c Unwritten (inl broken) good = absurd (good.put broken.1)
good_reported c Unwritten (inr broken) good = absurd (good.noted broken.1)
good_reported c Memory a good = tt
good_reported c TooLong a good =
    let long = a.1.1 in
    let same : a.1.0 ≡ good.name = same_name c a.1.0 good.name long.word good.word in
    let more = held_bytes (c.told good.name) good.bytes (λ content. most_bytes < length content) good.held (rw same at long.long) in
    let small = good.small in absurd (omega arith)
