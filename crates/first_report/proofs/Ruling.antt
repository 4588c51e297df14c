-- The report keeps the rules of the format, and names the program's objects.
use Rattle.std.proofs.Common.{◌≡◌, ℕ, zero, suc, ◌+◌, ◌-◌, ◌≤◌, Bool, true, false, IsTrue, List, [], ◌∷◌, ◌++◌, length, Option, None, Some, ℤ, refl, ap, inl, inr, arith}
use Rattle.std.specs.List.{AllByRecursion}
use Rattle.std.proofs.lemmas.Int.{ints}
use Rattle.c_base.specs.declared.kind.Kind.TheVariants.{SignedOverflow, Initialization}
use Rattle.c_base.specs.declared.number.Span.{Span}
use Rattle.c_program.specs.Syntax.{is_shown}
use Rattle.first_analysis.specs.Evaluation.{IsVariable}
use Rattle.first_program.specs.Source.{Program}
use Rattle.first_program.specs.Meaning.{meaning_of}
use Rattle.first_analysis.specs.declared.range.Range.{Range}
use Rattle.first_analysis.specs.declared.content.Content.{Content}
use Rattle.first_analysis.specs.declared.place.Place.{Place}
use Rattle.first_analysis.specs.Parts.{has_part}
use Rattle.eva_report.specs.Report.{ReportAlarm}
use Rattle.eva_report.specs.Grammar.{IsOrdered, IsEntry, IsNext, IsString, IsStmt, StringBefore, StmtBefore, AlarmBefore, IsReport}
use Rattle.eva_report.proofs.Numbers.{range_shown}
use Rattle.eva_claim.specs.Claims.{names_of, IsNamedPart, IsOfObject, AreOfObjects}
use Rattle.first_report.specs.Rows.{Shown, bounds_of, shown_of, shown_all, parts_of, entry_for, row_from, strings_of, lines_from, alarm_if, alarms_from, report_of}
use Rattle.first_report.proofs.Describing.{AreBounds}
use Rattle.first_report.proofs.Placing.{base_known}

-- ---- entries

-- there is a part, and bounds are in order
pub record IsShowable (s : Shown) : Type 0 where
  pub bounds : AreBounds s.bounds
  pub part : IsTrue (has_part s.bounds s.uninit)

content_showable : (c : Content) → IsShowable (shown_of c)
content_showable c = by_range c.range refl
  where
    by_range : (range : Option Range) → c.range ≡ range → IsShowable (record { bounds = bounds_of range; uninit = c.uninit })
    by_range None e = record { bounds = tt; part = rw e at c.part }
    by_range (Some r) e = record { bounds = r.some; part = refl }

all_showable : (count : ℕ) (row : List Content) → AllByRecursion IsShowable (shown_all count row)
all_showable zero row = tt
all_showable (suc count) [] = (record { bounds = omega (arith, ints); part = refl }, all_showable count [])
all_showable (suc count) (c ∷ row) = (content_showable c, all_showable count row)

entry_ruled : (name : List ℕ) (base : ℕ) (s : Shown) → IsShowable s → IsEntry (entry_for name base s)
entry_ruled name base s h = by_parts s.bounds s.uninit h.bounds h.part
  where
    by_parts : (bounds : Option (ℤ × ℤ)) (uninit : Bool) → AreBounds bounds → IsTrue (has_part bounds uninit) → IsEntry (entry_for name base (record { bounds = bounds; uninit = uninit }))
    by_parts None true order part = record { some = λ e. absurd (cc); each = (tt, tt); order = tt; range = omega arith; sized = tt }
    by_parts None false order part = absurd (cc)
    by_parts (Some b) true order part =
        record { some = λ e. absurd (cc); each = (range_shown b.0 b.1 order, (tt, tt)); order = (tt, tt); range = omega arith; sized = (omega arith, refl, λ h. h) }
    by_parts (Some b) false order part =
        record { some = λ e. absurd (cc); each = (range_shown b.0 b.1 order, tt); order = tt; range = omega arith; sized = (omega arith, refl, λ h. h) }

-- ---- rows

entries_ruled : (names : ℕ → List ℕ) (base : ℕ) (ss : List Shown) → AllByRecursion IsShowable ss → AllByRecursion IsEntry (row_from names base ss)
entries_ruled names base [] h = tt
entries_ruled names base (s ∷ ss) h = (entry_ruled (names base) base s h.0, entries_ruled names (suc base) ss h.1)

entries_ordered : (names : ℕ → List ℕ) (base : ℕ) (ss : List Shown) → IsOrdered IsNext (row_from names base ss)
entries_ordered names base [] = tt
entries_ordered names base (s ∷ []) = tt
entries_ordered names base (s ∷ t ∷ ss) = (inl (omega arith), entries_ordered names (suc base) (t ∷ ss))

strings_ruled : (names : ℕ → List ℕ) (count : ℕ) (row : Option (List Content)) → AllByRecursion IsString (strings_of names count row)
strings_ruled names count None = tt
strings_ruled names count (Some row) = (
  record { some = λ e. absurd (cc); each = ((entries_ruled names 1 (shown_all count row) (all_showable count row), entries_ordered names 1 (shown_all count row)), tt) },
  tt,
)

strings_ordered : (names : ℕ → List ℕ) (count : ℕ) (row : Option (List Content)) → IsOrdered StringBefore (strings_of names count row)
strings_ordered names count None = tt
strings_ordered names count (Some row) = tt

-- ---- lines

module _ (names : ℕ → List ℕ) (count : ℕ) where
  lines_ruled : (id : ℕ) (places : List Place) (spans : List Span) → AllByRecursion IsStmt (lines_from names count id places spans)
  lines_ruled id [] spans = tt
  lines_ruled id (p ∷ places) [] = tt
  lines_ruled id (p ∷ places) (span ∷ spans) =
      (record { each = strings_ruled names count p.row; order = strings_ordered names count p.row }, lines_ruled (suc id) places spans)

  lines_ordered : (id : ℕ) (places : List Place) (spans : List Span) → IsOrdered StmtBefore (lines_from names count id places spans)
  lines_ordered id [] spans = tt
  lines_ordered id (p ∷ places) [] = tt
  lines_ordered id (p ∷ []) (span ∷ spans) = tt
  lines_ordered id (p ∷ q ∷ places) (span ∷ []) = tt
  lines_ordered id (p ∷ q ∷ places) (span ∷ next ∷ spans) = (omega arith, lines_ordered (suc id) (q ∷ places) (next ∷ spans))

-- ---- alarms

-- the first alarm, if there is one, stands at a statement from this number on
abbrev BeginsFrom : ℕ → List ReportAlarm → Type 0
BeginsFrom id [] = Unit {0}
BeginsFrom id (a ∷ as') = id ≤ a.at

begins_later : (id : ℕ) (as' : List ReportAlarm) → BeginsFrom (suc id) as' → BeginsFrom id as'
begins_later id [] h = tt
begins_later id (a ∷ as') h = omega arith

kinds_begin : (id : ℕ) (overflow initialization : Bool) (more : List ReportAlarm) → BeginsFrom (suc id) more →
    BeginsFrom id ((alarm_if overflow SignedOverflow id ++ alarm_if initialization Initialization id) ++ more)
kinds_begin id true initialization more h = omega arith
kinds_begin id false true more h = omega arith
kinds_begin id false false more h = begins_later id more h

alarms_begin : (id : ℕ) (places : List Place) → BeginsFrom id (alarms_from id places)
alarms_begin id [] = tt
alarms_begin id (p ∷ places) = kinds_begin id p.kinds.overflow p.kinds.initialization (alarms_from (suc id) places) (alarms_begin (suc id) places)

before_later : (a : ReportAlarm) (more : List ReportAlarm) → BeginsFrom (suc a.at) more → IsOrdered AlarmBefore more → IsOrdered AlarmBefore (a ∷ more)
before_later a [] h order = tt
before_later a (b ∷ more) h order = (inl (omega arith), order)

kinds_ordered : (id : ℕ) (overflow initialization : Bool) (more : List ReportAlarm) → BeginsFrom (suc id) more → IsOrdered AlarmBefore more →
    IsOrdered AlarmBefore ((alarm_if overflow SignedOverflow id ++ alarm_if initialization Initialization id) ++ more)
kinds_ordered id true true more h order =
    (inr (refl, inr (refl, omega arith)), before_later (record { kind = Initialization; at = id; sites = [] }) more h order)
kinds_ordered id true false more h order = before_later (record { kind = SignedOverflow; at = id; sites = [] }) more h order
kinds_ordered id false true more h order = before_later (record { kind = Initialization; at = id; sites = [] }) more h order
kinds_ordered id false false more h order = order

alarms_ordered : (id : ℕ) (places : List Place) → IsOrdered AlarmBefore (alarms_from id places)
alarms_ordered id [] = tt
alarms_ordered id (p ∷ places) =
    kinds_ordered id p.kinds.overflow p.kinds.initialization (alarms_from (suc id) places) (alarms_begin (suc id) places) (alarms_ordered (suc id) places)

pub ruled : (p : Program) (places : List Place) → IsReport (report_of p places)
ruled p places = record {
  stmts = lines_ruled (names_of (meaning_of p)) (length p.variables) 1 places p.spans;
  ascending = lines_ordered (names_of (meaning_of p)) (length p.variables) 1 places p.spans;
  alarms = alarms_ordered 1 places;
}

-- ---- objects

module _ (p : Program) where
  parts_named : (bounds : Option (ℤ × ℤ)) (uninit : Bool) → AllByRecursion (IsNamedPart (meaning_of p)) (parts_of bounds uninit)
  parts_named None true = (tt, tt)
  parts_named None false = tt
  parts_named (Some b) true = (tt, (tt, tt))
  parts_named (Some b) false = (tt, tt)

  variable_shown : (base : ℕ) → IsVariable (length p.variables) base → IsTrue (is_shown (meaning_of p) base)
  variable_shown base v = rw (base_known p base v) refl

  entries_named : (base : ℕ) (ss : List Shown) → 1 ≤ base → base + length ss ≤ suc (length p.variables) →
      AllByRecursion (IsOfObject (meaning_of p)) (row_from (names_of (meaning_of p)) base ss)
  entries_named base [] low high = tt
  entries_named base (s ∷ ss) low high = (
    record { named = refl; shown = variable_shown base (record { low = low; high = omega arith }); parts = parts_named s.bounds s.uninit },
    entries_named (suc base) ss (omega arith) (omega arith),
  )

  length-all : (count : ℕ) (row : List Content) → length (shown_all count row) ≡ count
  length-all zero row = refl
  length-all (suc count) [] = ap suc (length-all count [])
  length-all (suc count) (c ∷ row) = ap suc (length-all count row)

  strings_named : (row : Option (List Content)) → AllByRecursion (AreOfObjects (meaning_of p)) (strings_of (names_of (meaning_of p)) (length p.variables) row)
  strings_named None = tt
  strings_named (Some row) =
      let ss = shown_all (length p.variables) row in
      let many = length-all (length p.variables) row in
      ((entries_named 1 ss (omega arith) (omega arith), tt), tt)

  pub objects_named : (id : ℕ) (places : List Place) (spans : List Span) →
      AllByRecursion (λ s. AllByRecursion (AreOfObjects (meaning_of p)) s.strings) (lines_from (names_of (meaning_of p)) (length p.variables) id places spans)
  objects_named id [] spans = tt
  objects_named id (q ∷ places) [] = tt
  objects_named id (q ∷ places) (span ∷ spans) = (strings_named q.row, objects_named (suc id) places spans)
