-- The report of the places of a program.
use Rattle.std.specs.Prelude.{ℕ, zero, suc, ◌++◌, map, Bool, true, false, List, [], ◌∷◌, length, ℤ, pos, negsuc, Option, None, Some}
use Rattle.c_base.specs.declared.kind.Kind.{Kind}
use Rattle.c_base.specs.declared.kind.Kind.TheVariants.{SignedOverflow, Initialization}
use Rattle.c_base.specs.declared.number.Span.{Span}
use Rattle.c_memory.specs.Rows.{Numbers}
use Rattle.ival_core.specs.Ranges.{ranged}
use Rattle.first_program.specs.Source.{Program}
use Rattle.first_program.specs.Meaning.{main_name, meaning_of}
use Rattle.first_analysis.specs.declared.range.Range.{Range}
use Rattle.first_analysis.specs.declared.content.Content.{Content}
use Rattle.first_analysis.specs.declared.evaluation.Kinds.{Kinds}
use Rattle.first_analysis.specs.declared.place.Place.{Place}
use Rattle.eva_report.specs.Report.{ReportPart, Number, Uninit, ReportEntry, ReportString, ReportStmt, ReportAlarm, Report}
use Rattle.eva_report.specs.Views.{numbers_of}
use Rattle.eva_claim.specs.Claims.{names_of}

-- what is shown of a variable: the bounds of its numbers, if it may hold some, and whether nothing may be written yet
pub record Shown : Type 0 where
  pub bounds : Option (ℤ × ℤ)
  pub uninit : Bool

abbrev pub bounds_of : Option Range → Option (ℤ × ℤ)
bounds_of None = None
bounds_of (Some r) = Some (r.low, r.high)

abbrev pub shown_of : Content → Shown
shown_of c = record { bounds = bounds_of c.range; uninit = c.uninit }

-- all numbers between the bounds
abbrev pub numbers_in : ℤ × ℤ → Numbers
numbers_in b = numbers_of (ranged b.0 b.1 (pos 0) (pos 1))

abbrev pub flag_parts : Bool → List ReportPart
flag_parts true = Uninit ∷ []
flag_parts false = []

abbrev pub parts_of : Option (ℤ × ℤ) → Bool → List ReportPart
parts_of None uninit = flag_parts uninit
parts_of (Some b) uninit = Number (numbers_in b) ∷ flag_parts uninit

abbrev pub size_of : Option (ℤ × ℤ) → Option ℕ
size_of None = None
size_of (Some b) = Some 32

-- the entry of a variable of type int
abbrev pub entry_for : List ℕ → ℕ → Shown → ReportEntry
entry_for name base s =
    record { base = record { name = name; id = base }; low = 0; high = 31; size = size_of s.bounds; parts = parts_of s.bounds s.uninit }

-- the entries of the variables from a base on
abbrev pub row_from : (ℕ → List ℕ) → ℕ → List Shown → List ReportEntry
row_from names base [] = []
row_from names base (s ∷ ss) = entry_for (names base) base s ∷ row_from names (suc base) ss

-- any number of type int, or nothing yet
abbrev pub anything : Shown
anything = record { bounds = Some (negsuc 2147483647, pos 2147483647); uninit = true }

-- what is shown of so many variables, of which a row may lack some
abbrev pub shown_all : ℕ → List Content → List Shown
shown_all zero row = []
shown_all (suc count) [] = anything ∷ shown_all count []
shown_all (suc count) (c ∷ row) = shown_of c ∷ shown_all count row

abbrev pub shown_or : Option Content → Shown
shown_or None = anything
shown_or (Some c) = shown_of c

-- the row of a statement that is reached
abbrev pub strings_of : (ℕ → List ℕ) → ℕ → Option (List Content) → List ReportString
strings_of names count None = []
strings_of names count (Some row) = record { sites = []; rows = row_from names 1 (shown_all count row) ∷ [] } ∷ []

abbrev pub line_of : (ℕ → List ℕ) → ℕ → ℕ → Place → Span → ReportStmt
line_of names count id p span = record { id = id; span = span; function = main_name; strings = strings_of names count p.row }

-- the lines of the statements from `id` on, and of the closing brace
abbrev pub lines_from : (ℕ → List ℕ) → ℕ → ℕ → List Place → List Span → List ReportStmt
lines_from names count id [] spans = []
lines_from names count id (p ∷ places) [] = []
lines_from names count id (p ∷ places) (span ∷ spans) = line_of names count id p span ∷ lines_from names count (suc id) places spans

abbrev pub alarm_if : Bool → Kind → ℕ → List ReportAlarm
alarm_if true kind id = record { kind = kind; at = id; sites = [] } ∷ []
alarm_if false kind id = []

abbrev pub place_alarms : ℕ → Kinds → List ReportAlarm
place_alarms id ks = alarm_if ks.overflow SignedOverflow id ++ alarm_if ks.initialization Initialization id

abbrev pub alarms_from : ℕ → List Place → List ReportAlarm
alarms_from id [] = []
alarms_from id (p ∷ places) = place_alarms id p.kinds ++ alarms_from (suc id) places

abbrev pub report_of : Program → List Place → Report
report_of p places = record {
  hyps = [];
  stmts = lines_from (names_of (meaning_of p)) (length p.variables) 1 places p.spans;
  alarms = alarms_from 1 places;
}
