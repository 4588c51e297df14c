-- What a report claims of the runs of a program.
use Rattle.std.specs.Prelude.{ℕ, ◌≡◌, ◌≢◌, ◌↔◌, Bool, IsTrue, List, [], length, map, Option, None, Some}
use Rattle.std.specs.List.{AllByRecursion}
use Rattle.c_base.specs.declared.kind.Kind.{Kind}
use Rattle.c_memory.specs.Layouts.{Layout}
use Rattle.c_memory.specs.Memories.{Memory}
use Rattle.c_memory.specs.Rows.{Describes}
use Rattle.c_program.specs.Syntax.{Program, Function, Base, base_at, is_shown, numbers_from, IsLayout}
use Rattle.c_program.specs.Valid.{IsValid}
use Rattle.c_program.specs.Checked.{AreFlowing}
use Rattle.c_program.specs.Packing.{HasRoom}
use Rattle.c_machine.specs.Laws.{IsSelfContained}
use Rattle.c_machine.specs.Machine.{State, Stops, Step, IsInitial, IsRun, last_of, arrival, sites_of}
use Rattle.eva_report.specs.Report.{ReportBase, ReportPart, ReportEntry, ReportString, ReportStmt, Report, report_text}
use Rattle.eva_report.specs.Grammar.{IsReport}
use Rattle.eva_report.specs.Meaning.{meaning_of, bases_of}
use Rattle.eva_claim.specs.Numbering.{IsIn, numbers_of}

-- a row under the statement's line and the call string's line describes the memory
pub record IsCovered (p : Program) (r : Report) (l : Layout) (id : ℕ) (sites : List ℕ) (m : Memory) : Type 0 where
  pub stmt : ReportStmt
  pub string : ReportString
  pub row : List ReportEntry
  pub has_stmt : IsIn stmt r.stmts
  pub has_string : IsIn string stmt.strings
  pub has_row : IsIn row string.rows
  pub same_id : stmt.id ≡ id
  pub same_sites : string.sites ≡ sites
  pub describes : Describes l (is_shown p) (map meaning_of row) m

abbrev pub IsAlarmed : Report → Kind → ℕ → List ℕ → Type 0
IsAlarmed r kind id sites = IsIn (record { kind = kind; at = id; sites = sites }) r.alarms

-- a state's memory is covered where it is one at a statement, and a stop from it has its alarm
pub record IsMet (p : Program) (r : Report) (l : Layout) (s : State) : Type 0 where
  pub rows : (id : ℕ) → arrival s.control ≡ Some id → IsCovered p r l id (sites_of s.control) s.memory
  pub stops : (kind : Kind) (id : ℕ) (sites : List ℕ) → Step p l s (Stops kind id sites) → IsAlarmed r kind id sites

-- For every placement of objects and every run: each memory at a statement lies in a printed row of that statement and call string, and
-- each stop has a printed alarm of its kind at its statement in its call string.
abbrev pub IsSound : Program → Report → Type 0
IsSound p r = (l : Layout) → IsLayout p l → (s : State) → IsInitial p l s → (ts : List State) → IsRun p l s ts → IsMet p r l (last_of s ts)

-- the name that a base is printed with
abbrev pub name_of : Option Base → List ℕ
name_of None = []
name_of (Some b) = b.name

abbrev pub names_of : Program → ℕ → List ℕ
names_of p base = name_of (base_at p.bases base)

-- the line names the function in which the statement stands
pub record IsNamedAfter (p : Program) (s : ReportStmt) : Type 0 where
  pub function : Function
  pub known : IsIn function p.functions
  pub stands : IsIn s.id (numbers_of function)
  pub name : s.function ≡ names_of p function.base

-- every statement of the program has its line, ascending, with its place in the file and the name of its function
pub record IsComplete (p : Program) (r : Report) : Type 0 where
  pub numbers : map (λ s. s.id) r.stmts ≡ numbers_from 1 (length p.spans)
  pub places : map (λ s. s.span) r.stmts ≡ p.spans
  pub functions : AllByRecursion (IsNamedAfter p) r.stmts

abbrev pub IsNamed : Program → ReportBase → Type 0
IsNamed p b = b.name ≡ names_of p b.id

abbrev pub IsNamedPart : Program → ReportPart → Type 0
IsNamedPart p part = AllByRecursion (IsNamed p) (bases_of part)

-- an entry is one of an object, by its name: rows have no functions and no string literals
pub record IsOfObject (p : Program) (e : ReportEntry) : Type 0 where
  pub named : IsNamed p e.base
  pub shown : IsTrue (is_shown p e.base.id)
  pub parts : AllByRecursion (IsNamedPart p) e.parts

abbrev pub AreOfObjects : Program → ReportString → Type 0
AreOfObjects p s = AllByRecursion (AllByRecursion (IsOfObject p)) s.rows

-- The report claims all this of the program: its rows and alarms cover every run of every layout; it is complete; its bases are those of
-- the program; it takes no function on trust, as none without a body is called; and it keeps the rules of the format.
pub record IsClaimed (p : Program) (r : Report) : Type 0 where
  pub sound : IsSound p r
  pub complete : IsComplete p r
  pub objects : AllByRecursion (λ s. AllByRecursion (AreOfObjects p) s.strings) r.stmts
  pub hyps : r.hyps ≡ []
  pub rules : IsReport r

-- The text is that of such a report, which has an alarm exactly where the flag says so. The program is valid and has room in memory, its
-- jumps lead somewhere, and its functions have bodies, so that it has layouts, starts in each of them, and no run of it gets stuck.
pub record IsReportOf (p : Program) (alarmed : Bool) (text : List ℕ) : Type 0 where
  pub valid : IsValid p
  pub flowing : AreFlowing p
  pub whole : IsSelfContained p
  pub room : HasRoom p
  pub report : Report
  pub claimed : IsClaimed p report
  pub is_text : text ≡ report_text report
  pub flag : IsTrue alarmed ↔ (report.alarms ≢ [])
