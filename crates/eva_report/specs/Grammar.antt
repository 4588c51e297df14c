-- Which reports keep the rules of the format: on the order of lines and parts, on sizes, and on sets and intervals.
use Rattle.std.specs.Prelude.{ℕ, suc, ◌+◌, ◌-◌, ◌*◌, ◌%◌, ◌<◌, ◌≤◌, ◌≡◌, ◌≢◌, ◌⊎◌, ℤ, pos, ◌+ℤ◌, ◌<ℤ◌, ◌≤ℤ◌, List, [], ◌∷◌, length, Option, None, Some}
use Rattle.std.specs.List.{AllByRecursion}
use Rattle.c_base.specs.declared.kind.Kind.{Kind}
use Rattle.c_base.specs.KindSets.{number_of_kind}
use Rattle.c_base.specs.Integers.{residue}
use Rattle.c_memory.specs.Rows.{Numbers, Few, Many}
use Rattle.eva_report.specs.Report.{ReportBase, ReportPart, Number, Address, Mix, Uninit, Dead, ReportEntry, ReportString, ReportStmt, ReportAlarm, Report}

-- each element comes before the one behind it
abbrev pub IsOrdered : {X : Type 0} → (X → X → Type 0) → List X → Type 0
IsOrdered Before [] = Unit {0}
IsOrdered Before (x ∷ []) = Unit {0}
IsOrdered Before (x ∷ y ∷ ys) = Before x y × IsOrdered Before (y ∷ ys)

-- an interval: more than 8 numbers, and its bounds are two of them
pub record IsInterval (low high : ℤ) (remainder modulus : ℕ) : Type 0 where
  pub moves : 1 ≤ modulus
  pub below : remainder < modulus
  pub first : residue modulus low ≡ remainder
  pub last : residue modulus high ≡ remainder
  pub many : (low +ℤ pos (8 * modulus)) ≤ℤ high

-- a set has 1 to 8 numbers, ascending
abbrev pub AreNumbers : Numbers → Type 0
AreNumbers (Few ns) = (1 ≤ length ns) × (length ns ≤ 8) × IsOrdered ◌<ℤ◌ ns
AreNumbers (Many low high remainder modulus) = IsInterval low high remainder modulus

abbrev pub IsBefore : ReportBase → ReportBase → Type 0
IsBefore a b = a.id < b.id

abbrev pub IsPart : ReportPart → Type 0
IsPart (Number ns) = AreNumbers ns
IsPart (Address base offsets) = AreNumbers offsets
IsPart (Mix bases) = (bases ≢ []) × IsOrdered IsBefore bases
IsPart Uninit = Unit {0}
IsPart Dead = Unit {0}

-- the parts stand in the order numbers, addresses by base or one mix in their place, not written, dead; each at most once
abbrev pub IsFollowed : ReportPart → ReportPart → Type 0
IsFollowed (Number ns) (Number ms) = ⊥
IsFollowed (Number ns) (Mix bases) = ⊥
IsFollowed (Number ns) (Address base offsets) = Unit {0}
IsFollowed (Address base offsets) (Address other more) = IsBefore base other
IsFollowed (Address base offsets) (Number ns) = ⊥
IsFollowed (Address base offsets) (Mix bases) = ⊥
IsFollowed (Mix bases) (Number ns) = ⊥
IsFollowed (Mix bases) (Address base offsets) = ⊥
IsFollowed (Mix bases) (Mix others) = ⊥
IsFollowed Uninit Dead = Unit {0}
IsFollowed Uninit part = ⊥
IsFollowed Dead part = ⊥
IsFollowed part Uninit = Unit {0}
IsFollowed part Dead = Unit {0}

-- the first part tells whether there is more than flags
abbrev pub AreFlags : List ReportPart → Type 0
AreFlags (Uninit ∷ parts) = Unit {0}
AreFlags (Dead ∷ parts) = Unit {0}
AreFlags parts = ⊥

-- elements of a size divide the range, and an entry without a size has flags alone
abbrev pub IsSized : Option ℕ → ℕ → List ReportPart → Type 0
IsSized None bits parts = AreFlags parts
IsSized (Some size) bits parts = (1 ≤ size) × (bits % size ≡ 0) × (AreFlags parts → ⊥)

pub record IsEntry (e : ReportEntry) : Type 0 where
  pub some : e.parts ≢ []
  pub each : AllByRecursion IsPart e.parts
  pub order : IsOrdered IsFollowed e.parts
  pub range : e.low ≤ e.high
  pub sized : IsSized e.size (suc e.high - e.low) e.parts

-- ranges of one base follow each other, and bases ascend
abbrev pub IsNext : ReportEntry → ReportEntry → Type 0
IsNext a b = (a.base.id < b.base.id) ⊎ ((a.base.id ≡ b.base.id) × (b.low ≡ suc a.high))

abbrev pub IsRow : List ReportEntry → Type 0
IsRow row = AllByRecursion IsEntry row × IsOrdered IsNext row

-- lists of call sites in the order of a dictionary
abbrev pub IsSooner : List ℕ → List ℕ → Type 0
IsSooner a [] = ⊥
IsSooner [] (y ∷ ys) = Unit {0}
IsSooner (x ∷ xs) (y ∷ ys) = (x < y) ⊎ ((x ≡ y) × IsSooner xs ys)

-- a call string is printed where a row of it is
pub record IsString (s : ReportString) : Type 0 where
  pub some : s.rows ≢ []
  pub each : AllByRecursion IsRow s.rows

abbrev pub StringBefore : ReportString → ReportString → Type 0
StringBefore a b = IsSooner a.sites b.sites

pub record IsStmt (s : ReportStmt) : Type 0 where
  pub each : AllByRecursion IsString s.strings
  pub order : IsOrdered StringBefore s.strings

abbrev pub StmtBefore : ReportStmt → ReportStmt → Type 0
StmtBefore a b = a.id < b.id

abbrev pub KindBefore : Kind → Kind → Type 0
KindBefore a b = number_of_kind a < number_of_kind b

-- alarms are told by statement, then by call string, then by kind
abbrev pub AlarmBefore : ReportAlarm → ReportAlarm → Type 0
AlarmBefore a b =
    (a.at < b.at) ⊎ ((a.at ≡ b.at) × (IsSooner a.sites b.sites ⊎ ((a.sites ≡ b.sites) × KindBefore a.kind b.kind)))

pub record IsReport (r : Report) : Type 0 where
  pub stmts : AllByRecursion IsStmt r.stmts
  pub ascending : IsOrdered StmtBefore r.stmts
  pub alarms : IsOrdered AlarmBefore r.alarms
