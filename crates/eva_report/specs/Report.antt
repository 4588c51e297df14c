-- Reports, and their text.
use Rattle.std.specs.Prelude.{ℕ, nat_lt, Bool, true, false, cond, List, [], ◌∷◌, ◌++◌, map, Option, None, Some}
use Rattle.std.specs.Fmt.{decimal, signed_decimal}
use lib.Chars.{codes}
use Rattle.c_base.specs.declared.kind.Kind.{Kind}
use Rattle.c_base.specs.declared.kind.Kind.TheVariants.{DivisionByZero, SignedOverflow, Shift, MemAccess, IndexBound, Initialization, DanglingPointer, PtrComparison, DifferingBlocks, Overlap, FunctionPointer, Assertion, Precondition, Postcondition}
use Rattle.c_base.specs.declared.number.Span.{Span}
use Rattle.c_memory.specs.Rows.{Numbers, Few, Many}

-- a base, by its name and number
pub record ReportBase : Type 0 where
  pub name : List ℕ
  pub id : ℕ

-- What an element may hold: numbers that were made from no address; byte offsets into a base; anything made from the addresses of some
-- bases; bits that are not written; or dead ones.
pub data ReportPart : Type 0 where
  Number : Numbers → ReportPart
  Address : ReportBase → Numbers → ReportPart
  Mix : List ReportBase → ReportPart
  Uninit : ReportPart
  Dead : ReportPart

-- the bits `low` to `high` of a base, in elements of `size` bits that each hold one of the parts
pub record ReportEntry : Type 0 where
  pub base : ReportBase
  pub low : ℕ
  pub high : ℕ
  pub size : Option ℕ
  pub parts : List ReportPart

-- the rows of a statement in one call string, outermost call site first
pub record ReportString : Type 0 where
  pub sites : List ℕ
  pub rows : List (List ReportEntry)

-- a statement with its number, its place in the file and its function's name
pub record ReportStmt : Type 0 where
  pub id : ℕ
  pub span : Span
  pub function : List ℕ
  pub strings : List ReportString

pub record ReportAlarm : Type 0 where
  pub kind : Kind
  pub at : ℕ
  pub sites : List ℕ

-- `hyps` names the functions without body and contract that were called
pub record Report : Type 0 where
  pub hyps : List (List ℕ)
  pub stmts : List ReportStmt
  pub alarms : List ReportAlarm

abbrev pub line_end : List ℕ
line_end = 10 ∷ []

-- the texts, with the separator between each two
abbrev pub joined : List ℕ → List (List ℕ) → List ℕ
joined separator [] = []
joined separator (text ∷ []) = text
joined separator (text ∷ more ∷ texts) = text ++ separator ++ joined separator (more ∷ texts)

-- the texts, one behind the other
abbrev pub all_texts : {X : Type 0} → (X → List ℕ) → List X → List ℕ
all_texts text [] = []
all_texts text (x ∷ xs) = text x ++ all_texts text xs

abbrev pub kind_name : Kind → List ℕ
kind_name DivisionByZero = codes "division_by_zero"
kind_name SignedOverflow = codes "signed_overflow"
kind_name Shift = codes "shift"
kind_name MemAccess = codes "mem_access"
kind_name IndexBound = codes "index_bound"
kind_name Initialization = codes "initialization"
kind_name DanglingPointer = codes "dangling_pointer"
kind_name PtrComparison = codes "ptr_comparison"
kind_name DifferingBlocks = codes "differing_blocks"
kind_name Overlap = codes "overlap"
kind_name FunctionPointer = codes "function_pointer"
kind_name Assertion = codes "assertion"
kind_name Precondition = codes "precondition"
kind_name Postcondition = codes "postcondition"

unfoldable pub site_text : ℕ → List ℕ
site_text site = codes "c" ++ decimal site

-- a call string: its sites, or `-` where there is none
abbrev pub sites_text : List ℕ → List ℕ
sites_text [] = codes "-"
sites_text (site ∷ sites) = joined (codes ".") (map site_text (site ∷ sites))

unfoldable pub modulus_text : ℕ → ℕ → List ℕ
modulus_text remainder modulus = cond (nat_lt 1 modulus) (codes "," ++ decimal remainder ++ codes "%" ++ decimal modulus) []

unfoldable pub set_text : List (List ℕ) → List ℕ
set_text numbers = codes "{" ++ joined (codes "; ") numbers ++ codes "}"

unfoldable pub bounds_text : List ℕ → List ℕ → List ℕ
bounds_text low high = codes "[" ++ low ++ codes ".." ++ high ++ codes "]"

abbrev pub numbers_text : Numbers → List ℕ
numbers_text (Few ns) = set_text (map signed_decimal ns)
numbers_text (Many low high remainder modulus) = bounds_text (signed_decimal low) (signed_decimal high) ++ modulus_text remainder modulus

unfoldable pub base_text : ReportBase → List ℕ
base_text base = base.name ++ codes "#" ++ decimal base.id

unfoldable pub address_text : List ℕ → List ℕ → List ℕ
address_text base offsets = codes "&" ++ base ++ codes "+" ++ offsets

unfoldable pub mix_text : List (List ℕ) → List ℕ
mix_text bases = codes "mix(" ++ joined (codes ",") bases ++ codes ")"

abbrev pub part_text : ReportPart → List ℕ
part_text (Number ns) = numbers_text ns
part_text (Address base offsets) = address_text (base_text base) (numbers_text offsets)
part_text (Mix bases) = mix_text (map base_text bases)
part_text Uninit = codes "uninit"
part_text Dead = codes "dead"

abbrev pub size_text : Option ℕ → List ℕ
size_text None = []
size_text (Some size) = codes "/" ++ decimal size

-- the base and the bits of an entry
unfoldable pub range_text : List ℕ → ℕ → ℕ → List ℕ
range_text base low high = base ++ codes " " ++ decimal low ++ codes ".." ++ decimal high

abbrev pub parts_text : List ReportPart → List ℕ
parts_text parts = joined (codes " or ") (map part_text parts)

unfoldable pub entry_text : ReportEntry → List ℕ
entry_text e = range_text (base_text e.base) e.low e.high ++ size_text e.size ++ codes " " ++ parts_text e.parts ++ line_end

unfoldable pub row_head : List ℕ
row_head = codes "row" ++ line_end

abbrev pub row_text : List ReportEntry → List ℕ
row_text row = row_head ++ all_texts entry_text row

unfoldable pub string_head : List ℕ → List ℕ
string_head sites = codes "in " ++ sites ++ line_end

abbrev pub string_text : ReportString → List ℕ
string_text s = string_head (sites_text s.sites) ++ all_texts row_text s.rows

unfoldable pub stmt_head : ℕ → Span → List ℕ → List ℕ
stmt_head id span function =
    codes "stmt " ++ decimal id ++ codes " " ++ decimal span.line ++ codes ":" ++ decimal span.col ++ codes " " ++ function ++ line_end

abbrev pub stmt_text : ReportStmt → List ℕ
stmt_text s = stmt_head s.id s.span s.function ++ all_texts string_text s.strings

unfoldable pub alarm_line : List ℕ → ℕ → List ℕ → List ℕ
alarm_line kind at sites = codes "alarm " ++ kind ++ codes " " ++ decimal at ++ codes " in " ++ sites ++ line_end

abbrev pub alarm_text : ReportAlarm → List ℕ
alarm_text a = alarm_line (kind_name a.kind) a.at (sites_text a.sites)

unfoldable pub hyp_text : List ℕ → List ℕ
hyp_text name = codes "hyp " ++ name ++ line_end

unfoldable pub first_line : List ℕ
first_line = codes "eva 1" ++ line_end

unfoldable pub end_line : Bool → List ℕ
end_line true = codes "end clean" ++ line_end
end_line false = codes "end alarmed" ++ line_end

abbrev pub is_clean : List ReportAlarm → Bool
is_clean [] = true
is_clean (a ∷ as') = false

-- the lines of a report: the functions that were taken on trust, the statements, the alarms, and whether there is one
abbrev pub report_text : Report → List ℕ
report_text r =
    first_line ++ all_texts hyp_text r.hyps ++ all_texts stmt_text r.stmts ++ all_texts alarm_text r.alarms ++ end_line (is_clean r.alarms)
