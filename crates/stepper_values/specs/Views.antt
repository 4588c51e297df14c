-- What the data of runs stand for: numbers, values, what memory holds bit by bit, and what is held.
use Rattle.std.specs.Prelude.{ℕ, Bool, false, List, ℤ, pos, negsuc, Result, Ok, Err, map, length, slice_get, unwrap_or}
use Rattle.std.specs.FinSet.{from_list}
use Rattle.stepper_values.specs.declared.number.Number.{Number}
use Rattle.stepper_values.specs.declared.number.Number.TheVariants.{Natural, Negative}
use Rattle.stepper_values.specs.declared.value.Value.{Value as CodeValue}
use Rattle.stepper_values.specs.declared.value.Cell.{Cell as CodeCell}
use Rattle.stepper_values.specs.declared.value.Cell.TheVariants.{Uninit as CodeUninit, Dead as CodeDead, Bit as CodeBit}
use Rattle.stepper_values.specs.declared.value.Held.{Held as CodeHeld}
use Rattle.stepper_values.specs.declared.value.Held.TheVariants.{Usable as CodeUsable, Unusable as CodeUnusable, Cells as CodeCells, Absent as CodeAbsent, Part as CodePart}
use Rattle.stepper_values.specs.declared.layout.Object.{Object}
use Rattle.stepper_values.specs.declared.layout.Layout.{Layout as CodeLayout}
use Rattle.c_base.specs.declared.kind.Kind.{Kind}
use Rattle.c_memory.specs.Layouts.{Layout}
use Rattle.c_memory.specs.Operations.{truth_of}
use Rattle.c_memory.specs.Values.{Value, Provenance, Cell, Uninit, Dead, Bit}
use Rattle.c_machine.specs.Work.{Held, Usable, Unusable, Cells, Absent, Part}
use Rattle.c_program.specs.Syntax.{numbers_from}

abbrev pub number_of : Number → ℤ
number_of (Natural n) = pos n
number_of (Negative n) = negsuc n

-- a number, or why there is none
abbrev pub number_result_of : Result Number Kind → Result ℤ Kind
number_result_of (Ok n) = Ok (number_of n)
number_result_of (Err kind) = Err kind

-- a list of bases stands for their set
abbrev pub bases_of : List ℕ → Provenance
bases_of bases = from_list bases

abbrev pub value_of : CodeValue → Value
value_of v = record { number = number_of v.number; provenance = bases_of v.bases }

abbrev pub value_result_of : Result CodeValue Kind → Result Value Kind
value_result_of (Ok v) = Ok (value_of v)
value_result_of (Err kind) = Err kind

abbrev pub cell_of : CodeCell → Cell
cell_of CodeUninit = Uninit
cell_of CodeDead = Dead
cell_of (CodeBit bit bases piece) = Bit bit (bases_of bases) piece

abbrev pub held_of : CodeHeld → Held
held_of (CodeUsable v) = Usable (value_of v)
held_of (CodeUnusable kind) = Unusable kind
held_of (CodeCells cells) = Cells (map cell_of cells)
held_of CodeAbsent = Absent
held_of (CodePart cells) = Part (map cell_of cells)

abbrev pub held_result_of : Result CodeHeld Kind → Result Held Kind
held_result_of (Ok h) = Ok (held_of h)
held_result_of (Err kind) = Err kind

-- a base that isn't listed has no bytes
abbrev pub object_at : List Object → ℕ → Object
object_at objects base = unwrap_or (slice_get objects base) (record { address = 0; size = 0; readonly = false })

abbrev pub layout_of : CodeLayout → Layout
layout_of l = record {
  machine = l.machine;
  address = λ base. (object_at l.objects base).address;
  size = λ base. (object_at l.objects base).size;
  readonly = λ base. (object_at l.objects base).readonly;
  bases = numbers_from 0 (length l.objects);
}

abbrev pub truth_result_of : Result Value Kind → Result Bool Kind
truth_result_of (Ok v) = Ok (truth_of v)
truth_result_of (Err kind) = Err kind
