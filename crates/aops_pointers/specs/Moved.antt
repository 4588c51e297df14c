-- Pointers moved by counts: one number by one count exactly, and else sets by sets (C11 6.5.6p8).
use Rattle.std.specs.Prelude.{ℕ, Bool, [], ◌∷◌, ℤ, Option, None, Some}
use Rattle.c_base.specs.declared.integer.Machine.{Machine}
use Rattle.ival_core.specs.declared.value.Ival.{Ival}
use Rattle.ival_core.specs.Ivals.{Holds}
use Rattle.ival_core.specs.Sets.{IsNumber}
use Rattle.ival_core.specs.Views.{single_of}
use Rattle.avalue_base.specs.Values.{AVal, Separate, Mixed}
use Rattle.aops_pointers.specs.Moves.{IsNear, moved_sets, summed}
use Rattle.aops_pointers.specs.Singles.{one_moved}

-- the number of a value that is one number, made from no address
abbrev pub value_number : AVal → Option ℤ
value_number (Separate numbers []) = single_of numbers.shape
value_number (Separate numbers (a ∷ addresses)) = None
value_number (Mixed bases) = None

abbrev pub number_or : Option Ival → AVal → AVal
number_or None v = v
number_or (Some set) v = Separate set []

-- by counts of elements of so many bytes
abbrev pub moved_value : Bool → Machine → ℕ → AVal → AVal → AVal
moved_value back machine size v w = number_or (one_moved back machine size (value_number v) (value_number w)) (moved_sets back machine size v w)

-- an address that is moved by k bytes keeps its offset; a pointer that was made from no address may be moved by any count
abbrev pub KeepsNear : Bool → ℤ → AVal → Type 0
KeepsNear back k (Separate ns []) = Unit {0}
KeepsNear back k (Separate ns (a ∷ addresses)) = IsNumber k × ((o : ℤ) → Holds a.offsets o → IsNear (summed back o k))
KeepsNear back k (Mixed bases) = Unit {0}
