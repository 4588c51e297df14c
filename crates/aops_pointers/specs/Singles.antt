-- One pointer that was made from no address, moved by one count.
use Rattle.std.specs.Prelude.{ℕ, Bool, [], ◌∷◌, ℤ, pos, ◌*ℤ◌, Option, None, Some}
use Rattle.c_base.specs.declared.integer.Machine.{Machine}
use Rattle.c_pointers.specs.Conversions.{address_number}
use Rattle.ival_core.specs.declared.value.Shape.TheVariants.{Few}
use Rattle.ival_core.specs.declared.value.Ival.{Ival}
use Rattle.avalue_base.specs.Meets.{set_of}
use Rattle.aops_pointers.specs.Moves.{summed}

-- the one number of one number moved by one count
abbrev pub one_moved : Bool → Machine → ℕ → Option ℤ → Option ℤ → Option Ival
one_moved back machine size (Some n) (Some count) = Some (set_of (Few (record { items = address_number machine (summed back n (count *ℤ pos size)) ∷ [] })))
one_moved back machine size (Some n) None = None
one_moved back machine size None count = None
