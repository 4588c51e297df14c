-- The parts of a value, one by one.
use Rattle.std.specs.Prelude.{ℕ, cond, List, [], ◌∷◌, ◌++◌, map}
use Rattle.c_base.specs.declared.number.BaseId.{BaseId}
use Rattle.ival_core.specs.declared.value.Ival.{Ival}
use Rattle.avalue_base.specs.Numbers.{is_empty}
use Rattle.avalue_base.specs.Values.{Address, AVal, Separate, Mixed}
use Rattle.avalue_values.specs.declared.part.Part.{Part}
use Rattle.avalue_values.specs.declared.part.Part.TheVariants.{Number, Address as AddressPart, Mix}

abbrev pub base_id : ℕ → BaseId
base_id b = record { 0 = b }

abbrev pub number_parts : Ival → List Part
number_parts numbers = cond (is_empty numbers.shape) [] (Number numbers ∷ [])

-- the numbers, if there are any, and the addresses; of a mix its bases
abbrev pub parts_of : AVal → List Part
parts_of (Separate numbers addresses) = number_parts numbers ++ map (λ (a : Address). AddressPart (base_id a.base) a.offsets) addresses
parts_of (Mixed bases) = map (λ b. Mix (base_id b)) bases
