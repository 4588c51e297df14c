-- The plain values that the code's values stand for, and parts of these.
use Rattle.std.specs.Prelude.{ℕ, cond, List, [], ◌∷◌, Option, None, Some}
use Rattle.ival_core.specs.declared.value.Ival.{Ival}
use Rattle.avalue_base.specs.Numbers.{is_empty, no_numbers}
use Rattle.avalue_base.specs.Values.{Address, AVal, Separate, Mixed}
use Rattle.avalue_base.specs.Pieces.{no_value}
use Rattle.avalue_values.specs.declared.value.Content.{Content}
use Rattle.avalue_values.specs.declared.value.Content.TheVariants.{Number, Addresses, Mix}

abbrev pub value_of : Content → AVal
value_of (Number numbers) = Separate numbers []
value_of (Addresses numbers addresses) = Separate numbers addresses.items
value_of (Mix bases) = Mixed bases.items

-- the numbers of a value that is no mix
abbrev pub numbers_in : AVal → Option Ival
numbers_in (Separate numbers addresses) = Some numbers
numbers_in (Mixed bases) = None

-- the numbers of a value that has nothing else
abbrev pub numbers_alone : AVal → Option Ival
numbers_alone (Separate numbers []) = Some numbers
numbers_alone (Separate numbers (a ∷ addresses)) = None
numbers_alone (Mixed bases) = None

abbrev pub addresses_of : AVal → List Address
addresses_of (Separate numbers addresses) = addresses
addresses_of (Mixed bases) = []

abbrev pub members_of : AVal → List ℕ
members_of (Separate numbers addresses) = []
members_of (Mixed bases) = bases

-- with these numbers in place of its own; a mix as it is
abbrev pub renumbered : AVal → Ival → AVal
renumbered (Separate numbers addresses) n = Separate n addresses
renumbered (Mixed bases) n = Mixed bases

-- a base's address with offsets, if there are any
abbrev pub address_value : ℕ → Ival → AVal
address_value base offsets = Separate no_numbers (cond (is_empty offsets.shape) [] (record { base = base; offsets = offsets } ∷ []))

abbrev pub IsMixed : AVal → Type 0
IsMixed (Separate numbers addresses) = ⊥
IsMixed (Mixed bases) = Unit {0}

-- a cell whose value may be left out, where it has none
abbrev pub held_value : Option AVal → AVal
held_value None = no_value
held_value (Some v) = v
