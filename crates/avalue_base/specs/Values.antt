-- Values and cells as plain data, and the parts of which they consist.
use Rattle.std.specs.Prelude.{ℕ, Bool, false, cond, ◌&&◌, List, [], ◌∷◌, ◌++◌, map}
use Rattle.c_memory.specs.Rows.{Part, Plain, Address as AddressPart, Mix as MixPart, RowCell}
use Rattle.ival_core.specs.declared.value.Ival.{Ival}
use Rattle.avalue_base.specs.Numbers.{numbers_of, is_empty, is_empty_list}

-- byte offsets into a base
pub record Address : Type 0 where
  pub base : ℕ
  pub offsets : Ival

-- numbers that were made from no address beside addresses by ascending base, or anything made from the addresses of some bases
pub data AVal : Type 0 where
  Separate : Ival → List Address → AVal
  Mixed : List ℕ → AVal

-- the values that bits may be part of, and whether they may be not written or dead
pub record Cellv : Type 0 where
  pub value : AVal
  pub uninit : Bool
  pub dead : Bool

abbrev pub base_of : Address → ℕ
base_of a = a.base

-- the bases whose addresses a value may be made from
abbrev pub bases_of : AVal → List ℕ
bases_of (Separate numbers addresses) = map base_of addresses
bases_of (Mixed bases) = bases

abbrev pub has_no_value : AVal → Bool
has_no_value (Separate numbers addresses) = is_empty numbers.shape && is_empty_list addresses
has_no_value (Mixed bases) = false

abbrev pub address_part : Address → Part
address_part a = AddressPart a.base (numbers_of a.offsets.shape)

abbrev pub plain_part : Ival → List Part
plain_part numbers = cond (is_empty numbers.shape) [] (Plain (numbers_of numbers.shape) ∷ [])

abbrev pub parts_of : AVal → List Part
parts_of (Separate numbers addresses) = plain_part numbers ++ map address_part addresses
parts_of (Mixed bases) = MixPart bases ∷ []

-- the cell of a printed row
abbrev pub row_cell : Cellv → RowCell
row_cell c = record { parts = parts_of c.value; uninit = c.uninit; dead = c.dead }
