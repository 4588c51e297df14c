-- What cells tell of their bits, and cells that are made from such knowledge.
use Rattle.std.specs.Prelude.{ℕ, ◌^◌, ◌==◌, Bool, true, cond, ◌&&◌, ◌||◌, List, [], ◌∷◌, Option, None, Some}
use Rattle.c_base.specs.declared.integer.Machine.{Machine}
use Rattle.c_base.specs.Integers.{bits_from, number_of_bits}
use Rattle.c_memory.specs.declared.scalar.Scalar.TheVariants.{Pointer}
use Rattle.c_memory.specs.Scalars.{bits_of_scalar}
use Rattle.ival_core.specs.declared.value.Ival.{Ival}
use Rattle.avalue_base.specs.Lists.{union_of, all_among}
use Rattle.avalue_base.specs.Numbers.{is_empty_list, has_residue, has_row, rest_in, bit_numbers, word, join_of}
use Rattle.avalue_base.specs.Values.{AVal, Separate, Mixed, Cellv, bases_of, has_no_value}
use Rattle.avalue_base.specs.Order.{implies}
use Rattle.cell_laws.specs.Elements.{bit_at}

-- what one bit of a cell tells without its numbers: from which bases it may come, and its flags
pub record Hue : Type 0 where
  pub bases : List ℕ
  pub uninit : Bool
  pub dead : Bool

abbrev pub hue : Cellv → Hue
hue c = record { bases = bases_of c.value; uninit = c.uninit; dead = c.dead }

abbrev pub within : Hue → Hue → Bool
within g h = all_among g.bases h.bases && (implies g.uninit h.uninit && implies g.dead h.dead)

abbrev pub unite : Hue → Hue → Hue
unite g h = record { bases = union_of g.bases h.bases; uninit = g.uninit || h.uninit; dead = g.dead || h.dead }

-- there are no values, at most flags
abbrev pub blank : Cellv → Bool
blank c = has_no_value c.value

abbrev pub value_admits : ℕ → AVal → List ℕ → Bool
value_admits k (Separate numbers addresses) bases = is_empty_list bases && has_row numbers.shape (2 ^ k)
value_admits k (Mixed others) bases = all_among bases others

-- in an element of k bits the cell allows all bits of the hue
abbrev pub admits : ℕ → Cellv → Hue → Bool
admits k c h = value_admits k c.value h.bases && (implies h.uninit c.uninit && implies h.dead c.dead)

-- what all values leave modulo 2^k, where they are numbers and leave the same
abbrev pub value_rest : ℕ → AVal → Option ℕ
value_rest k (Separate numbers []) = rest_in k numbers.shape
value_rest k (Separate numbers (a ∷ addresses)) = None
value_rest k (Mixed bases) = None

-- the number of k bits, where nothing else is allowed
abbrev pub known_rest : ℕ → Cellv → Option ℕ
known_rest k c = cond (c.uninit || c.dead) None (value_rest k c.value)

abbrev pub bit_in : ℕ → ℕ → Option ℕ → Option Bool
bit_in k i None = None
bit_in k i (Some r) = bit_at (bits_from r k) i

-- bit i of an element of k bits, where it is known
abbrev pub bit : ℕ → ℕ → Cellv → Option Bool
bit k i c = bit_in k i (known_rest k c)

abbrev pub value_has : ℕ → AVal → List Bool → Bool
value_has k (Separate numbers addresses) bits = has_residue numbers.shape (2 ^ k) (number_of_bits bits)
value_has k (Mixed bases) bits = true

-- an element of k bits may have these bits, made from no address
abbrev pub has : ℕ → Cellv → List Bool → Bool
has k c bits = value_has k c.value bits

-- with the flags of the hue
abbrev pub shade : Cellv → Hue → Cellv
shade c h = record { value = c.value; uninit = c.uninit || h.uninit; dead = c.dead || h.dead }

abbrev pub with_number : AVal → Ival → AVal
with_number (Separate numbers addresses) n = Separate (join_of numbers n) addresses
with_number (Mixed bases) n = Mixed bases

-- with the number that the bits spell
abbrev pub with_bits : ℕ → Cellv → List Bool → Cellv
with_bits k c bits = record { value = with_number c.value (word (number_of_bits bits)); uninit = c.uninit; dead = c.dead }

abbrev pub any_value : List ℕ → AVal
any_value [] = Separate bit_numbers []
any_value (b ∷ bases) = Mixed (b ∷ bases)

-- one bit of the hue, whatever it is
abbrev pub any : Hue → Cellv
any h = record { value = any_value h.bases; uninit = h.uninit; dead = h.dead }

abbrev pub pointer_bits : Machine → ℕ
pointer_bits machine = bits_of_scalar Pointer machine

abbrev pub fits_value : Machine → ℕ → AVal → Bool
fits_value machine k (Separate numbers addresses) = is_empty_list addresses || (k == pointer_bits machine)
fits_value machine k (Mixed bases) = true

-- an element of k bits can have the cell: addresses stand in pointers alone
abbrev pub fits : Machine → ℕ → Cellv → Bool
fits machine k c = fits_value machine k c.value
