-- C's integer types: their sizes, their ranges, and the numbers that patterns of bits stand for in them.
use Rattle.std.specs.Prelude.{ℕ, zero, suc, ◌+◌, ◌-◌, ◌*◌, ◌/◌, ◌%◌, ◌^◌, ◌==◌, nat_lt, Bool, true, false, cond, ◌&&◌, List, [], ◌∷◌, ℤ, pos, negsuc, int_le, ◌≤ℤ◌}
use Rattle.c_base.specs.declared.integer.IntKind.{IntKind}
use Rattle.c_base.specs.declared.integer.Machine.{Machine}
use Rattle.c_base.specs.declared.integer.Machine.TheVariants.{Lp64}
use Rattle.c_base.specs.declared.integer.IntKind.TheVariants.{Bool as bool_kind, Char, SChar, UChar, Short, UShort, Int, UInt, Long, ULong, LLong, ULLong}

-- bytes of a long, which are those of a pointer too (LP64, as on x86-64)
abbrev pub size_of_long : Machine → ℕ
size_of_long Lp64 = 8

-- bytes of an object of the type on the machine (C11 6.2.6.1)
abbrev pub size_of_kind : IntKind → Machine → ℕ
size_of_kind bool_kind machine = 1
size_of_kind Char machine = 1
size_of_kind SChar machine = 1
size_of_kind UChar machine = 1
size_of_kind Short machine = 2
size_of_kind UShort machine = 2
size_of_kind Int machine = 4
size_of_kind UInt machine = 4
size_of_kind Long machine = size_of_long machine
size_of_kind ULong machine = size_of_long machine
size_of_kind LLong machine = 8
size_of_kind ULLong machine = 8

abbrev pub bits_of_kind : IntKind → Machine → ℕ
bits_of_kind kind machine = 8 * size_of_kind kind machine

-- the bits of a value in the order in which the machine keeps its bytes; a load turns them back (Lp64 has the least byte first)
abbrev pub in_byte_order : {A : Type 0} → Machine → List A → List A
in_byte_order Lp64 bits = bits

-- the types whose numbers may be negative (C11 6.2.5p4); plain char is one of them here
abbrev pub is_signed : IntKind → Bool
is_signed bool_kind = false
is_signed Char = true
is_signed SChar = true
is_signed UChar = false
is_signed Short = true
is_signed UShort = false
is_signed Int = true
is_signed UInt = false
is_signed Long = true
is_signed ULong = false
is_signed LLong = true
is_signed ULLong = false

-- the least and the greatest number of a type of so many bits (C11 6.2.6.2)
abbrev pub least_of : Bool → ℕ → ℤ
least_of true bits = negsuc (2 ^ (bits - 1) - 1)
least_of false bits = pos 0

abbrev pub greatest_of : Bool → ℕ → ℤ
greatest_of true bits = pos (2 ^ (bits - 1) - 1)
greatest_of false bits = pos (2 ^ bits - 1)

-- a type of so many bits, with or without a sign, can hold the number
abbrev pub fits_bits : Bool → ℕ → ℤ → Bool
fits_bits signed bits n = int_le (least_of signed bits) n && int_le n (greatest_of signed bits)

pub record FitsBits (signed : Bool) (bits : ℕ) (n : ℤ) : Type 0 where
  pub least : least_of signed bits ≤ℤ n
  pub greatest : n ≤ℤ greatest_of signed bits

-- the sign bit and the value bits of the type (C11 6.2.6.2p6); a _Bool has one value bit
abbrev pub width_of : IntKind → Machine → ℕ
width_of bool_kind machine = 1
width_of kind machine = bits_of_kind kind machine

-- the least and the greatest number of the type on the machine; a _Bool holds 0 and 1 alone (C11 6.3.1.2)
abbrev pub least : IntKind → Machine → ℤ
least kind machine = least_of (is_signed kind) (width_of kind machine)

abbrev pub greatest : IntKind → Machine → ℤ
greatest kind machine = greatest_of (is_signed kind) (width_of kind machine)

-- the type can hold the number on the machine, as a test and as a fact
abbrev pub fits_kind : IntKind → Machine → ℤ → Bool
fits_kind kind machine n = fits_bits (is_signed kind) (width_of kind machine) n

abbrev pub FitsKind : IntKind → Machine → ℤ → Type 0
FitsKind kind machine n = FitsBits (is_signed kind) (width_of kind machine) n

-- the residue of a number, from 0 to m - 1
abbrev pub residue : ℕ → ℤ → ℕ
residue m (pos n) = n % m
residue m (negsuc n) = m - suc (n % m)

-- the lowest `count` bits of a number, the least one first
unfoldable pub bits_from : ℕ → ℕ → List Bool
bits_from n zero = []
bits_from n (suc count) = (n % 2 == 1) ∷ bits_from (n / 2) count

-- the number that bits spell, the least one first
unfoldable pub number_of_bits : List Bool → ℕ
number_of_bits [] = 0
number_of_bits (b ∷ bs) = cond b 1 0 + 2 * number_of_bits bs

-- the number that a pattern of `bits` bits stands for: two's complement where the type is signed (C11 6.2.6.2p2)
abbrev pub signed_number : Bool → ℕ → ℕ → ℤ
signed_number false bits n = pos n
signed_number true bits n = cond (nat_lt n (2 ^ (bits - 1))) (pos n) (negsuc (2 ^ bits - suc n))

-- the number that a pattern stands for in an object of the type; a _Bool is 1 where any bit of its object is set
abbrev pub number_in : IntKind → Machine → ℕ → ℤ
number_in bool_kind machine n = cond (n == 0) (pos 0) (pos 1)
number_in kind machine n = signed_number (is_signed kind) (bits_of_kind kind machine) n

-- the bits of a number in two's complement, the least one first (C11 6.2.6.2p2)
abbrev pub bits_of : ℕ → ℤ → List Bool
bits_of width n = bits_from (residue (2 ^ width) n) width
