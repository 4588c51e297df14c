-- Which integer types operands and constants have (C11 6.3.1.1, 6.3.1.8, 6.4.4.1).
use Rattle.std.specs.Prelude.{ℕ, nat_lt, nat_le, ◌==◌, Bool, true, false, not, cond, ◌&&◌, ◌||◌, List, [], ◌∷◌, ℤ, pos, int_le, Option, None, Some}
use Rattle.c_base.specs.declared.integer.IntKind.{IntKind}
use Rattle.c_base.specs.declared.integer.IntKind.TheVariants.{Bool as bool_kind, Char, SChar, UChar, Short, UShort, Int, UInt, Long, ULong, LLong, ULLong}
use Rattle.c_base.specs.declared.integer.Machine.{Machine}
use Rattle.c_base.specs.declared.token.IntegerConstant.{IntegerConstant}
use Rattle.c_base.specs.declared.token.Length.{Length}
use Rattle.c_base.specs.declared.token.Length.TheVariants as suffix
use Rattle.c_base.specs.declared.token.Radix.{Radix}
use Rattle.c_base.specs.declared.token.Radix.TheVariants as radix
use Rattle.c_base.specs.Integers.{is_signed, least, greatest}

-- the rank of a type among the integer types (C11 6.3.1.1p1)
abbrev pub rank : IntKind → ℕ
rank bool_kind = 0
rank Char = 1
rank SChar = 1
rank UChar = 1
rank Short = 2
rank UShort = 2
rank Int = 3
rank UInt = 3
rank Long = 4
rank ULong = 4
rank LLong = 5
rank ULLong = 5

-- each number of the one type is one of the other
abbrev pub is_held_by : Machine → IntKind → IntKind → Bool
is_held_by machine kind other = int_le (least other machine) (least kind machine) && int_le (greatest kind machine) (greatest other machine)

-- the integer promotions (C11 6.3.1.1p2)
abbrev pub promoted : Machine → IntKind → IntKind
promoted machine kind = cond (nat_lt (rank kind) (rank Int)) (cond (is_held_by machine kind Int) Int UInt) kind

-- the unsigned type of a signed one (C11 6.2.5p6)
abbrev pub unsigned_of : IntKind → IntKind
unsigned_of bool_kind = bool_kind
unsigned_of Char = UChar
unsigned_of SChar = UChar
unsigned_of UChar = UChar
unsigned_of Short = UShort
unsigned_of UShort = UShort
unsigned_of Int = UInt
unsigned_of UInt = UInt
unsigned_of Long = ULong
unsigned_of ULong = ULong
unsigned_of LLong = ULLong
unsigned_of ULLong = ULLong

abbrev pub higher : IntKind → IntKind → IntKind
higher a b = cond (nat_lt (rank a) (rank b)) b a

-- an unsigned and a signed type: the unsigned one where its rank isn't below; else the signed one where it holds all of its numbers; else
-- the unsigned type of the signed one
abbrev pub mixed : Machine → IntKind → IntKind → IntKind
mixed machine unsigned signed = cond (nat_le (rank signed) (rank unsigned)) unsigned (cond (is_held_by machine unsigned signed) signed (unsigned_of signed))

abbrev pub joined : Machine → Bool → Bool → IntKind → IntKind → IntKind
joined machine true true a b = higher a b
joined machine false false a b = higher a b
joined machine true false a b = mixed machine b a
joined machine false true a b = mixed machine a b

-- the type that two operands are converted to (C11 6.3.1.8p1)
abbrev pub common : Machine → IntKind → IntKind → IntKind
common machine a b = joined machine (is_signed (promoted machine a)) (is_signed (promoted machine b)) (promoted machine a) (promoted machine b)

-- ---- integer constants (C11 6.4.4.1p5)

abbrev pub is_decimal : Radix → Bool
is_decimal radix.Decimal = true
is_decimal radix.Octal = false
is_decimal radix.Hexadecimal = false

abbrev pub least_rank : Length → ℕ
least_rank suffix.Plain = 3
least_rank suffix.Long = 4
least_rank suffix.LongLong = 5

-- A suffix `u` leaves the unsigned types alone, a decimal constant without one the signed types; letters `l` leave those from a rank on.
abbrev pub is_offered : IntegerConstant → IntKind → Bool
is_offered c kind = cond (is_signed kind) (not c.unsigned) (c.unsigned || not (is_decimal c.radix)) && nat_le (least_rank c.length) (rank kind)

abbrev pub suits : Machine → IntegerConstant → IntKind → Bool
suits machine c kind = is_offered c kind && int_le (pos c.value) (greatest kind machine)

-- the first of these types that suits
abbrev pub first_suiting : Machine → IntegerConstant → List IntKind → Option IntKind
first_suiting machine c [] = None
first_suiting machine c (kind ∷ more) = cond (suits machine c kind) (Some kind) (first_suiting machine c more)

-- the type of a constant, or none where no type can hold it (p6)
abbrev pub kind_of_constant : Machine → IntegerConstant → Option IntKind
kind_of_constant machine c = first_suiting machine c (Int ∷ UInt ∷ Long ∷ ULong ∷ LLong ∷ ULLong ∷ [])
