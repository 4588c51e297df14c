-- Zero is a number of every type, so that a load of a volatile object may give it.
use Rattle.std.proofs.Common.{pos, arith}
use Rattle.std.proofs.lemmas.Int.{ints}
use Rattle.c_base.specs.Integers.{is_signed, width_of, FitsBits}
use Rattle.c_base.specs.declared.integer.IntKind.{IntKind}
use Rattle.c_base.specs.declared.integer.IntKind.TheVariants.{Bool as bool_kind, Char, SChar, UChar, Short, UShort, Int, UInt, Long, ULong, LLong, ULLong}
use Rattle.c_base.specs.declared.integer.Machine.{Machine}
use Rattle.c_base.specs.declared.integer.Machine.TheVariants.{Lp64}
use Rattle.c_memory.specs.declared.scalar.Scalar.{Scalar}
use Rattle.c_memory.specs.Scalars.{kind_in_memory}
use Rattle.c_memory.specs.Layouts.{Layout}

zero_in : (kind : IntKind) (machine : Machine) → FitsBits (is_signed kind) (width_of kind machine) (pos 0)
zero_in bool_kind Lp64 = record { least = omega (arith, ints); greatest = omega (arith, ints) }
zero_in Char Lp64 = record { least = omega (arith, ints); greatest = omega (arith, ints) }
zero_in SChar Lp64 = record { least = omega (arith, ints); greatest = omega (arith, ints) }
zero_in UChar Lp64 = record { least = omega (arith, ints); greatest = omega (arith, ints) }
zero_in Short Lp64 = record { least = omega (arith, ints); greatest = omega (arith, ints) }
zero_in UShort Lp64 = record { least = omega (arith, ints); greatest = omega (arith, ints) }
zero_in Int Lp64 = record { least = omega (arith, ints); greatest = omega (arith, ints) }
zero_in UInt Lp64 = record { least = omega (arith, ints); greatest = omega (arith, ints) }
zero_in Long Lp64 = record { least = omega (arith, ints); greatest = omega (arith, ints) }
zero_in ULong Lp64 = record { least = omega (arith, ints); greatest = omega (arith, ints) }
zero_in LLong Lp64 = record { least = omega (arith, ints); greatest = omega (arith, ints) }
zero_in ULLong Lp64 = record { least = omega (arith, ints); greatest = omega (arith, ints) }

pub zero_fits : (type : Scalar) (l : Layout) → FitsBits (is_signed (kind_in_memory type)) (width_of (kind_in_memory type) l.machine) (pos 0)
zero_fits type l = zero_in (kind_in_memory type) l.machine
