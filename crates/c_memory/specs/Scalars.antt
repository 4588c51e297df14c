-- Scalar types on a machine: their sizes, and the numbers that patterns of bits stand for in them.
use Rattle.std.specs.Prelude.{ℕ, ◌*◌, ℤ}
use Rattle.c_base.specs.declared.integer.IntKind.{IntKind}
use Rattle.c_base.specs.declared.integer.IntKind.TheVariants.{ULong}
use Rattle.c_base.specs.declared.integer.Machine.{Machine}
use Rattle.c_base.specs.Integers.{size_of_kind, number_in}
use Rattle.c_memory.specs.declared.scalar.Scalar.{Scalar}
use Rattle.c_memory.specs.declared.scalar.Scalar.TheVariants.{Integer, Pointer}

-- a pointer stands in memory as an unsigned long does
abbrev pub kind_in_memory : Scalar → IntKind
kind_in_memory (Integer kind) = kind
kind_in_memory Pointer = ULong

abbrev pub size_of_scalar : Scalar → Machine → ℕ
size_of_scalar type machine = size_of_kind (kind_in_memory type) machine

abbrev pub bits_of_scalar : Scalar → Machine → ℕ
bits_of_scalar type machine = 8 * size_of_scalar type machine

-- the number that a pattern of its bits stands for
abbrev pub scalar_in : Scalar → Machine → ℕ → ℤ
scalar_in type machine n = number_in (kind_in_memory type) machine n
