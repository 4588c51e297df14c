-- Conversions between scalar types (C11 6.3.1.2, 6.3.1.3, 6.3.2.3), and the operators with one operand.
use Rattle.std.specs.Prelude.{ℕ, ◌^◌, ℤ, pos, Result}
use Rattle.c_base.specs.declared.integer.IntKind.{IntKind}
use Rattle.c_base.specs.declared.integer.IntKind.TheVariants.{Bool as bool_kind}
use Rattle.c_base.specs.declared.integer.Machine.{Machine}
use Rattle.c_base.specs.declared.kind.Kind.{Kind}
use Rattle.c_base.specs.declared.operators.UnOp.{UnOp}
use Rattle.c_base.specs.declared.operators.UnOp.TheVariants.{Neg, Not, Compl}
use Rattle.c_base.specs.Integers.{residue}
use Rattle.c_base.specs.Operators.{converted, applied_unary}
use Rattle.c_memory.specs.declared.scalar.Scalar.{Scalar}
use Rattle.c_memory.specs.declared.scalar.Scalar.TheVariants.{Integer, Pointer}
use Rattle.c_memory.specs.Scalars.{bits_of_scalar}
use Rattle.c_memory.specs.Values.{Value, Provenance, nowhere}
use Rattle.c_memory.specs.Operations.{made_from}

-- what a number modulo 2 to the bits of a pointer is: pointers are the numbers from 0 on
abbrev pub address_number : Machine → ℤ → ℤ
address_number machine n = pos (residue (2 ^ bits_of_scalar Pointer machine) n)

-- a _Bool was made from no address (C11 6.3.1.2p1)
abbrev pub provenance_in : IntKind → Provenance → Provenance
provenance_in bool_kind p = nowhere
provenance_in kind p = p

-- a value converted to an integer type keeps the address that it was made from
abbrev pub converted_value : IntKind → Machine → Value → Value
converted_value kind machine v = record { number = converted kind machine v.number; provenance = provenance_in kind v.provenance }

-- a value converted to a scalar type (C11 6.3.2.3p5 and p6, by this machine's choice)
abbrev pub converted_to : Scalar → Machine → Value → Value
converted_to (Integer kind) machine v = converted_value kind machine v
converted_to Pointer machine v = record { number = address_number machine v.number; provenance = v.provenance }

-- the truth of an operand was made from no address
abbrev pub provenance_behind : UnOp → Provenance → Provenance
provenance_behind Neg p = p
provenance_behind Not p = nowhere
provenance_behind Compl p = p

-- `-`, `!` and `~` on a value in an integer type (C11 6.5.3.3)
abbrev pub applied_to_one : UnOp → IntKind → Machine → Value → Result Value Kind
applied_to_one op kind machine v = made_from (provenance_behind op v.provenance) (applied_unary op kind machine v.number)
