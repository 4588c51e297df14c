-- Conversions of values, as plain functions (C11 6.3.1.2, 6.3.1.3, 6.3.2.3).
use Rattle.std.specs.Prelude.{ℕ, ◌==◌, Bool, false, cond, not, ◌&&◌, [], ◌∷◌}
use Rattle.c_base.specs.declared.integer.IntKind.{IntKind}
use Rattle.c_base.specs.declared.integer.IntKind.TheVariants.{Bool as bool_kind}
use Rattle.c_base.specs.declared.integer.Machine.{Machine}
use Rattle.c_base.specs.declared.operators.Rel.TheVariants as rel
use Rattle.c_base.specs.Integers.{is_signed, width_of}
use Rattle.c_memory.specs.declared.scalar.Scalar.{Scalar}
use Rattle.c_memory.specs.declared.scalar.Scalar.TheVariants.{Integer, Pointer}
use Rattle.ival_core.specs.declared.value.Ival.{Ival}
use Rattle.ival_bits.specs.Wraps.{wrapped}
use Rattle.avalue_base.specs.Numbers.{bit_numbers}
use Rattle.avalue_base.specs.Values.{AVal, Separate, Mixed, bases_of}
use Rattle.avalue_base.specs.Hues.{pointer_bits}
use Rattle.avalue_base.specs.Meets.{least_of, set_of}
use Rattle.aops.specs.Numbers.{related}
use Rattle.std.specs.Prelude.{pos}

-- the numbers as those of a type of so many bits
abbrev pub wrapped_set : Bool → ℕ → Ival → Ival
wrapped_set signed bits a = set_of (wrapped signed bits a.shape)

-- 1 for numbers other than 0
abbrev pub truths : Ival → Ival
truths a = related rel.Ne a (least_of (pos 0 ∷ []))

-- the values, reduced to the pointer's range, where the addresses are already
abbrev pub as_pointers : Machine → AVal → AVal
as_pointers machine (Separate numbers addresses) = Separate (wrapped_set false (pointer_bits machine) numbers) addresses
as_pointers machine (Mixed bases) = Mixed bases

-- the type holds each pointer's number as it is
abbrev pub is_word : IntKind → Machine → Bool
is_word kind machine = not (is_signed kind) && (width_of kind machine == pointer_bits machine)

-- an address in another type is no offset any more
abbrev pub as_integers : IntKind → Machine → AVal → AVal
as_integers kind machine (Separate numbers []) = Separate (wrapped_set (is_signed kind) (width_of kind machine) numbers) []
as_integers kind machine (Separate numbers (a ∷ addresses)) = cond (is_word kind machine) (as_pointers machine (Separate numbers (a ∷ addresses))) (Mixed (bases_of (Separate numbers (a ∷ addresses))))
as_integers kind machine (Mixed bases) = Mixed bases

-- the truth of numbers; of what is made from addresses either is possible
abbrev pub as_truths : AVal → AVal
as_truths (Separate numbers []) = Separate (truths numbers) []
as_truths v = Separate bit_numbers []

abbrev pub converted_value : Scalar → Machine → AVal → AVal
converted_value (Integer bool_kind) machine v = as_truths v
converted_value (Integer kind) machine v = as_integers kind machine v
converted_value Pointer machine v = as_pointers machine v
