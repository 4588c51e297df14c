-- Operators on values, which carry their provenances along (C11 6.5).
use Rattle.std.specs.Prelude.{Bool, true, false, not, ℤ, cond, Result, Ok, Err}
use Rattle.std.specs.FinSet.{union}
use Rattle.c_base.specs.declared.integer.IntKind.{IntKind}
use Rattle.c_base.specs.declared.integer.Machine.{Machine}
use Rattle.c_base.specs.declared.operators.BinOp.{BinOp}
use Rattle.c_base.specs.declared.operators.BinOp.TheVariants.{Lt, Le, Gt, Ge, Eq, Ne}
use Rattle.c_base.specs.declared.kind.Kind.{Kind}
use Rattle.c_base.specs.Operators.{applied, is_zero}
use Rattle.c_memory.specs.Values.{Value, Provenance, nowhere}

-- a scalar is true where it compares unequal to 0 (C11 6.8.4.1p2, 6.8.5p4)
abbrev pub truth_of : Value → Bool
truth_of v = not (is_zero v.number)

abbrev pub is_comparison : BinOp → Bool
is_comparison Lt = true
is_comparison Le = true
is_comparison Gt = true
is_comparison Ge = true
is_comparison Eq = true
is_comparison Ne = true
is_comparison op = false

-- operators on integers unite the provenances of their operands, and comparisons have none
abbrev pub provenance_after : BinOp → Provenance → Provenance → Provenance
provenance_after op p q = cond (is_comparison op) nowhere (union p q)

-- a number, if there is one, with its provenance
abbrev pub made_from : Provenance → Result ℤ Kind → Result Value Kind
made_from p (Ok n) = Ok (record { number = n; provenance = p })
made_from p (Err kind) = Err kind

-- an operator on two values in an integer type
abbrev pub applied_to : BinOp → IntKind → Machine → Value → Value → Result Value Kind
applied_to op kind machine a b =
    made_from (provenance_after op a.provenance b.provenance) (applied op kind machine a.number b.number)
