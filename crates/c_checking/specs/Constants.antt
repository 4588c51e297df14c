-- Integer constant expressions (C11 6.6p6): what is made of constants, enumerators, sizes and casts to integer types alone. Enumerators and
-- sizes stand in typed expressions as numbers.
use Rattle.std.specs.Prelude.{Bool, true, false, cond, ℤ, pos, Option, None, Some, Result, Ok, Err}
use Rattle.c_base.specs.declared.integer.IntKind.{IntKind}
use Rattle.c_base.specs.declared.integer.Machine.{Machine}
use Rattle.c_base.specs.declared.kind.Kind.{Kind}
use Rattle.c_base.specs.declared.operators.BinOp.{BinOp}
use Rattle.c_base.specs.declared.operators.UnOp.{UnOp}
use Rattle.c_base.specs.Operators.{applied, applied_unary, converted, is_zero, truth_number}
use Rattle.c_base.specs.Integers.{fits_kind}
use Rattle.c_types.specs.Types.{CType, Integer}
use Rattle.c_typed_expr.specs.Trees.{Expr, Number, Binary, Unary, Convert, Logic, Conditional}

-- Not a constant expression; one with its number; or one that meets an undefined step, as no constant expression may (C11 6.6p4).
pub data Known : Type 0 where
  Varying : Known
  Constant : ℤ → Known
  Undefined : Known

abbrev pub known_from : Result ℤ Kind → Known
known_from (Ok n) = Constant n
known_from (Err kind) = Undefined

-- an operator's operands are all constant
abbrev pub on_one : (ℤ → Known) → Known → Known
on_one f Varying = Varying
on_one f (Constant n) = f n
on_one f Undefined = Undefined

abbrev pub on_two : (ℤ → ℤ → Known) → Known → Known → Known
on_two f Varying b = Varying
on_two f (Constant m) b = on_one (f m) b
on_two f Undefined Varying = Varying
on_two f Undefined b = Undefined

-- what stands beside a constant that decides isn't evaluated, but must be constant all the same
abbrev pub unless_varying : Known → Known → Known
unless_varying Varying answer = Varying
unless_varying _ answer = answer

abbrev pub truth_in : Known → Known
truth_in b = on_one (λ n. Constant (truth_number (cond (is_zero n) false true))) b

-- `&&` goes on where its left operand isn't 0, `||` where it is (C11 6.5.13p4, 6.5.14p4)
abbrev pub decided : Bool → Known → Known → Known
decided is_and Varying b = Varying
decided is_and Undefined b = unless_varying b Undefined
decided true (Constant m) b = unless_varying b (cond (is_zero m) (Constant (pos 0)) (truth_in b))
decided false (Constant m) b = unless_varying b (cond (is_zero m) (truth_in b) (Constant (pos 1)))

-- `?:` evaluates one of its branches (C11 6.5.15p4)
abbrev pub picked : Known → Known → Known → Known
picked Varying b c = Varying
picked Undefined b c = unless_varying b (unless_varying c Undefined)
picked (Constant n) b c = unless_varying b (unless_varying c (cond (is_zero n) c b))

-- a number that its type has
abbrev pub number_known : Machine → IntKind → ℤ → Known
number_known machine kind n = cond (fits_kind kind machine n) (Constant n) Varying

-- a conversion to an integer type
abbrev pub converted_known : Machine → CType → Known → Known
converted_known machine (Integer kind) k = on_one (λ n. Constant (converted kind machine n)) k
converted_known machine _ k = Varying

abbrev pub picked_known : CType → Known → Known → Known → Known
picked_known (Integer kind) a b c = picked a b c
picked_known _ a b c = Varying

abbrev pub known : Machine → Expr → Known
known machine (Number kind n) = number_known machine kind n
known machine (Unary op kind e) = on_one (λ n. known_from (applied_unary op kind machine n)) (known machine e)
known machine (Binary op kind a b) = on_two (λ m n. known_from (applied op kind machine m n)) (known machine a) (known machine b)
known machine (Convert t e) = converted_known machine t (known machine e)
known machine (Logic is_and a b) = decided is_and (known machine a) (known machine b)
known machine (Conditional t a b c) = picked_known t (known machine a) (known machine b) (known machine c)
known machine _ = Varying

-- a constant expression of value 0
abbrev pub is_null_number : Known → Bool
is_null_number (Constant n) = is_zero n
is_null_number _ = false
