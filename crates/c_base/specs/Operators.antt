-- C's operators on numbers (C11 6.5). Operands stand converted to one type.
use Rattle.std.specs.Prelude.{ℕ, ◌^◌, ◌/◌, Bool, true, false, cond, not, ◌&&◌, ◌||◌, List, [], ◌∷◌, map, ℤ, pos, negsuc, neg_ℤ, ◌+ℤ◌, ◌-ℤ◌, ◌*ℤ◌, int_le, int_lt, int_div, int_rem, unsigned_abs, Result, Ok, Err}
use Rattle.c_base.specs.declared.integer.IntKind.{IntKind}
use Rattle.c_base.specs.declared.integer.IntKind.TheVariants.{Bool as bool_kind}
use Rattle.c_base.specs.declared.integer.Machine.{Machine}
use Rattle.c_base.specs.declared.operators.BinOp.{BinOp}
use Rattle.c_base.specs.declared.operators.BinOp.TheVariants.{Add, Sub, Mul, Div, Rem, And, Or, Xor, Shl, Shr, Lt, Le, Gt, Ge, Eq, Ne}
use Rattle.c_base.specs.declared.operators.UnOp.{UnOp}
use Rattle.c_base.specs.declared.operators.UnOp.TheVariants.{Neg, Not, Compl}
use Rattle.c_base.specs.declared.kind.Kind.{Kind}
use Rattle.c_base.specs.declared.kind.Kind.TheVariants.{DivisionByZero, SignedOverflow, Shift}
use Rattle.c_base.specs.Integers.{is_signed, width_of, fits_bits, residue, bits_of, number_of_bits, signed_number}

abbrev pub is_zero : ℤ → Bool
is_zero n = int_le n (pos 0) && int_le (pos 0) n

-- a result that a signed type can't hold is undefined, with this kind; in an unsigned type it is reduced (C11 6.2.5p9)
abbrev pub in_type : Kind → Bool → ℕ → ℤ → Result ℤ Kind
in_type kind signed width n =
    cond (fits_bits signed width n) (Ok n) (cond signed (Err kind) (Ok (pos (residue (2 ^ width) n))))

-- the result of `+`, `-` and `*` (C11 6.5p5)
abbrev pub arithmetic : Bool → ℕ → ℤ → Result ℤ Kind
arithmetic signed width n = in_type SignedOverflow signed width n

-- the quotient loses its fraction (C11 6.5.5p6); a zero divisor is undefined (p5), and a quotient that the type can't hold too
abbrev pub quotient : Bool → ℕ → ℤ → ℤ → Result ℤ Kind
quotient signed width a b =
    cond (is_zero b) (Err DivisionByZero)
    (cond (fits_bits signed width (int_div a b)) (Ok (int_div a b)) (Err SignedOverflow))

-- what the quotient leaves of a; it is undefined where the quotient is (C11 6.5.5p5 and p6)
abbrev pub remainder : Bool → ℕ → ℤ → ℤ → Result ℤ Kind
remainder signed width a b =
    cond (is_zero b) (Err DivisionByZero)
    (cond (fits_bits signed width (int_div a b)) (Ok (int_rem a b)) (Err SignedOverflow))

-- a shift is by 0 up to all bits but one (C11 6.5.7p3)
abbrev pub is_count : ℕ → ℤ → Bool
is_count width b = int_le (pos 0) b && int_lt b (pos width)

-- a times 2 to the b, where a negative left operand, and a result that a signed type can't hold, are undefined (C11 6.5.7p4)
abbrev pub shifted_left : Bool → ℕ → ℤ → ℤ → Result ℤ Kind
shifted_left signed width a b =
    cond (is_count width b && int_le (pos 0) a)
    (in_type Shift signed width (a *ℤ pos (2 ^ unsigned_abs b)))
    (Err Shift)

-- the greatest number that is not above n / d
abbrev pub floor : ℤ → ℕ → ℤ
floor (pos n) d = pos (n / d)
floor (negsuc n) d = negsuc (n / d)

-- a divided by 2 to the b, rounded down (C11 6.5.7p5; for a negative left operand this machine's choice)
abbrev pub shifted_right : ℕ → ℤ → ℤ → Result ℤ Kind
shifted_right width a b =
    cond (is_count width b) (Ok (floor a (2 ^ unsigned_abs b))) (Err Shift)

abbrev pub xor : Bool → Bool → Bool
xor true b = not b
xor false b = b

-- an operator on each pair of bits
abbrev pub zip_bits : (Bool → Bool → Bool) → List Bool → List Bool → List Bool
zip_bits f [] bs = []
zip_bits f (a ∷ more) [] = []
zip_bits f (a ∷ more) (b ∷ bs) = f a b ∷ zip_bits f more bs

-- the number whose bits are made of those of a and b (C11 6.5.10 to 6.5.12)
abbrev pub on_bits : (Bool → Bool → Bool) → Bool → ℕ → ℤ → ℤ → ℤ
on_bits f signed width a b =
    signed_number signed width (number_of_bits (zip_bits f (bits_of width a) (bits_of width b)))

-- the number with all bits turned (C11 6.5.3.3p4)
abbrev pub complement : Bool → ℕ → ℤ → ℤ
complement signed width a = signed_number signed width (number_of_bits (map not (bits_of width a)))

-- a comparison is 1 or 0 (C11 6.5.8p6, 6.5.9p3)
abbrev pub truth_number : Bool → ℤ
truth_number true = pos 1
truth_number false = pos 0

-- what an operator takes on its right: the numbers that P says, or, where it shifts, any, since a count has a type of its own
-- (C11 6.5.7p3)
abbrev pub OnRight : BinOp → (ℤ → Type 0) → ℤ → Type 0
OnRight Shl P n = Unit {0}
OnRight Shr P n = Unit {0}
OnRight op P n = P n

-- the number that an operator gives in a type of so many bits, with or without a sign, or the kind of undefined step
abbrev pub operated : BinOp → Bool → ℕ → ℤ → ℤ → Result ℤ Kind
operated Add signed width a b = arithmetic signed width (a +ℤ b)
operated Sub signed width a b = arithmetic signed width (a -ℤ b)
operated Mul signed width a b = arithmetic signed width (a *ℤ b)
operated Div signed width a b = quotient signed width a b
operated Rem signed width a b = remainder signed width a b
operated And signed width a b = Ok (on_bits (λ x y. x && y) signed width a b)
operated Or signed width a b = Ok (on_bits (λ x y. x || y) signed width a b)
operated Xor signed width a b = Ok (on_bits xor signed width a b)
operated Shl signed width a b = shifted_left signed width a b
operated Shr signed width a b = shifted_right width a b
operated Lt signed width a b = Ok (truth_number (int_lt a b))
operated Le signed width a b = Ok (truth_number (int_le a b))
operated Gt signed width a b = Ok (truth_number (int_lt b a))
operated Ge signed width a b = Ok (truth_number (int_le b a))
operated Eq signed width a b = Ok (truth_number (int_le a b && int_le b a))
operated Ne signed width a b = Ok (truth_number (not (int_le a b && int_le b a)))

-- the same in an integer type of a machine
abbrev pub applied : BinOp → IntKind → Machine → ℤ → ℤ → Result ℤ Kind
applied op kind machine a b = operated op (is_signed kind) (width_of kind machine) a b

-- `-` and `~` in a type of so many bits (C11 6.5.3.3p3 and p4); `!` is 1 where the operand is 0, and 0 otherwise (p5)
abbrev pub operated_unary : UnOp → Bool → ℕ → ℤ → Result ℤ Kind
operated_unary Neg signed width a = arithmetic signed width (neg_ℤ a)
operated_unary Not signed width a = Ok (truth_number (is_zero a))
operated_unary Compl signed width a = Ok (complement signed width a)

abbrev pub applied_unary : UnOp → IntKind → Machine → ℤ → Result ℤ Kind
applied_unary op kind machine a = operated_unary op (is_signed kind) (width_of kind machine) a

-- the number of a type of so many bits that differs by a multiple of 2 to the width (C11 6.3.1.3p2; for a signed type this machine's
-- choice of p3)
abbrev pub reduced : Bool → ℕ → ℤ → ℤ
reduced signed width n = signed_number signed width (residue (2 ^ width) n)

-- conversion to an integer type: a _Bool is 0 where the number is 0, and 1 otherwise (C11 6.3.1.2p1)
abbrev pub converted : IntKind → Machine → ℤ → ℤ
converted bool_kind machine n = truth_number (not (is_zero n))
converted kind machine n = reduced (is_signed kind) (width_of kind machine) n
