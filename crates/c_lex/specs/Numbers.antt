-- Integer and floating constants (C11 6.4.4.1, 6.4.4.2).
use Rattle.std.specs.Prelude.{ℕ, suc, ◌+◌, ◌-◌, ◌*◌, ◌==◌, nat_le, Bool, true, false, not, cond, ◌&&◌, ◌||◌, List, [], ◌∷◌, length, slice_index, take, drop, Option, None, Some}
use Rattle.c_base.specs.declared.token.Radix.{Radix}
use Rattle.c_base.specs.declared.token.Radix.TheVariants.{Octal, Decimal, Hexadecimal}
use Rattle.c_base.specs.declared.token.Length.{Length}
use Rattle.c_base.specs.declared.token.Length.TheVariants.{Plain, Long, LongLong}
use Rattle.c_base.specs.declared.token.IntegerConstant.{IntegerConstant}
use Rattle.c_lex.specs.declared.number.Suffix.{Suffix}
use Rattle.c_lex.specs.Bytes.{is_digit, is_sign}

-- ---- digits

abbrev pub is_digit_of : Radix → ℕ → Bool
is_digit_of Octal b = nat_le 48 b && nat_le b 55
is_digit_of Decimal b = is_digit b
is_digit_of Hexadecimal b = (is_digit b || (nat_le 97 b && nat_le b 102)) || (nat_le 65 b && nat_le b 70)

abbrev pub base : Radix → ℕ
base Octal = 8
base Decimal = 10
base Hexadecimal = 16

-- 0 to 9, then a or A, and so on
abbrev pub digit_value : ℕ → ℕ
digit_value b = cond (nat_le 97 b) (b - 87) (cond (nat_le 65 b) (b - 55) (b - 48))

-- how many digits stand at the front
unfoldable pub digits_at : Radix → List ℕ → ℕ
digits_at r [] = 0
digits_at r (b ∷ bs) = cond (is_digit_of r b) (suc (digits_at r bs)) 0

-- the number that digits write, behind a number that was read before them
unfoldable pub number_after : Radix → ℕ → List ℕ → ℕ
number_after r n [] = n
number_after r n (b ∷ bs) = number_after r (n * base r + digit_value b) bs

-- a number below 2^128
abbrev pub bounded : ℕ → Option ℕ
bounded n = cond (nat_le n 340282366920938463463374607431768211455) (Some n) None

-- the number that digits write, where it is below 2^128
unfoldable pub value_of : Radix → List ℕ → Option ℕ
value_of r digits = bounded (number_after r 0 digits)

-- ---- integer constants

abbrev pub is_l : ℕ → Bool
is_l b = b == 108 || b == 76

abbrev pub is_u : ℕ → Bool
is_u b = b == 117 || b == 85

abbrev pub is_f : ℕ → Bool
is_f b = b == 102 || b == 70

-- nothing, l, L, ll or LL
unfoldable pub length_of : List ℕ → Option Length
length_of text =
    cond (length text == 0) (Some Plain) (cond (not (is_l (slice_index text 0))) None (cond (length text == 1) (Some Long)
    (cond (length text == 2 && slice_index text 1 == slice_index text 0) (Some LongLong) None)))

abbrev pub with_length : Bool → Option Length → Option Suffix
with_length unsigned None = None
with_length unsigned (Some l) = Some (record { unsigned = unsigned; length = l })

-- a suffix: at most one u or U, before or behind the letters for the length
unfoldable pub suffix_of : List ℕ → Option Suffix
suffix_of text =
    cond (is_u (slice_index text 0)) (with_length true (length_of (drop 1 text)))
    (cond (is_u (slice_index text (length text - 1))) (with_length true (length_of (take (length text - 1) text))) (with_length false (length_of text)))

abbrev pub constant_with : Radix → Option ℕ → Option Suffix → Option IntegerConstant
constant_with r None s = None
constant_with r (Some n) None = None
constant_with r (Some n) (Some s) = Some (record { value = n; radix = r; unsigned = s.unsigned; length = s.length })

-- digits, then a suffix
unfoldable pub constant : Radix → List ℕ → Option IntegerConstant
constant r text =
    cond (digits_at r text == 0) None (constant_with r (value_of r (take (digits_at r text) text)) (suffix_of (drop (digits_at r text) text)))

-- 0x or 0X
abbrev pub begins_hexadecimal : List ℕ → Bool
begins_hexadecimal text = slice_index text 0 == 48 && (slice_index text 1 == 120 || slice_index text 1 == 88)

unfoldable pub integer_of : List ℕ → Option IntegerConstant
integer_of text =
    cond (begins_hexadecimal text) (constant Hexadecimal (drop 2 text)) (cond (slice_index text 0 == 48) (constant Octal text) (constant Decimal text))

-- ---- floating constants

-- nothing, or f, F, l, L
unfoldable pub ends_floating : List ℕ → Bool
ends_floating text = cond (length text == 0) true (length text == 1 && (is_f (slice_index text 0) || is_l (slice_index text 0)))

-- digits, then the end
unfoldable pub exponent_digits : List ℕ → Bool
exponent_digits text = not (digits_at Decimal text == 0) && ends_floating (drop (digits_at Decimal text) text)

abbrev pub exponent_letter : Radix → ℕ → Bool
exponent_letter Hexadecimal b = b == 112 || b == 80
exponent_letter Decimal b = b == 101 || b == 69
exponent_letter Octal b = false

-- a letter, a sign or none, digits, then the end
unfoldable pub has_exponent : Radix → List ℕ → Bool
has_exponent r text =
    exponent_letter r (slice_index text 0) && cond (is_sign (slice_index text 1)) (exponent_digits (drop 2 text)) (exponent_digits (drop 1 text))

abbrev pub may_lack_exponent : Radix → Bool
may_lack_exponent Hexadecimal = false
may_lack_exponent Decimal = true
may_lack_exponent Octal = false

-- behind the fraction: an exponent, or with decimal digits the end
unfoldable pub floating_tail : Radix → List ℕ → Bool
floating_tail r text = has_exponent r text || (may_lack_exponent r && ends_floating text)

-- digits around a dot, of which one side may be empty, or digits and an exponent
unfoldable pub floating : Radix → List ℕ → Bool
floating r text =
    let whole = digits_at r text in
    let rest = drop whole text in
    let fraction = drop 1 rest in
    let count = digits_at r fraction in
    cond (slice_index rest 0 == 46) (not (whole == 0 && count == 0) && floating_tail r (drop count fraction)) (not (whole == 0) && has_exponent r rest)

unfoldable pub is_floating : List ℕ → Bool
is_floating text = cond (begins_hexadecimal text) (floating Hexadecimal (drop 2 text)) (floating Decimal text)
