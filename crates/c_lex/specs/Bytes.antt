-- Classes of bytes (C11 5.2.1, 6.4, 6.4.2.1).
use Rattle.std.specs.Prelude.{ℕ, ◌==◌, nat_le, Bool, ◌||◌, ◌&&◌}

-- space; tab, line feed, vertical tab, form feed, carriage return
abbrev pub is_white : ℕ → Bool
is_white b = b == 32 || (nat_le 9 b && nat_le b 13)

abbrev pub is_digit : ℕ → Bool
is_digit b = nat_le 48 b && nat_le b 57

abbrev pub is_small : ℕ → Bool
is_small b = nat_le 97 b && nat_le b 122

abbrev pub is_capital : ℕ → Bool
is_capital b = nat_le 65 b && nat_le b 90

abbrev pub is_letter : ℕ → Bool
is_letter b = is_small b || is_capital b

-- a letter or an underscore
abbrev pub is_name_start : ℕ → Bool
is_name_start b = is_letter b || b == 95

abbrev pub is_name_byte : ℕ → Bool
is_name_byte b = is_name_start b || is_digit b

-- plus, minus
abbrev pub is_sign : ℕ → Bool
is_sign b = b == 43 || b == 45

-- e, E, p, P
abbrev pub is_exponent_letter : ℕ → Bool
is_exponent_letter b = (b == 101 || b == 69) || (b == 112 || b == 80)
