-- Character constants and string literals (C11 6.4.4.4, 6.4.5).
use Rattle.std.specs.Prelude.{ℕ, zero, suc, ◌+◌, ◌-◌, ◌<◌, ◌==◌, nat_le, cond, List, [], ◌∷◌, length, slice_index, take, drop, Option, None, Some}
use Rattle.c_base.specs.declared.token.Radix.TheVariants.{Octal, Hexadecimal}
use Rattle.c_lex.specs.declared.text.Escaped.{Escaped}
use Rattle.c_lex.specs.declared.text.Contents.{Contents}
use Rattle.c_lex.specs.declared.text.Contents.TheVariants.{Bytes, WrongAt}
use Rattle.c_lex.specs.Numbers.{digits_at, value_of}

-- \' \" \? \\ \a \b \t \n \v \f \r
unfoldable pub simple : ℕ → Option ℕ
simple b =
    cond (b == 39) (Some 39) (cond (b == 34) (Some 34) (cond (b == 63) (Some 63) (cond (b == 92) (Some 92) (cond (b == 97) (Some 7) (cond (b == 98) (Some 8)
    (cond (b == 116) (Some 9) (cond (b == 110) (Some 10) (cond (b == 118) (Some 11) (cond (b == 102) (Some 12) (cond (b == 114) (Some 13) None))))))))))

-- a number up to 255
abbrev pub numeric : Option ℕ → ℕ → Option Escaped
numeric None n = None
numeric (Some v) n = cond (nat_le v 255) (Some (record { value = v; length = n })) None

-- `x` and any number of hexadecimal digits, but not none
unfoldable pub escape_hexadecimal : List ℕ → Option Escaped
escape_hexadecimal text =
    let n = digits_at Hexadecimal (drop 1 text) in
    cond (n == 0) None (numeric (value_of Hexadecimal (take n (drop 1 text))) (n + 1))

abbrev pub simple_with : Option ℕ → Option Escaped
simple_with None = None
simple_with (Some v) = Some (record { value = v; length = 1 })

-- the escape whose `\` stands directly before the text: up to three octal digits, `x` and hexadecimal digits, or one byte
unfoldable pub escape : List ℕ → Option Escaped
escape text =
    let n = digits_at Octal (take 3 text) in
    cond (n == 0) (cond (slice_index text 0 == 120) (escape_hexadecimal text) (simple_with (simple (slice_index text 0)))) (numeric (value_of Octal (take n text)) n)

-- one byte more in front
abbrev pub prepend : ℕ → Contents → Contents
prepend b (Bytes more) = Bytes (b ∷ more)
prepend b (WrongAt n) = WrongAt n

-- what an escape gives, whose `\` stands at an index
abbrev pub with_escape : ℕ → (ℕ → Contents) → Option Escaped → Contents
with_escape at behind None = WrongAt at
with_escape at behind (Some e) = prepend e.value (behind e.length)

-- The bytes for which a text between quotes stands, or where its first wrong escape has its `\`. The text begins at an index, and its first `skip` bytes belong to an escape.
unfoldable pub contents : ℕ → ℕ → List ℕ → Contents
contents skip at [] = Bytes []
contents (suc skip) at (b ∷ bs) = contents skip (suc at) bs
contents zero at (b ∷ bs) = cond (b == 92) (with_escape at (λ n. contents n (suc at) bs) (escape bs)) (prepend b (contents zero (suc at) bs))

-- a wrong escape stands in the text
abbrev pub IsWithin : ℕ → Contents → Type 0
IsWithin size (Bytes bytes) = Unit {0}
IsWithin size (WrongAt n) = n < size

-- what stands between the quotes
abbrev pub inner : List ℕ → List ℕ
inner text = take (length text - 2) (drop 1 text)
