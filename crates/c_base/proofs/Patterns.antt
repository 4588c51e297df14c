-- Operators on bits, by the numbers that the bits spell.
use Rattle.std.proofs.Common.{◌≡◌, ℕ, zero, suc, ◌+◌, ◌-◌, ◌*◌, ◌/◌, ◌%◌, ◌^◌, ◌<◌, ◌==◌, min, max, Bool, cond, map, refl, sym, arith}
use Rattle.std.specs.Prelude.{◌&&◌, ◌||◌, not, bit_and, bit_or, bit_xor}
use Rattle.std.proofs.Math.Nat.{pow-suc}
use lib.Bits.{and_step, or_step, xor_step, differ}
use Rattle.c_base.specs.Integers.{bits_from, number_of_bits}
use Rattle.c_base.specs.Operators.{zip_bits, xor}

-- what an operator makes of the number of one bit
pub record Step (f : Bool → Bool → Bool) (g h : ℕ → ℕ → ℕ) : Type 0 where
  pub none : g 0 0 ≡ 0
  pub step : (a b : ℕ) → g a b ≡ g (a / 2) (b / 2) * 2 + h (a % 2) (b % 2)
  pub bit : (x y : ℕ) → x < 2 → y < 2 → cond (f (x == 1) (y == 1)) 1 0 ≡ h x y

pub zip_bits_are : (f : Bool → Bool → Bool) (g h : ℕ → ℕ → ℕ) (s : Step f g h) (k a b : ℕ) → a < 2 ^ k → b < 2 ^ k →
    number_of_bits (zip_bits f (bits_from a k) (bits_from b k)) ≡ g a b
unfolding bits_from number_of_bits
zip_bits_are f g h s zero a b p q =
    let x : a ≡ 0 = omega arith in
    let y : b ≡ 0 = omega arith in
    rw (x, y) (sym s.none)
zip_bits_are f g h s (suc k) a b p q =
    let w = pow-suc 2 k in
    let x : a / 2 < 2 ^ k = omega arith in
    let y : b / 2 < 2 ^ k = omega arith in
    let i : a % 2 < 2 = omega arith in
    let j : b % 2 < 2 = omega arith in
    let e = zip_bits_are f g h s k (a / 2) (b / 2) x y in
    let l = s.bit (a % 2) (b % 2) i j in
    let t = s.step a b in
    rw (e, l, t) (omega arith)

bits_two : (P : ℕ → Type 0) → P 0 → P 1 → (x : ℕ) → x < 2 → P x
bits_two P p q zero h = p
bits_two P p q (suc zero) h = q
bits_two P p q (suc (suc x)) h = absurd (omega arith)

and_bit : (x y : ℕ) → x < 2 → y < 2 → cond ((x == 1) && (y == 1)) 1 0 ≡ min x y
and_bit x y h k =
    bits_two (λ x. cond ((x == 1) && (y == 1)) 1 0 ≡ min x y)
    (bits_two (λ y. cond ((0 == 1) && (y == 1)) 1 0 ≡ min 0 y) refl refl y k)
    (bits_two (λ y. cond ((1 == 1) && (y == 1)) 1 0 ≡ min 1 y) refl refl y k) x h

or_bit : (x y : ℕ) → x < 2 → y < 2 → cond ((x == 1) || (y == 1)) 1 0 ≡ max x y
or_bit x y h k =
    bits_two (λ x. cond ((x == 1) || (y == 1)) 1 0 ≡ max x y)
    (bits_two (λ y. cond ((0 == 1) || (y == 1)) 1 0 ≡ max 0 y) refl refl y k)
    (bits_two (λ y. cond ((1 == 1) || (y == 1)) 1 0 ≡ max 1 y) refl refl y k) x h

xor_bit : (x y : ℕ) → x < 2 → y < 2 → cond (xor (x == 1) (y == 1)) 1 0 ≡ differ x y
xor_bit x y h k =
    bits_two (λ x. cond (xor (x == 1) (y == 1)) 1 0 ≡ differ x y)
    (bits_two (λ y. cond (xor (0 == 1) (y == 1)) 1 0 ≡ differ 0 y) refl refl y k)
    (bits_two (λ y. cond (xor (1 == 1) (y == 1)) 1 0 ≡ differ 1 y) refl refl y k) x h

pub zip_bits-and : (k a b : ℕ) → a < 2 ^ k → b < 2 ^ k → number_of_bits (zip_bits (λ x y. x && y) (bits_from a k) (bits_from b k)) ≡ bit_and a b
zip_bits-and k a b p q = zip_bits_are (λ x y. x && y) bit_and min (record { none = refl; step = and_step; bit = and_bit }) k a b p q

pub zip_bits-or : (k a b : ℕ) → a < 2 ^ k → b < 2 ^ k → number_of_bits (zip_bits (λ x y. x || y) (bits_from a k) (bits_from b k)) ≡ bit_or a b
zip_bits-or k a b p q = zip_bits_are (λ x y. x || y) bit_or max (record { none = refl; step = or_step; bit = or_bit }) k a b p q

pub zip_bits-xor : (k a b : ℕ) → a < 2 ^ k → b < 2 ^ k → number_of_bits (zip_bits xor (bits_from a k) (bits_from b k)) ≡ bit_xor a b
zip_bits-xor k a b p q = zip_bits_are xor bit_xor differ (record { none = refl; step = xor_step; bit = xor_bit }) k a b p q

not_bit : (x : ℕ) → x < 2 → cond (not (x == 1)) 1 0 ≡ 1 - x
not_bit x h = bits_two (λ x. cond (not (x == 1)) 1 0 ≡ 1 - x) refl refl x h

pub map-not_are : (k a : ℕ) → a < 2 ^ k → number_of_bits (map not (bits_from a k)) ≡ 2 ^ k - 1 - a
unfolding bits_from number_of_bits
map-not_are zero a p = omega arith
map-not_are (suc k) a p =
    let w = pow-suc 2 k in
    let x : a / 2 < 2 ^ k = omega arith in
    let i : a % 2 < 2 = omega arith in
    let e = map-not_are k (a / 2) x in
    let l = not_bit (a % 2) i in
    rw (e, l) (omega arith)
