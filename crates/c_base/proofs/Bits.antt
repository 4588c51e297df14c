-- Bits of numbers, and numbers of bits.
use Rattle.std.proofs.Common.{◌≡◌, ℕ, zero, suc, ◌-◌, ◌*◌, ◌/◌, ◌%◌, ◌^◌, ◌<◌, ◌≤◌, ◌==◌, true, false, cond, length, refl, ap, arith}
use Rattle.std.proofs.Math.Nat.{pow-suc}
use Rattle.std.specs.Prelude.{ℤ, pos, negsuc, nat_lt}
use Rattle.std.proofs.lemmas.Bool.Decides.{nat_tests}
use Rattle.c_base.specs.declared.integer.IntKind.TheVariants.{Int}
use Rattle.c_base.specs.declared.integer.Machine.TheVariants.{Lp64}
use Rattle.c_base.specs.Integers.{bits_from, number_of_bits, residue, signed_number, fits_kind}

pub length-bits_from : (n k : ℕ) → length (bits_from n k) ≡ k
unfolding bits_from
length-bits_from n zero = refl
length-bits_from n (suc k) = ap suc (length-bits_from (n / 2) k)

lowest_bit : (n : ℕ) → cond (n % 2 == 1) 1 0 ≡ n % 2
lowest_bit n = let small : n % 2 < 2 = omega arith in grind (arith, nat_tests)

power_suc : (k : ℕ) → 2 ^ suc k ≡ 2 * 2 ^ k
power_suc k = omega (arith, pow-suc 2 k)

pub number_of_bits-bits_from : (n k : ℕ) → n < 2 ^ k → number_of_bits (bits_from n k) ≡ n
unfolding bits_from number_of_bits
number_of_bits-bits_from n zero h = omega arith
number_of_bits-bits_from n (suc k) h =
    let p = power_suc k in
    let half : n / 2 < 2 ^ k = omega arith in
    let rest = number_of_bits-bits_from (n / 2) k half in
    let low = lowest_bit n in
    rw (low, rest) (omega arith)

pub fits_pos : (n : ℕ) → fits_kind Int Lp64 (pos n) ≡ true → n ≤ 2147483647
fits_pos n h = grind (arith, nat_tests)

pub fits_neg : (n : ℕ) → fits_kind Int Lp64 (negsuc n) ≡ true → n ≤ 2147483647
fits_neg n h = grind (arith, nat_tests)

pub pos_fits : (n : ℕ) → n ≤ 2147483647 → fits_kind Int Lp64 (pos n) ≡ true
pos_fits n h = grind (arith, nat_tests)

-- a number of int in two's complement, and back
pub signed_back : (n : ℤ) → fits_kind Int Lp64 n ≡ true → (residue (2 ^ 32) n < 2 ^ 32) × (signed_number true 32 (residue (2 ^ 32) n) ≡ n)
signed_back (pos n) h =
    let small = fits_pos n h in
    let same : n % 4294967296 ≡ n = omega arith in
    let low : nat_lt n 2147483648 ≡ true = grind (arith, nat_tests) in
    (omega arith, rw (same, low) refl)
signed_back (negsuc n) h =
    let small = fits_neg n h in
    let same : n % 4294967296 ≡ n = omega arith in
    let high : nat_lt (4294967296 - suc n) 2147483648 ≡ false = grind (arith, nat_tests) in
    let twice : 4294967296 - suc (4294967296 - suc n) ≡ n = omega arith in
    (omega arith, rw (same, high, twice) refl)
