-- Bits and the numbers that they spell.
use Rattle.std.proofs.Common.{◌≡◌, ℕ, ◌+◌, ◌*◌, ◌/◌, ◌%◌, ◌^◌, ◌<◌, ◌==◌, Bool, true, false, cond, List, [], ◌∷◌, length, refl, arith}
use Rattle.std.proofs.Math.Nat.{pow-suc}
use Rattle.c_base.specs.Integers.{bits_from, number_of_bits}

one_more : (b : Bool) (n : ℕ) → ((cond b 1 0 + 2 * n) % 2 == 1) ≡ b
one_more true n = let e : (1 + 2 * n) % 2 ≡ 1 = omega arith in rw e refl
one_more false n = let e : (0 + 2 * n) % 2 ≡ 0 = omega arith in rw e refl

one_less : (b : Bool) (n : ℕ) → (cond b 1 0 + 2 * n) / 2 ≡ n
one_less true n = omega arith
one_less false n = omega arith

pub bits_from-number_of_bits : (bs : List Bool) → bits_from (number_of_bits bs) (length bs) ≡ bs
unfolding bits_from number_of_bits
bits_from-number_of_bits [] = refl
bits_from-number_of_bits (b ∷ bs) = rw (one_more b (number_of_bits bs), one_less b (number_of_bits bs), bits_from-number_of_bits bs) refl

pub number_of_bits-below : (bs : List Bool) → number_of_bits bs < 2 ^ length bs
unfolding number_of_bits
number_of_bits-below [] = omega arith
number_of_bits-below (b ∷ bs) =
    let h = number_of_bits-below bs in
    let p = pow-suc 2 (length bs) in
    let small = bit_small b in
    omega arith
  where
    bit_small : (b : Bool) → cond b 1 0 < 2
    bit_small true = omega arith
    bit_small false = omega arith
