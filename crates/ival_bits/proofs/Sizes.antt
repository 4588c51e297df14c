-- How many bits numbers have.
use Rattle.std.proofs.Common.{◌≡◌, ℕ, suc, ◌+◌, ◌-◌, ◌*◌, ◌<◌, ◌≤◌, ◌^◌, Bool, true, false, ℤ, pos, negsuc, max, sym, subst, inl, inr, arith}
use Rattle.std.specs.Prelude.{unsigned_abs, ◌+ℤ◌}
use Rattle.std.specs.Int.{w128, leading_zeros}
use Rattle.std.proofs.lemmas.Int.{ints}
use Rattle.std.proofs.lemmas.Bool.{cases_lt}
use Rattle.std.proofs.lemmas.Nat.{leading_length, pow_pos}
use Rattle.std.proofs.Math.Nat.{pow-le-pow_right, pow-suc}
use lib.Signed.{◌<ℤ◌, ◌≤ℤ◌}
use Rattle.c_base.specs.Integers.{FitsBits}
use Rattle.ival_core.specs.Sets.{IsNumber}
use Rattle.ival_bits.specs.Spans.{Within, length_of, sized}

-- n has so many bits
pub record Sized (n bits : ℕ) : Type 0 where
  pub below : n < 2 ^ bits
  pub least : 2 ^ bits ≤ 2 * n + 1

length_is : (n : ℕ) → n < 2 ^ 128 → Sized n (length_of n)
length_is n h =
    let l = leading_length 128 n h in
    let e : 128 - leading_zeros w128 n ≡ l.0 = omega (arith, l.1) in
    record { below = subst (λ k. n < 2 ^ k) (sym e) l.2; least = subst (λ k. 2 ^ k ≤ 2 * n + 1) (sym e) l.3 }

-- no number below 2 to the k has more bits
length_within : (n k : ℕ) → n < 2 ^ 128 → n < 2 ^ k → length_of n ≤ k
length_within n k h l =
    let s = length_is n h in
    let a = s.least in
    elim (cases_lt k (length_of n)) [
      | inl b ↦
          let c : 2 ^ suc k ≤ 2 ^ length_of n = pow-le-pow_right (omega arith) b in
          let d = pow-suc 2 k in
          absurd (omega (arith, c, d))
      | inr b ↦ b
    ]

number_length : (n : ℕ) → n ≤ 2 ^ 120 → n < 2 ^ 128
number_length n h = omega arith

pub sized_within : (n : ℤ) → IsNumber n → Within (sized n) n
sized_within (pos n) h = let a = h.greatest in let s = length_is n (number_length n (omega (arith, ints))) in let b = s.below in record { above = omega (arith, ints); below = omega (arith, ints) }
sized_within (negsuc n) h = let a = h.least in let s = length_is n (number_length n (omega (arith, ints))) in let b = s.below in record { above = omega (arith, ints); below = omega (arith, ints) }

pub sized_least : (n : ℤ) (k : ℕ) → IsNumber n → Within k n → sized n ≤ k
sized_least (pos n) k h w = let a = h.greatest in let b = w.below in length_within n k (number_length n (omega (arith, ints))) (omega (arith, ints))
sized_least (negsuc n) k h w = let a = h.least in let b = w.above in length_within n k (number_length n (omega (arith, ints))) (omega (arith, ints))

pub within_more : (j k : ℕ) (n : ℤ) → j ≤ k → Within j n → Within k n
within_more j k n h w =
    let p : 2 ^ j ≤ 2 ^ k = pow-le-pow_right (omega arith) h in
    let a = w.above in let b = w.below in
    record { above = omega (arith, ints); below = omega (arith, ints) }

pub within_between : (k : ℕ) (low n high : ℤ) → Within k low → Within k high → low ≤ℤ n → n ≤ℤ high → Within k n
within_between k low n high a b h l = let c = a.above in let d = b.below in record { above = omega (arith, ints); below = omega (arith, ints) }

-- as many bits as the numbers of a type have
abbrev pub type_bits : Bool → ℕ → ℕ
type_bits true width = width - 1
type_bits false width = width

pub fits_within : (signed : Bool) (width : ℕ) (n : ℤ) → FitsBits signed width n → Within (type_bits signed width) n
fits_within true width n f = let p = pow_pos (width - 1) in let a = f.least in let b = f.greatest in record { above = omega (arith, ints); below = omega (arith, ints) }
fits_within false width n f = let p = pow_pos width in let a = f.least in let b = f.greatest in record { above = omega (arith, ints); below = omega (arith, ints) }

-- numbers below 2 to the 64 have at most 64 bits
pub length_small : (n : ℕ) → n < 2 ^ 64 → length_of n ≤ 64
length_small n h = length_within n 64 (omega arith) h

-- so many bits hold the numbers between two pairs of bounds
pub record Room (signed : Bool) (width bits : ℕ) (a b c d : ℤ) : Type 0 where
  pub type : bits ≤ type_bits signed width
  pub small : bits ≤ 64
  pub first : Within bits a
  pub last : Within bits b
  pub low : Within bits c
  pub high : Within bits d

pub type_small : (signed : Bool) (width : ℕ) → width ≤ 64 → type_bits signed width ≤ 64
type_small true width h = omega arith
type_small false width h = h

pub room_of : (signed : Bool) (width bits : ℕ) (a b c d : ℤ) → width ≤ 64 → FitsBits signed width a → FitsBits signed width b → FitsBits signed width c → FitsBits signed width d →
    IsNumber a → IsNumber b → IsNumber c → IsNumber d → bits ≡ max (max (sized a) (sized b)) (max (sized c) (sized d)) → Room signed width bits a b c d
room_of signed width bits a b c d w fa fb fc fd na nb nc nd e =
    let ka = sized_least a (type_bits signed width) na (fits_within signed width a fa) in
    let kb = sized_least b (type_bits signed width) nb (fits_within signed width b fb) in
    let kc = sized_least c (type_bits signed width) nc (fits_within signed width c fc) in
    let kd = sized_least d (type_bits signed width) nd (fits_within signed width d fd) in
    let s = type_small signed width w in
    let t : bits ≤ type_bits signed width = omega (arith, ka, kb, kc, kd, e) in
    record {
      type = t;
      small = omega arith;
      first = within_more (sized a) bits a (omega (arith, e)) (sized_within a na);
      last = within_more (sized b) bits b (omega (arith, e)) (sized_within b nb);
      low = within_more (sized c) bits c (omega (arith, e)) (sized_within c nc);
      high = within_more (sized d) bits d (omega (arith, e)) (sized_within d nd);
    }

-- a mask of a type has at most 64 bits
pub mask_small : (n : ℤ) (bits : ℕ) → n <ℤ pos (2 ^ 64) → pos 0 ≤ℤ n → bits ≡ length_of (unsigned_abs n) → bits ≤ 64
mask_small n bits h l e = let k : unsigned_abs n < 2 ^ 64 = omega (arith, ints) in let s = length_small (unsigned_abs n) k in omega (arith, s, e)

-- numbers of a type have at most 64 bits
pub typed_small : (signed : Bool) (width : ℕ) (n : ℤ) → width ≤ 64 → IsNumber n → FitsBits signed width n → sized n ≤ 64
typed_small signed width n w i f =
    let k = sized_least n (type_bits signed width) i (fits_within signed width n f) in
    let s = type_small signed width w in
    omega (arith, k, s)

pub length_zero : length_of 0 ≡ 0
length_zero = let h = length_within 0 0 (omega arith) (omega arith) in omega (arith, h)

-- sums of numbers of a type are numbers of a set
pub sum_number : (signed : Bool) (width : ℕ) (x y : ℤ) → width ≤ 64 → FitsBits signed width x → FitsBits signed width y → IsNumber (x +ℤ y)
sum_number signed width x y w f g =
    let s = type_small signed width w in
    let p = within_more (type_bits signed width) 64 x s (fits_within signed width x f) in
    let q = within_more (type_bits signed width) 64 y s (fits_within signed width y g) in
    let a = p.above in let b = p.below in let c = q.above in let d = q.below in
    record { least = omega (arith, ints); greatest = omega (arith, ints) }
