-- Counting and reading digits from the left.
use Rattle.std.proofs.Common.{◌≡◌, ℕ, suc, ◌+◌, ◌-◌, ◌*◌, ◌/◌, ◌<◌, ◌≤◌, nat_le, true, false, cond, List, [], ◌∷◌, length, get_or, drop, Some, None, refl, sym, ◌∙◌, ap, arith, add-one, drop-cons, drop_of_length-le}
use Rattle.std.proofs.Math.Nat.{mul-le-mul_left}
use Rattle.std.proofs.lemmas.Bool.Decides.{nat_tests}
use Rattle.c_base.specs.declared.token.Radix.{Radix}
use Rattle.c_base.specs.declared.token.Radix.TheVariants.{Octal, Decimal, Hexadecimal}
use Rattle.c_lex.specs.Numbers.{is_digit_of, base, digit_value, digits_at, number_after, bounded, value_of}

at_front : (r : Radix) (bs : List ℕ) (i : ℕ) → i < length bs →
    digits_at r (drop i bs) ≡ cond (is_digit_of r (get_or bs i 0)) (suc (digits_at r (drop (i + 1) bs))) 0
unfolding digits_at
at_front r bs i h = rw (drop-cons bs i 0, add-one) refl

pub digits_step : (r : Radix) (bs : List ℕ) (i : ℕ) → i < length bs → is_digit_of r (get_or bs i 0) ≡ true →
    i + digits_at r (drop i bs) ≡ digits_at r bs → i + 1 + digits_at r (drop (i + 1) bs) ≡ digits_at r bs
digits_step r bs i h d e =
    let f = at_front r bs i h in let g : digits_at r (drop i bs) ≡ suc (digits_at r (drop (i + 1) bs)) = f ∙ rw d refl in omega arith

pub digits_stop : (r : Radix) (bs : List ℕ) (i : ℕ) → i < length bs → is_digit_of r (get_or bs i 0) ≡ false →
    i + digits_at r (drop i bs) ≡ digits_at r bs → i ≡ digits_at r bs
digits_stop r bs i h d e =
    let f = at_front r bs i h in let g : digits_at r (drop i bs) ≡ 0 = f ∙ rw d refl in omega arith

pub digits_end : (r : Radix) (bs : List ℕ) (i : ℕ) → length bs ≤ i → i + digits_at r (drop i bs) ≡ digits_at r bs → i ≡ digits_at r bs
unfolding digits_at
digits_end r bs i h e = let f : i + 0 ≡ digits_at r bs = rw (drop_of_length-le bs {i = i} h) at e in omega arith

-- ---- numbers

grows : (r : Radix) (n : ℕ) (bs : List ℕ) → n ≤ number_after r n bs
unfolding number_after
grows r n [] = omega arith
grows Octal n (b ∷ bs) = let h = grows Octal (n * 8 + digit_value b) bs in omega arith
grows Decimal n (b ∷ bs) = let h = grows Decimal (n * 10 + digit_value b) bs in omega arith
grows Hexadecimal n (b ∷ bs) = let h = grows Hexadecimal (n * 16 + digit_value b) bs in omega arith

pub number_step : (r : Radix) (n : ℕ) (bs : List ℕ) (i : ℕ) → i < length bs →
    number_after r n (drop i bs) ≡ number_after r (n * base r + digit_value (get_or bs i 0)) (drop (i + 1) bs)
unfolding number_after
number_step r n bs i h = rw (drop-cons bs i 0, add-one) refl

-- a quotient tells when the next number is too big
pub beyond : (v d b m : ℕ) → 0 < b → d ≤ m → (m - d) / b < v → m < v * b + d
beyond v d b m some small h =
    let q : ℕ = (m - d) / b in
    let k : b * (q + 1) ≤ b * v = mul-le-mul_left b (let up : q + 1 ≤ v = omega arith in up) in omega arith

pub fits : (v d b m : ℕ) → 0 < b → d ≤ m → v ≤ (m - d) / b → v * b + d ≤ m
fits v d b m some small h = let k : b * v ≤ b * ((m - d) / b) = mul-le-mul_left b h in omega arith

not_bounded : (n : ℕ) → 340282366920938463463374607431768211455 < n → bounded n ≡ None
not_bounded n h = let e : nat_le n 340282366920938463463374607431768211455 ≡ false = grind (arith, nat_tests) in rw e refl

is_bounded : (n : ℕ) → n ≤ 340282366920938463463374607431768211455 → bounded n ≡ Some n
is_bounded n h = let e : nat_le n 340282366920938463463374607431768211455 ≡ true = grind (arith, nat_tests) in rw e refl

pub number_beyond : (r : Radix) (n next : ℕ) (bs : List ℕ) (i : ℕ) → i < length bs → next ≡ n * base r + digit_value (get_or bs i 0) →
    340282366920938463463374607431768211455 < next → number_after r n (drop i bs) ≡ number_after r 0 bs → None ≡ value_of r bs
unfolding value_of
number_beyond r n next bs i h e big k =
    let s = number_step r n bs i h in
    let whole : number_after r next (drop (i + 1) bs) ≡ number_after r 0 bs = rw e (sym s ∙ k) in
    let g = grows r next (drop (i + 1) bs) in
    sym (not_bounded (number_after r 0 bs) (omega arith))

pub number_read : (r : Radix) (n : ℕ) (bs : List ℕ) (i : ℕ) → length bs ≤ i → n ≤ 340282366920938463463374607431768211455 →
    number_after r n (drop i bs) ≡ number_after r 0 bs → Some n ≡ value_of r bs
unfolding value_of number_after
number_read r n bs i h small k =
    let e : n ≡ number_after r 0 bs = rw (drop_of_length-le bs {i = i} h) at k in
    sym (ap bounded (sym e) ∙ is_bounded n small)

-- one step of the loop that reads digits: the base `b`, the digit `d`
pub value_beyond : (r : Radix) (n b d : ℕ) (bs : List ℕ) (i : ℕ) → i < length bs → b ≡ base r → d ≡ digit_value (get_or bs i 0) → 0 < b →
    d ≤ 340282366920938463463374607431768211455 → (340282366920938463463374607431768211455 - d) / b < n →
    number_after r n (drop i bs) ≡ number_after r 0 bs → None ≡ value_of r bs
value_beyond r n b d bs i h e f some small big k =
    let next : n * b + d ≡ n * base r + digit_value (get_or bs i 0) = rw (e, f) refl in
    number_beyond r n (n * b + d) bs i h next (beyond n d b 340282366920938463463374607431768211455 some small big) k

pub record ValueStep (r : Radix) (next : ℕ) (bs : List ℕ) (i : ℕ) : Type 0 where
  pub small : next ≤ 340282366920938463463374607431768211455
  pub left : number_after r next (drop (i + 1) bs) ≡ number_after r 0 bs

pub value_step : (r : Radix) (n b d : ℕ) (bs : List ℕ) (i : ℕ) → i < length bs → b ≡ base r → d ≡ digit_value (get_or bs i 0) → 0 < b →
    d ≤ 340282366920938463463374607431768211455 → n ≤ (340282366920938463463374607431768211455 - d) / b →
    number_after r n (drop i bs) ≡ number_after r 0 bs → ValueStep r (n * b + d) bs i
value_step r n b d bs i h e f some small fit k =
    let next : n * b + d ≡ n * base r + digit_value (get_or bs i 0) = rw (e, f) refl in
    record {
      small = fits n d b 340282366920938463463374607431768211455 some small fit;
      left = rw next (sym (number_step r n bs i h) ∙ k);
    }
