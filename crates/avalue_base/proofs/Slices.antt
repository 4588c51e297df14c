-- Slices of the bits of a number, and numbers that are made of two.
use Rattle.std.proofs.Common.{◌≡◌, ℕ, zero, suc, ◌+◌, ◌-◌, ◌*◌, ◌/◌, ◌%◌, ◌^◌, ◌<◌, ◌≤◌, ◌==◌, ◌∷◌, ◌++◌, take, drop, ℤ, pos, ◌+ℤ◌, refl, sym, subst, ap, ◌∙◌, arith}
use Rattle.std.specs.Prelude.{◌*ℤ◌}
use Rattle.std.proofs.Math.Nat.{mul_assoc as mul_assoc_nat, mul_comm, mul-suc, pow-suc, div-div-eq-div-mul, mod-eq_of_lt}
use Rattle.std.proofs.lemmas.Nat.{pow-add, mod-pow-add, pow_pos, div-add-mod', mod_below, mul-le}
use Rattle.std.proofs.lemmas.Int.{ints}
use lib.Signed.{◌<ℤ◌, ◌≤ℤ◌}
use Rattle.c_base.specs.Integers.{residue, bits_from}
use Rattle.c_base.specs.Operators.{floor}
use Rattle.c_base.proofs.Products.{add-mul, mul_assoc}
use Rattle.c_base.proofs.Residues.{residue_below, residue_differs, residue_same}
use Rattle.ival_arith.proofs.Flooring.{floor_is}
use Rattle.ival_bits.specs.Parts.{part, glued}

pub take-bits_from : (r k n : ℕ) → n ≤ k → take n (bits_from r k) ≡ bits_from r n
unfolding bits_from
take-bits_from r k zero h = refl
take-bits_from r zero (suc n) h = absurd (omega arith)
take-bits_from r (suc k) (suc n) h = ap (λ bs. (r % 2 == 1) ∷ bs) (take-bits_from (r / 2) k n (omega arith))

pub drop-bits_from : (r k low : ℕ) → low ≤ k → drop low (bits_from r k) ≡ bits_from (r / 2 ^ low) (k - low)
unfolding bits_from
drop-bits_from r k zero h =
    let one : r / 2 ^ 0 ≡ r = omega arith in
    let all : k - 0 ≡ k = omega arith in
    rw (one, all) refl
drop-bits_from r zero (suc low) h = absurd (omega arith)
drop-bits_from r (suc k) (suc low) h =
    let e = drop-bits_from (r / 2) k low (omega arith) in
    let f : r / 2 / 2 ^ low ≡ r / 2 ^ suc low = div-div-eq-div-mul r 2 (2 ^ low) ∙ ap (λ m. r / m) (double low) in
    let g : suc k - suc low ≡ k - low = omega arith in
    e ∙ ap (λ q. bits_from q (k - low)) f ∙ ap (bits_from (r / 2 ^ suc low)) (sym g)
  where
    double : (n : ℕ) → 2 * 2 ^ n ≡ 2 ^ suc n
    double n = let p = pow-suc 2 n in omega arith

pub bits_from-mod : (r n : ℕ) → bits_from (r % 2 ^ n) n ≡ bits_from r n
unfolding bits_from
bits_from-mod r zero = refl
bits_from-mod r (suc n) =
    let e = mod-pow-add r n 1 in
    let f : n + 1 ≡ suc n = omega arith in
    let g : r % 2 ^ suc n ≡ (r / 2 ^ 1 % 2 ^ n) * 2 ^ 1 + r % 2 ^ 1 = subst (λ j. r % 2 ^ j ≡ (r / 2 ^ 1 % 2 ^ n) * 2 ^ 1 + r % 2 ^ 1) f e in
    let low : r % 2 ^ suc n % 2 ≡ r % 2 = omega arith in
    let high : r % 2 ^ suc n / 2 ≡ r / 2 % 2 ^ n = omega arith in
    rw (low, high, bits_from-mod (r / 2) n) refl

pub bits_from-append : (low high j k : ℕ) → low < 2 ^ j → bits_from (low + 2 ^ j * high) (j + k) ≡ bits_from low j ++ bits_from high k
unfolding bits_from
bits_from-append low high zero k h =
    let e : low + 2 ^ 0 * high ≡ high = omega arith in
    let f : 0 + k ≡ k = omega arith in
    rw (e, f) refl
bits_from-append low high (suc j) k h =
    let p = pow-suc 2 j in
    let w : 2 ^ suc j * high ≡ 2 * (2 ^ j * high) = doubled (2 ^ suc j) (2 ^ j) high (omega arith) in
    let a : (low + 2 ^ suc j * high) % 2 ≡ low % 2 = omega arith in
    let b : (low + 2 ^ suc j * high) / 2 ≡ low / 2 + 2 ^ j * high = omega arith in
    let c : suc j + k ≡ suc (j + k) = omega arith in
    let small : low / 2 < 2 ^ j = omega arith in
    let e = bits_from-append (low / 2) high j k small in
    ap (bits_from (low + 2 ^ suc j * high)) c ∙ first (low + 2 ^ suc j * high) (j + k)
    ∙ ap (λ z. (z == 1) ∷ bits_from ((low + 2 ^ suc j * high) / 2) (j + k)) a
    ∙ ap (λ z. (low % 2 == 1) ∷ bits_from z (j + k)) b
    ∙ ap (λ bs. (low % 2 == 1) ∷ bs) e
  where
    doubled : (m n x : ℕ) → m ≡ 2 * n → m * x ≡ 2 * (n * x)
    doubled m n x e = ap (λ z. z * x) e ∙ mul_assoc_nat 2 n x

    first : (r n : ℕ) → bits_from r (suc n) ≡ (r % 2 == 1) ∷ bits_from (r / 2) n
    first r n = refl

-- ---- the bits of a part

-- the upper part of z, by that of its residue
upper : (z : ℤ) (low k : ℕ) → low ≤ k → (t : ℤ) → z ≡ pos (residue (2 ^ k) z) +ℤ t *ℤ pos (2 ^ k) → floor z (2 ^ low) ≡ pos (residue (2 ^ k) z / 2 ^ low) +ℤ t *ℤ pos (2 ^ (k - low))
upper z low k h t e =
    let r = residue (2 ^ k) z in
    let m : 2 ^ (k - low) * 2 ^ low ≡ 2 ^ k = sym (pow-add 2 (k - low) low) ∙ ap (λ j. 2 ^ j) (back k low h) in
    let q : (t *ℤ pos (2 ^ (k - low))) *ℤ pos (2 ^ low) ≡ t *ℤ pos (2 ^ k) = mul_assoc t (pos (2 ^ (k - low))) (pos (2 ^ low)) ∙ ap (λ x. t *ℤ x) (ap pos m) in
    let s : (pos (r / 2 ^ low) +ℤ t *ℤ pos (2 ^ (k - low))) *ℤ pos (2 ^ low) ≡ pos (r / 2 ^ low * 2 ^ low) +ℤ t *ℤ pos (2 ^ k) =
    add-mul (pos (r / 2 ^ low)) (t *ℤ pos (2 ^ (k - low))) (pos (2 ^ low)) ∙ ap (λ x. pos (r / 2 ^ low * 2 ^ low) +ℤ x) q in
    let d = div-add-mod' r (2 ^ low) in
    let b = mod_below r (2 ^ low) (pow_pos low) in
    floor_is z (pos (r / 2 ^ low) +ℤ t *ℤ pos (2 ^ (k - low))) (2 ^ low) (pow_pos low)
    (below (r / 2 ^ low * 2 ^ low) r (r % 2 ^ low) z ((pos (r / 2 ^ low) +ℤ t *ℤ pos (2 ^ (k - low))) *ℤ pos (2 ^ low)) (t *ℤ pos (2 ^ k)) s e d)
    (above (r / 2 ^ low * 2 ^ low) r (r % 2 ^ low) (2 ^ low) z ((pos (r / 2 ^ low) +ℤ t *ℤ pos (2 ^ (k - low))) *ℤ pos (2 ^ low)) (t *ℤ pos (2 ^ k)) s e d b)
  where
    back : (k low : ℕ) → low ≤ k → k - low + low ≡ k
    back k low h = omega arith

    below : (a r b : ℕ) (z p t : ℤ) → p ≡ pos a +ℤ t → z ≡ pos r +ℤ t → a + b ≡ r → p ≤ℤ z
    below a r b z p t e f g = omega (arith, ints)

    above : (a r b m : ℕ) (z p t : ℤ) → p ≡ pos a +ℤ t → z ≡ pos r +ℤ t → a + b ≡ r → b < m → z <ℤ (p +ℤ pos m)
    above a r b m z p t e f g h = omega (arith, ints)

pub residue_part : (z : ℤ) (low n k : ℕ) → low + n ≤ k → residue (2 ^ n) (floor z (2 ^ low)) ≡ residue (2 ^ k) z / 2 ^ low % 2 ^ n
residue_part z low n k h =
    let d = residue_differs (2 ^ k) z (pow_pos k) in
    let u = upper z low k (omega arith) d.times d.is in
    let m : 2 ^ (k - low - n) * 2 ^ n ≡ 2 ^ (k - low) = sym (pow-add 2 (k - low - n) n) ∙ ap (λ j. 2 ^ j) (back k low n h) in
    residue_same (2 ^ n) (floor z (2 ^ low)) (pos (residue (2 ^ k) z / 2 ^ low)) (pow_pos n) (record {
      times = d.times *ℤ pos (2 ^ (k - low - n));
      is = u ∙ ap (λ x. pos (residue (2 ^ k) z / 2 ^ low) +ℤ x) (ap (λ x. d.times *ℤ x) (ap pos (sym m)) ∙ sym (mul_assoc d.times (pos (2 ^ (k - low - n))) (pos (2 ^ n))));
    })
  where
    back : (k low n : ℕ) → low + n ≤ k → k - low - n + n ≡ k - low
    back k low n h = omega arith

-- the bits of a part are the part of the bits
pub bits_of_part : (z : ℤ) (low n k : ℕ) → low + n ≤ k → take n (drop low (bits_from (residue (2 ^ k) z) k)) ≡ bits_from (residue (2 ^ n) (part low n z)) n
bits_of_part z low n k h =
    let r = residue (2 ^ k) z in
    ap (take n) (drop-bits_from r k low (omega arith)) ∙ take-bits_from (r / 2 ^ low) (k - low) n (omega arith)
    ∙ sym (bits_from-mod (r / 2 ^ low) n) ∙ ap (λ q. bits_from q n) (sym (residue_part z low n k h) ∙ sym (mod-eq_of_lt (residue_below (2 ^ n) (floor z (2 ^ low)) (pow_pos n))))

-- the bits of a number that is made of two are theirs
pub bits_of_glued : (a b : ℤ) (j k : ℕ) → bits_from (residue (2 ^ (j + k)) (glued j a (pos (residue (2 ^ k) b)))) (j + k) ≡ bits_from (residue (2 ^ j) a) j ++ bits_from (residue (2 ^ k) b) k
bits_of_glued a b j k =
    let x = residue (2 ^ j) a in
    let y = residue (2 ^ k) b in
    let h : x < 2 ^ j = residue_below (2 ^ j) a (pow_pos j) in
    let g : y < 2 ^ k = residue_below (2 ^ k) b (pow_pos k) in
    let is : glued j a (pos y) ≡ pos (x + 2 ^ j * y) = summed x y (2 ^ j) in
    let small : x + 2 ^ j * y < 2 ^ (j + k) = subst (λ m. x + 2 ^ j * y < m) (sym (pow-add 2 j k)) (room x y (2 ^ j) (2 ^ k) h g) in
    ap (λ z. bits_from (residue (2 ^ (j + k)) z) (j + k)) is ∙ ap (λ r. bits_from r (j + k)) (mod-eq_of_lt small) ∙ bits_from-append x y j k h
  where
    summed : (x y m : ℕ) → pos y *ℤ pos m +ℤ pos x ≡ pos (x + m * y)
    summed x y m = omega (arith, ints, mul_comm y m)

    room : (x y m n : ℕ) → x < m → y < n → x + m * y < m * n
    room x y m n h g =
        let a : m * suc y ≤ m * n = mul-le m (suc y) m n (omega arith) g in
        let b : m * suc y ≡ m * y + m = mul-suc m y in
        omega arith
