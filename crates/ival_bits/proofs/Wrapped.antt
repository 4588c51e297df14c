-- What numbers are in an integer type.
use Rattle.std.proofs.Common.{◌≡◌, ℕ, suc, ◌-◌, ◌<◌, ◌≤◌, ◌^◌, Bool, true, false, cond, ℤ, pos, negsuc, ◌+ℤ◌, refl, sym, ap, ◌∙◌, arith}
use Rattle.std.specs.Prelude.{neg_ℤ, ◌*ℤ◌, nat_lt}
use Rattle.std.proofs.lemmas.Int.{ints}
use Rattle.std.proofs.lemmas.Nat.{pow_pos}
use Rattle.std.proofs.lemmas.Bool.{lt-ltb, le-ltb, ltb-true, ltb-false}
use Rattle.std.proofs.Math.Nat.{mod-eq_of_lt}
use lib.Signed.{◌≤ℤ◌}
use Rattle.c_base.specs.Integers.{FitsBits, residue, signed_number, least_of, greatest_of}
use Rattle.c_base.specs.Operators.{reduced}
use Rattle.c_base.proofs.Residues.{Same, residue_below, residue_same, residue_differs}
use Rattle.c_base.proofs.Products.{add-mul, mul-neg}
use lib.IntN.{*ℤ_comm}
use Rattle.ival_arith.proofs.Words.{half}

-- ---- the number that a pattern stands for

-- a pattern of a negative number is 2 to the width too much
pub pattern_number : (bits r : ℕ) → 0 < bits → r < 2 ^ bits → signed_number true bits r ≡ cond (nat_lt r (2 ^ (bits - 1))) (pos r) (pos r +ℤ neg_ℤ (pos (2 ^ bits)))
pattern_number bits r h l = ap (λ z. cond (nat_lt r (2 ^ (bits - 1))) (pos r) z) (down r (2 ^ bits) l)
  where
    down : (r m : ℕ) → r < m → negsuc (m - suc r) ≡ pos r +ℤ neg_ℤ (pos m)
    down r m l = omega (arith, ints)

pub number_fits : (signed : Bool) (bits r : ℕ) → 0 < bits → r < 2 ^ bits → FitsBits signed bits (signed_number signed bits r)
number_fits false bits r h l = record { least = omega (arith, ints); greatest = omega (arith, ints) }
number_fits true bits r h l = by_test (nat_lt r (2 ^ (bits - 1))) (λ e. ltb-true r (2 ^ (bits - 1)) e) (λ e. ltb-false r (2 ^ (bits - 1)) e)
  where
    by_test : (t : Bool) → (t ≡ true → r < 2 ^ (bits - 1)) → (t ≡ false → 2 ^ (bits - 1) ≤ r) → FitsBits true bits (cond t (pos r) (negsuc (2 ^ bits - suc r)))
    by_test true f g = let a = f refl in let p = pow_pos (bits - 1) in record { least = omega (arith, ints); greatest = omega (arith, ints) }
    by_test false f g = let a = g refl in let p = pow_pos (bits - 1) in let e = half bits h in record { least = omega (arith, ints); greatest = omega (arith, ints) }

pub reduced_fits : (signed : Bool) (bits : ℕ) (n : ℤ) → 0 < bits → FitsBits signed bits (reduced signed bits n)
reduced_fits signed bits n h = number_fits signed bits (residue (2 ^ bits) n) h (residue_below (2 ^ bits) n (pow_pos bits))

-- numbers of the type stay as they are
pub own_reduced : (signed : Bool) (bits : ℕ) (z : ℤ) → 0 < bits → FitsBits signed bits z → reduced signed bits z ≡ z
own_reduced false bits (pos n) h f = let a = f.greatest in let p = pow_pos bits in let l : n < 2 ^ bits = omega (arith, ints) in ap pos (mod-eq_of_lt l)
own_reduced false bits (negsuc n) h f = let a = f.least in absurd (omega (arith, ints))
own_reduced true bits (pos n) h f =
    let a = f.greatest in let p = pow_pos (bits - 1) in let e = half bits h in
    let l : n < 2 ^ (bits - 1) = omega (arith, ints) in
    let m : n < 2 ^ bits = omega (arith, ints) in
    ap (signed_number true bits) (mod-eq_of_lt m) ∙ ap (λ t. cond t (pos n) (negsuc (2 ^ bits - suc n))) (lt-ltb n (2 ^ (bits - 1)) l)
own_reduced true bits (negsuc n) h f =
    let a = f.least in let p = pow_pos (bits - 1) in let e = half bits h in
    let l : n < 2 ^ (bits - 1) = omega (arith, ints) in
    let m : n < 2 ^ bits = omega (arith, ints) in
    let r = 2 ^ bits - suc n in
    let g : residue (2 ^ bits) (negsuc n) ≡ r = ap (λ k. 2 ^ bits - suc k) (mod-eq_of_lt m) in
    let k : 2 ^ (bits - 1) ≤ r = omega arith in
    ap (signed_number true bits) g ∙ ap (λ t. cond t (pos r) (negsuc (2 ^ bits - suc r))) (le-ltb r (2 ^ (bits - 1)) k) ∙ ap negsuc (back (2 ^ bits) n m)
  where
    back : (m n : ℕ) → n < m → m - suc (m - suc n) ≡ n
    back m n h = omega arith

pub reduced_same : (signed : Bool) (bits : ℕ) (a b : ℤ) → Same (2 ^ bits) a b → reduced signed bits a ≡ reduced signed bits b
reduced_same signed bits a b s = ap (signed_number signed bits) (residue_same (2 ^ bits) a b (pow_pos bits) s)

-- a pattern's number, by half of the patterns
abbrev signed_or : Bool → ℕ → ℕ → ℕ → ℤ
signed_or false m half r = pos r
signed_or true m half r = cond (nat_lt r half) (pos r) (negsuc (m - suc r))

-- a number differs from what it is in the type by a multiple of 2 to the width
pub same_reduced : (signed : Bool) (bits : ℕ) (n : ℤ) → 0 < bits → Same (2 ^ bits) (reduced signed bits n) n
same_reduced signed bits n h =
    let p = pow_pos bits in
    let d = residue_differs (2 ^ bits) n p in
    let b = residue_below (2 ^ bits) n p in
    by_both signed (by_sign signed (2 ^ bits) (2 ^ (bits - 1)) (residue (2 ^ bits) n) n d.times b d.is)
  where
    by_both : (s : Bool) → Same (2 ^ bits) (signed_or s (2 ^ bits) (2 ^ (bits - 1)) (residue (2 ^ bits) n)) n → Same (2 ^ bits) (signed_number s bits (residue (2 ^ bits) n)) n
    by_both false s = s
    by_both true s = s

    turn : (m r : ℕ) (n t : ℤ) → n ≡ pos r +ℤ t *ℤ pos m → pos r ≡ n +ℤ neg_ℤ t *ℤ pos m
    turn m r n t e = let f = neg_mul t (pos m) in omega (arith, ints)
      where
        neg_mul : (t k : ℤ) → neg_ℤ t *ℤ k ≡ neg_ℤ (t *ℤ k)
        neg_mul t k = *ℤ_comm (neg_ℤ t) k ∙ mul-neg k t ∙ ap neg_ℤ (*ℤ_comm k t)

    less : (m r : ℕ) (n t : ℤ) → r < m → n ≡ pos r +ℤ t *ℤ pos m → negsuc (m - suc r) ≡ n +ℤ (neg_ℤ t +ℤ negsuc 0) *ℤ pos m
    less m r n t l e =
        let f = turn m r n t e in let g = add-mul (neg_ℤ t) (negsuc 0) (pos m) in let k : negsuc 0 *ℤ pos m ≡ neg_ℤ (pos m) = omega (arith, ints) in
        omega (arith, ints)

    by_sign : (s : Bool) (m half r : ℕ) (n t : ℤ) → r < m → n ≡ pos r +ℤ t *ℤ pos m → Same m (signed_or s m half r) n
    by_sign false m half r n t l e = record { times = neg_ℤ t; is = turn m r n t e }
    by_sign true m half r n t l e = by_test (nat_lt r half)
      where
        by_test : (b : Bool) → Same m (cond b (pos r) (negsuc (m - suc r))) n
        by_test true = record { times = neg_ℤ t; is = turn m r n t e }
        by_test false = record { times = neg_ℤ t +ℤ negsuc 0; is = less m r n t l e }

-- further numbers, as long as the type can hold them
pub reduced_further : (signed : Bool) (bits : ℕ) (n : ℤ) (k : ℕ) → 0 < bits → (reduced signed bits n +ℤ pos k) ≤ℤ greatest_of signed bits → reduced signed bits (n +ℤ pos k) ≡ reduced signed bits n +ℤ pos k
reduced_further signed bits n k h l =
    let f = reduced_fits signed bits n h in
    let s = same_reduced signed bits n h in
    sym (reduced_same signed bits (reduced signed bits n +ℤ pos k) (n +ℤ pos k) (record { times = s.times; is = moved (reduced signed bits n) n (s.times *ℤ pos (2 ^ bits)) k s.is }))
    ∙ own_reduced signed bits (reduced signed bits n +ℤ pos k) h (record { least = above (least_of signed bits) (reduced signed bits n) k f.least; greatest = l })
  where
    moved : (a b c : ℤ) (k : ℕ) → a ≡ b +ℤ c → a +ℤ pos k ≡ (b +ℤ pos k) +ℤ c
    moved a b c k e = omega (arith, ints)

    above : (low a : ℤ) (k : ℕ) → low ≤ℤ a → low ≤ℤ (a +ℤ pos k)
    above low a k h = omega (arith, ints)
