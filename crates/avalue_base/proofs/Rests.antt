-- Sets whose numbers leave the same modulo a power of two.
use Rattle.std.proofs.Common.{◌≡◌, ◌⊎◌, ℕ, zero, suc, ◌+◌, ◌*◌, ◌%◌, ◌^◌, ◌<◌, ◌≤◌, Bool, true, false, ℤ, pos, ◌+ℤ◌, List, [], ◌∷◌, length, refl, sym, ap, ◌∙◌, subst, arith, inl, inr}
use Rattle.std.specs.Prelude.{◌*ℤ◌, neg_ℤ, unsigned_abs, Option, None, Some}
use Rattle.std.proofs.lemmas.Int.{ints}
use Rattle.std.proofs.lemmas.Nat.{pow_pos}
use Rattle.std.proofs.Math.Nat.{pow-le-pow_right, mod-eq_of_lt}
use lib.IntN.{*ℤ_comm}
use Rattle.c_base.proofs.Products.{add-mul, mul-neg}
use Rattle.c_base.specs.Integers.{residue}
use Rattle.c_base.proofs.Residues.{residue_below, residue_differs, Same, residue_same}
use Rattle.ival_core.specs.declared.value.Shape.{Shape}
use Rattle.ival_core.specs.declared.value.Ival.{Ival}
use Rattle.ival_core.specs.Sets.{Among, Has}
use Rattle.ival_core.specs.Ivals.{Holds, Includes}
use Rattle.ival_core.specs.Views.{single_of}
use Rattle.ival_arith.specs.Values.{residues}
use Rattle.ival_arith.proofs.Parts.{Image}
use Rattle.ival_arith.proofs.Fits.{Fits}
use Rattle.ival_arith.proofs.Singling.{fits_single}
use Rattle.ival_arith.proofs.Reducing.{residues-fits}
use Rattle.avalue_base.specs.Numbers.{is_empty, amount, rest_in}
use Rattle.avalue_base.proofs.Sets.{single_only, some_held}

small : (k : ℕ) → k ≤ 64 → 2 ^ k ≤ 2 ^ 64
small k h = pow-le-pow_right (omega arith) h

-- a number of the set leaves the rest
pub rest_held : (k : ℕ) (v : Ival) (r : ℕ) (n : ℤ) → k ≤ 64 → rest_in k v.shape ≡ Some r → Holds v n → residue (2 ^ k) n ≡ r
rest_held k v r n h e a = at (single_of (residues (2 ^ k) v.shape)) refl e
  where
    fits : Fits (Image (Has v.shape) (λ m. pos (residue (2 ^ k) m))) (residues (2 ^ k) v.shape)
    fits = residues-fits (2 ^ k) v.shape (pow_pos k) (small k h) v.valid

    set : Ival
    set = record { shape = residues (2 ^ k) v.shape; valid = fits.valid }

    at : (o : Option ℤ) → single_of (residues (2 ^ k) v.shape) ≡ o → amount o ≡ Some r → residue (2 ^ k) n ≡ r
    at None s e = cc
    at (Some z) s e =
        let held = fits.holds (pos (residue (2 ^ k) n)) (record { from = n; has = a; is = refl }) in
        let is : pos (residue (2 ^ k) n) ≡ z = (single_only set z s (pos (residue (2 ^ k) n))).0 held in
        let same : unsigned_abs z ≡ r = cc in
        ap unsigned_abs is ∙ same

-- and if all leave what one leaves, that is the rest
pub held_rest : (k : ℕ) (v : Ival) (n : ℤ) → k ≤ 64 → Holds v n → ((m : ℤ) → Holds v m → residue (2 ^ k) m ≡ residue (2 ^ k) n) → rest_in k v.shape ≡ Some (residue (2 ^ k) n)
held_rest k v n h a f =
    let t = residues-fits (2 ^ k) v.shape (pow_pos k) (small k h) v.valid in
    let s = fits_single (Image (Has v.shape) (λ m. pos (residue (2 ^ k) m))) (residues (2 ^ k) v.shape) (pos (residue (2 ^ k) n)) t (record { from = n; has = a; is = refl }) (λ m i. i.is ∙ ap pos (f i.from i.has)) in
    ap (λ (z : Shape). amount (single_of z)) s

neg_mul : (u k : ℤ) → neg_ℤ u *ℤ k ≡ neg_ℤ (u *ℤ k)
neg_mul u k = *ℤ_comm (neg_ℤ u) k ∙ mul-neg k u ∙ ap neg_ℤ (*ℤ_comm k u)

-- a number added to two that leave the same
pub rest_plus : (m : ℕ) (a x y : ℤ) → 0 < m → residue m x ≡ residue m y → residue m (a +ℤ x) ≡ residue m (a +ℤ y)
rest_plus m a x y h e =
    let d = residue_differs m x h in
    let f = residue_differs m y h in
    residue_same m (a +ℤ x) (a +ℤ y) h (record { times = d.times +ℤ neg_ℤ f.times; is = by_sums a x y (residue m x) (residue m y) d.times f.times (pos m) d.is f.is e })
  where
    by_sums : (a x y : ℤ) (r s : ℕ) (t u k : ℤ) → x ≡ pos r +ℤ t *ℤ k → y ≡ pos s +ℤ u *ℤ k → r ≡ s → a +ℤ x ≡ (a +ℤ y) +ℤ (t +ℤ neg_ℤ u) *ℤ k
    by_sums a x y r s t u k d f e = rw (add-mul t (neg_ℤ u) k, neg_mul u k) (omega (arith, ints, d, f, e))

pub rest_minus : (m : ℕ) (a x y : ℤ) → 0 < m → residue m (a +ℤ x) ≡ residue m (a +ℤ y) → residue m x ≡ residue m y
rest_minus m a x y h e =
    let p = rest_plus m (neg_ℤ a) (a +ℤ x) (a +ℤ y) h e in
    ap (residue m) (back a x) ∙ p ∙ ap (residue m) (sym (back a y))
  where
    back : (a x : ℤ) → x ≡ neg_ℤ a +ℤ (a +ℤ x)
    back a x = omega (arith, ints)

-- neighbours leave different rests
pub zero_one : (k : ℕ) → 0 < k → residue (2 ^ k) (pos 0) ≡ residue (2 ^ k) (pos 1) → ⊥
zero_one k h e = let p = two_more k h in let a : 0 % 2 ^ k ≡ 0 = mod-eq_of_lt (omega arith) in let b : 1 % 2 ^ k ≡ 1 = mod-eq_of_lt p in omega arith
  where
    two_more : (k : ℕ) → 0 < k → 1 < 2 ^ k
    two_more zero h = absurd (omega arith)
    two_more (suc k) h = let p = pow_pos k in omega arith

-- a part of such a set is one too
pub rest_included : (k : ℕ) (a b : Ival) (r : ℕ) → k ≤ 64 → Includes b a → is_empty a.shape ≡ false → rest_in k b.shape ≡ Some r → rest_in k a.shape ≡ Some r
rest_included k a b r few h e s =
    let n = some_held a e in
    let is = rest_held k b r n.0 few s (h n.0 n.1) in
    held_rest k a n.0 few n.1 (λ m i. rest_held k b r m few s (h m i) ∙ sym is) ∙ ap Some is

-- a set with a rest has a number
pub rest_some : (k : ℕ) (v : Ival) (r : ℕ) → k ≤ 64 → rest_in k v.shape ≡ Some r → (n : ℤ) × Holds v n
rest_some k v r h e = at (single_of (residues (2 ^ k) v.shape)) refl e
  where
    fits : Fits (Image (Has v.shape) (λ m. pos (residue (2 ^ k) m))) (residues (2 ^ k) v.shape)
    fits = residues-fits (2 ^ k) v.shape (pow_pos k) (small k h) v.valid

    first : (ns : List ℤ) → length ns ≡ 9 → ((n : ℤ) → Among ns n → Image (Has v.shape) (λ m. pos (residue (2 ^ k) m)) n) → (n : ℤ) × Holds v n
    first [] l f = absurd (omega arith)
    first (n ∷ ns) l f = let i = f n (inl refl) in (i.from, i.has)

    at : (o : Option ℤ) → single_of (residues (2 ^ k) v.shape) ≡ o → amount o ≡ Some r → (n : ℤ) × Holds v n
    at None s e = cc
    at (Some z) s e =
        elim fits.sharp [
          | inl only ↦
              let i = only z ((single_only (record { shape = residues (2 ^ k) v.shape; valid = fits.valid }) z s z).1 refl) in
              (i.from, i.has)
          | inr nine ↦ first nine.some nine.nine nine.held
        ]

-- one number leaves its own
pub single_rest : (k : ℕ) (v : Ival) (z : ℤ) → k ≤ 64 → single_of v.shape ≡ Some z → rest_in k v.shape ≡ Some (residue (2 ^ k) z)
single_rest k v z h e = let o = single_only v z e in held_rest k v z h ((o z).1 refl) (λ m i. ap (residue (2 ^ k)) ((o m).0 i))
