-- What operators make of the numbers of two sets of a type.
use Rattle.std.proofs.Common.{◌≡◌, ◌⊎◌, ℕ, ◌-◌, ◌<◌, ◌≤◌, ◌^◌, Bool, true, false, cond, ℤ, pos, negsuc, ◌+ℤ◌, List, [], ◌∷◌, Result, Ok, Err, refl, sym, subst, ap, ◌∙◌, inl, inr, arith}
use Rattle.std.specs.Prelude.{◌*ℤ◌, ◌&&◌, int_le}
use Rattle.std.proofs.lemmas.Int.{ints}
use Rattle.std.proofs.lemmas.Nat.{pow_pos}
use lib.Signed.{◌≤ℤ◌}
use Rattle.c_base.specs.declared.kind.Kind.{Kind}
use Rattle.c_base.specs.declared.kind.Kind.TheVariants.{SignedOverflow}
use Rattle.c_base.specs.declared.operators.BinOp.{BinOp}
use Rattle.c_base.specs.Integers.{FitsBits, fits_bits, residue, least_of, greatest_of}
use Rattle.c_base.specs.Operators.{operated, arithmetic}
use Rattle.c_base.proofs.Residues.{residue_is}
use Rattle.ival_core.specs.Sets.{Among, IsNumber}
use Rattle.ival_core.proofs.Counting.{Among-left, Among-right, Among-split}
use Rattle.ival_core.proofs.Insertion.{AllNumbers-from_among}
use Rattle.ival_core.proofs.Joined.{Makes}
use Rattle.ival_core.proofs.Orders.{le_true, true_le}
use Rattle.ival_arith.specs.Pieces.{gathered}
use Rattle.ival_arith.specs.Values.{kept, row, rows}
use Rattle.ival_arith.proofs.Fits.{Makes-same, gathered-makes}
use Rattle.ival_arith.proofs.Words.{operated_number}

-- n is what the operator makes of a number with P and one with Q
pub record Made (op : BinOp) (signed : Bool) (width : ℕ) (P Q : ℤ → Type 0) (n : ℤ) : Type 0 where
  pub left : ℤ
  pub right : ℤ
  pub has_left : P left
  pub has_right : Q right
  pub is : operated op signed width left right ≡ Ok n

-- the numbers with P are numbers of the type
pub record Typed (signed : Bool) (width : ℕ) (P : ℤ → Type 0) : Type 0 where
  pub fits : (n : ℤ) → P n → FitsBits signed width n

-- a type of at most 64 bits
pub record IsWidth (width : ℕ) : Type 0 where
  pub some : 0 < width
  pub room : width ≤ 64

-- ---- few numbers

pub kept_one : (r : Result ℤ Kind) (ns : List ℤ) (n : ℤ) → Among (kept r ns) n → (r ≡ Ok n) ⊎ Among ns n
kept_one (Ok m) ns n (inl e) = inl (ap Ok (sym e))
kept_one (Ok m) ns n (inr k) = inr k
kept_one (Err kind) ns n k = inr k

pub one_kept : (r : Result ℤ Kind) (ns : List ℤ) (n : ℤ) → (r ≡ Ok n) ⊎ Among ns n → Among (kept r ns) n
one_kept (Ok m) ns n (inl e) = inl (unok m n e)
  where
    unok : (m n : ℤ) → ◌≡◌ {A = Result ℤ Kind} (Ok m) (Ok n) → n ≡ m
    unok m n e = cc
one_kept (Ok m) ns n (inr k) = inr k
one_kept (Err kind) ns n (inl e) = cc
one_kept (Err kind) ns n (inr k) = k

pub row-among : (op : BinOp) (signed : Bool) (width : ℕ) (x : ℤ) (ys : List ℤ) (n : ℤ) → Among (row op signed width x ys) n → (y : ℤ) × Among ys y × (operated op signed width x y ≡ Ok n)
unfolding row
row-among op signed width x [] n m = absurd m
row-among op signed width x (y ∷ ys) n m = elim (kept_one (operated op signed width x y) (row op signed width x ys) n m) [
  | inl e ↦ (y, inl refl, e)
  | inr k ↦ let r = row-among op signed width x ys n k in (r.0, inr r.1, r.2)
]

pub among-row : (op : BinOp) (signed : Bool) (width : ℕ) (x : ℤ) (ys : List ℤ) (y n : ℤ) → Among ys y → operated op signed width x y ≡ Ok n → Among (row op signed width x ys) n
unfolding row
among-row op signed width x [] y n m e = absurd m
among-row op signed width x (z ∷ ys) y n (inl i) e = one_kept (operated op signed width x z) (row op signed width x ys) n (inl (subst (λ k. operated op signed width x k ≡ Ok n) i e))
among-row op signed width x (z ∷ ys) y n (inr k) e = one_kept (operated op signed width x z) (row op signed width x ys) n (inr (among-row op signed width x ys y n k e))

rows-among : (op : BinOp) (signed : Bool) (width : ℕ) (xs ys : List ℤ) (n : ℤ) → Among (rows op signed width xs ys) n → Made op signed width (Among xs) (Among ys) n
unfolding rows
rows-among op signed width [] ys n m = absurd m
rows-among op signed width (x ∷ xs) ys n m = elim (Among-split (row op signed width x ys) (rows op signed width xs ys) n m) [
  | inl k ↦ let r = row-among op signed width x ys n k in record { left = x; right = r.0; has_left = inl refl; has_right = r.1; is = r.2 }
  | inr k ↦ let r = rows-among op signed width xs ys n k in record { left = r.left; right = r.right; has_left = inr r.has_left; has_right = r.has_right; is = r.is }
]

among-rows : (op : BinOp) (signed : Bool) (width : ℕ) (xs ys : List ℤ) (x y n : ℤ) → Among xs x → Among ys y → operated op signed width x y ≡ Ok n → Among (rows op signed width xs ys) n
unfolding rows
among-rows op signed width [] ys x y n a b e = absurd a
among-rows op signed width (z ∷ xs) ys x y n (inl i) b e =
    Among-left (row op signed width z ys) (rows op signed width xs ys) n (among-row op signed width z ys y n b (subst (λ k. operated op signed width k y ≡ Ok n) i e))
among-rows op signed width (z ∷ xs) ys x y n (inr k) b e = Among-right (row op signed width z ys) (rows op signed width xs ys) n (among-rows op signed width xs ys x y n k b e)

pub ok_number : (op : BinOp) (signed : Bool) (width : ℕ) (x y n : ℤ) → IsWidth width → FitsBits signed width x → operated op signed width x y ≡ Ok n → IsNumber n
ok_number op signed width x y n w f e = operated_number op signed width x y (Ok n) w.some w.room f (sym e)

pub rows-makes : (op : BinOp) (signed : Bool) (width : ℕ) (xs ys : List ℤ) → IsWidth width → Typed signed width (Among xs) → Makes (Made op signed width (Among xs) (Among ys)) (gathered (rows op signed width xs ys))
rows-makes op signed width xs ys w t =
    Makes-same (Among (rows op signed width xs ys)) (Made op signed width (Among xs) (Among ys)) (gathered (rows op signed width xs ys))
    (λ n m. rows-among op signed width xs ys n m) (λ n m. among-rows op signed width xs ys m.left m.right n m.has_left m.has_right m.is)
    (gathered-makes (rows op signed width xs ys) (AllNumbers-from_among (rows op signed width xs ys)
    (λ n m. let r = rows-among op signed width xs ys n m in ok_number op signed width r.left r.right n w (t.fits r.left r.has_left) r.is)))

-- ---- sums, differences and products in a type

pub record FitsEnds (lo hi n : ℤ) : Type 0 where
  pub above : lo ≤ℤ n
  pub below : n ≤ℤ hi

pub fits_true : (signed : Bool) (width : ℕ) (n : ℤ) → fits_bits signed width n ≡ true → FitsEnds (least_of signed width) (greatest_of signed width) n
fits_true signed width n e = by_tests (int_le (least_of signed width) n) (int_le n (greatest_of signed width)) (λ h. le_true (least_of signed width) n h) (λ h. le_true n (greatest_of signed width) h) e
  where
    by_tests : (s t : Bool) → (s ≡ true → least_of signed width ≤ℤ n) → (t ≡ true → n ≤ℤ greatest_of signed width) → (s && t) ≡ true → FitsEnds (least_of signed width) (greatest_of signed width) n
    by_tests true true f g e = record { above = f refl; below = g refl }
    by_tests true false f g e = cc
    by_tests false t f g e = cc

pub true_fits : (signed : Bool) (width : ℕ) (n : ℤ) → least_of signed width ≤ℤ n → n ≤ℤ greatest_of signed width → fits_bits signed width n ≡ true
true_fits signed width n h k =
    let e = true_le (least_of signed width) n h in
    let f = true_le n (greatest_of signed width) k in
    ap (λ b. b && int_le n (greatest_of signed width)) e ∙ f

-- a signed result is the number itself, where the type can hold it
pub signed_result : (width : ℕ) (z n : ℤ) → arithmetic true width z ≡ Ok n → (n ≡ z) × FitsEnds (least_of true width) (greatest_of true width) z
signed_result width z n e = by_test (fits_bits true width z) (λ t. fits_true true width z t) e
  where
    by_test : (t : Bool) → (t ≡ true → FitsEnds (least_of true width) (greatest_of true width) z) → ◌≡◌ {A = Result ℤ Kind} (cond t (Ok z) (Err SignedOverflow)) (Ok n) → (n ≡ z) × FitsEnds (least_of true width) (greatest_of true width) z
    by_test true f e = (unok n e, f refl)
      where
        unok : (n : ℤ) → ◌≡◌ {A = Result ℤ Kind} (Ok z) (Ok n) → n ≡ z
        unok n e = cc
    by_test false f e = cc

pub result_signed : (width : ℕ) (z : ℤ) → least_of true width ≤ℤ z → z ≤ℤ greatest_of true width → arithmetic true width z ≡ Ok z
result_signed width z h k = ap (λ t. cond t (Ok z) (Err SignedOverflow)) (true_fits true width z h k)

-- an unsigned result is the residue
pub unsigned_result : (width : ℕ) (z : ℤ) → arithmetic false width z ≡ Ok (pos (residue (2 ^ width) z))
unsigned_result width z = by_test (fits_bits false width z) (λ t. own width z (fits_true false width z t))
  where
    by_test : (t : Bool) → (t ≡ true → z ≡ pos (residue (2 ^ width) z)) → ◌≡◌ {A = Result ℤ Kind} (cond t (Ok z) (Ok (pos (residue (2 ^ width) z)))) (Ok (pos (residue (2 ^ width) z)))
    by_test true f = ap Ok (f refl)
    by_test false f = refl

    own : (width : ℕ) (z : ℤ) → FitsEnds (pos 0) (pos (2 ^ width - 1)) z → z ≡ pos (residue (2 ^ width) z)
    own width (negsuc k) h = let a = h.above in absurd (omega (arith, ints))
    own width (pos k) h =
        let p = pow_pos width in
        let b = h.below in
        ap pos (sym (residue_is (2 ^ width) (pos k) k (omega (arith, ints)) (record { times = pos 0; is = nothing k (2 ^ width) })))
      where
        nothing : (k m : ℕ) → pos k ≡ pos k +ℤ pos 0 *ℤ pos m
        nothing k m = omega (arith, ints)
