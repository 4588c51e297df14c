-- Numbers without common bits.
use Rattle.std.proofs.Common.{◌≡◌, ◌⊎◌, ℕ, suc, ◌+◌, ◌-◌, ◌*◌, ◌/◌, ◌%◌, ◌<◌, ◌≤◌, ◌^◌, Bool, true, false, cond, ℤ, pos, negsuc, ◌+ℤ◌, Option, Some, None, Ok, refl, sym, subst, ap, ◌∙◌, inl, inr, arith}
use Rattle.std.specs.Prelude.{neg_ℤ, ◌*ℤ◌, ◌||◌, int_lt, bit_xor}
use Rattle.std.specs.Int.Bits.{xor_zero_l, xor_zero_r}
use Rattle.std.proofs.lemmas.Int.{ints}
use Rattle.std.proofs.lemmas.Bool.{cases_lt}
use Rattle.std.proofs.lemmas.Nat.{pow_pos, div-add-mod', mul-le, or_shifted, or_comm, xor_block, xor_comm}
use Rattle.std.proofs.Math.Nat.{mod-eq_of_lt}
use lib.Signed.{◌<ℤ◌, ◌≤ℤ◌}
use Rattle.c_base.specs.declared.operators.BinOp.{BinOp}
use Rattle.c_base.specs.declared.operators.BinOp.TheVariants.{Or, Xor}
use Rattle.c_base.specs.Integers.{FitsBits, residue, greatest_of, signed_number}
use Rattle.c_base.specs.Operators.{operated, floor, on_bits, xor}
use Rattle.c_base.proofs.Residues.{residue_below, residue_differs, residue_is}
use Rattle.ival_core.specs.declared.value.Shape.{Shape}
use Rattle.ival_core.specs.Sets.{IsNumber, Has}
use Rattle.ival_core.specs.Views.{bounds_of, single_of}
use Rattle.ival_core.proofs.Orders.{lt_false}
use Rattle.ival_arith.specs.Sums.{sums}
use Rattle.ival_arith.specs.Values.{residues}
use Rattle.ival_arith.proofs.Adding.{Sum}
use Rattle.ival_arith.proofs.Bounding.{BoundsAre, bounds_are}
use Rattle.ival_arith.proofs.Fits.{Fits, Fits-same, Makes-fits}
use Rattle.ival_arith.proofs.Making.{IsWidth}
use Rattle.ival_arith.proofs.Multiplying.{zero_is}
use Rattle.ival_arith.proofs.Reducing.{residues-fits}
use Rattle.ival_arith.proofs.Spreading.{Word}
use Rattle.ival_arith.proofs.Words.{ends, powers}
use Rattle.ival_bits.specs.Spans.{Within, sized}
use Rattle.ival_bits.specs.Bitwise.{low_bits, is_only_zero, is_clear, is_apart}
use Rattle.ival_bits.proofs.Sizes.{type_bits, type_small, sized_within, sized_least, fits_within}
use Rattle.ival_bits.specs.Promises.{IsBitwise}
use Rattle.ival_arith.proofs.Flooring.{neg_times}
use Rattle.ival_bits.proofs.PartSets.{sums_of}
use Rattle.ival_bits.proofs.BitBounds.{pattern_of, Operated, operated_is, own_pattern, by_residue, type_least, split, lowest}
use Rattle.ival_bits.proofs.MaskSets.{single_is, floor_residue}
use Rattle.ival_bits.proofs.SpanSets.{Result_in, type_number, up_to}

-- the numbers of t have so many bits, and those of s have none of these
pub record Clear (signed : Bool) (width : ℕ) (s t : Shape) : Type 0 where
  pub bits : ℕ
  pub small : bits ≤ type_bits signed width
  pub zero : (x : ℤ) → Has s x → residue (2 ^ bits) x ≡ 0
  pub natural : (y : ℤ) → Has t y → pos 0 ≤ℤ y
  pub below : (y : ℤ) → Has t y → y <ℤ pos (2 ^ bits)

unpos : (a : ℕ) → pos a ≡ pos 0 → a ≡ 0
unpos a e = cc

only_zero : (o : Option ℤ) (s : Shape) → single_of s ≡ o → is_only_zero o ≡ true → (n : ℤ) → Has s n → n ≡ pos 0
only_zero None s e f n h = cc
only_zero (Some m) s e f n h = (single_is s m e).only n h ∙ zero_is m f

clear_is : (signed : Bool) (width : ℕ) (s t : Shape) (b : Option (ℤ × ℤ)) → IsWidth width → Word signed width s → Word signed width t → BoundsAre t b → is_clear (low_bits b) s ≡ true → Clear signed width s t
clear_is signed width s t None w a c h e = cc
clear_is signed width s t (Some b) w a c h e = by_test (int_lt b.0 (pos 0)) (λ f. lt_false b.0 (pos 0) f) e
  where
    f : FitsBits signed width b.1
    f = c.typed.fits b.1 h.last

    n : IsNumber b.1
    n = type_number signed width b.1 w f

    below : (y : ℤ) → Within (sized b.1) b.1 → y ≤ℤ b.1 → y <ℤ pos (2 ^ sized b.1)
    below y k l = let m = k.below in omega (arith, ints)

    by_test : (u : Bool) → (u ≡ false → pos 0 ≤ℤ b.0) → is_clear (cond u None (Some (sized b.1))) s ≡ true → Clear signed width s t
    by_test true g e = cc
    by_test false g e =
        let k = sized_least b.1 (type_bits signed width) n (fits_within signed width b.1 f) in
        let l = type_small signed width w.room in
        let r = residues-fits (2 ^ sized b.1) s (pow_pos (sized b.1)) (powers (sized b.1) (omega (arith, k, l))) a.valid in
        record {
          bits = sized b.1;
          small = k;
          zero = λ x i. unpos (residue (2 ^ sized b.1) x) (only_zero (single_of (residues (2 ^ sized b.1) s)) (residues (2 ^ sized b.1) s) refl e (pos (residue (2 ^ sized b.1) x)) (r.holds (pos (residue (2 ^ sized b.1) x)) (record { from = x; has = i; is = refl })));
          natural = λ y i. up_to (pos 0) b.0 y (g refl) (h.above y i);
          below = λ y i. below y (sized_within b.1 n) (h.below y i);
        }

-- ---- the bits of a sum

abbrev pub IsJoining : BinOp → Type 0
IsJoining Or = Unit {0}
IsJoining Xor = Unit {0}
IsJoining op = ⊥

-- a number without its lowest bits, and one of these
side_by_side : (op : BinOp) (a k b : ℕ) → IsJoining op → b < 2 ^ k → pattern_of op (a * 2 ^ k) b ≡ a * 2 ^ k + b
unfolding pattern_of
side_by_side Or a k b i h = or_shifted a k b h
side_by_side Xor a k b i h =
    let p = pow_pos k in
    ap (λ n. bit_xor n b) (plus_none (a * 2 ^ k)) ∙ ap (bit_xor (a * 2 ^ k + 0)) (none_plus b (2 ^ k)) ∙ xor_block k a 0 0 b p h ∙ ap (λ n. n * 2 ^ k + bit_xor 0 b) (xor_zero_r a) ∙ ap (λ n. a * 2 ^ k + n) (xor_zero_l b)
  where
    plus_none : (n : ℕ) → n ≡ n + 0
    plus_none n = omega arith

    none_plus : (b m : ℕ) → b ≡ 0 * m + b
    none_plus b m = omega arith
side_by_side op a k b i h = absurd i

-- the greatest number of a type has all of the lowest bits
room_above : (signed : Bool) (width bits : ℕ) (x : ℤ) → bits ≤ type_bits signed width → FitsBits signed width x → residue (2 ^ bits) x ≡ 0 → (x +ℤ pos (2 ^ bits)) ≤ℤ (greatest_of signed width +ℤ pos 1)
room_above signed width bits x h f e =
    let g : x ≡ floor x (2 ^ bits) *ℤ pos (2 ^ bits) = floor_residue x (2 ^ bits) (pow_pos bits) ∙ ap (λ r. floor x (2 ^ bits) *ℤ pos (2 ^ bits) +ℤ pos r) e ∙ plus_none (floor x (2 ^ bits) *ℤ pos (2 ^ bits)) in
    let q = top_is signed width in
    let l = f.greatest in
    subst (λ z. (x +ℤ pos (2 ^ bits)) ≤ℤ z) (sym q) (next x (floor x (2 ^ bits)) (2 ^ (type_bits signed width - bits)) (2 ^ bits) (2 ^ type_bits signed width) (pow_pos bits) g (split (type_bits signed width) bits h) (below x (greatest_of signed width) (2 ^ type_bits signed width) l q))
  where
    plus_none : (z : ℤ) → z +ℤ pos 0 ≡ z
    plus_none z = omega (arith, ints)

    top_is : (signed : Bool) (width : ℕ) → greatest_of signed width +ℤ pos 1 ≡ pos (2 ^ type_bits signed width)
    top_is true width = let p = pow_pos (width - 1) in omega (arith, ints)
    top_is false width = let p = pow_pos width in omega (arith, ints)

    below : (x g : ℤ) (m : ℕ) → x ≤ℤ g → g +ℤ pos 1 ≡ pos m → x <ℤ pos m
    below x g m l e = omega (arith, ints)

    next : (x q : ℤ) (a b m : ℕ) → 0 < b → x ≡ q *ℤ pos b → m ≡ a * b → x <ℤ pos m → (x +ℤ pos b) ≤ℤ pos m
    next x (pos q) a b m p e f l =
        let k : q < a = less q a b p (omega (arith, ints)) in
        let c : suc q * b ≤ a * b = mul-le (suc q) b a b k (omega arith) in
        omega (arith, ints)
      where
        less : (q a b : ℕ) → 0 < b → q * b < a * b → q < a
        less q a b p l = elim (cases_lt q a) [
          | inl k ↦ k
          | inr k ↦ let c : a * b ≤ q * b = mul-le a b q b k (omega arith) in absurd (omega arith)
        ]
    next x (negsuc q) a b m p e f l = let c = neg_times q b in let d : b ≤ suc q * b = mul-le_one q b in omega (arith, ints)
      where
        mul-le_one : (q b : ℕ) → b ≤ suc q * b
        mul-le_one q b = omega arith

apart_result : (op : BinOp) (signed : Bool) (width : ℕ) (s t : Shape) (x y n : ℤ) → IsJoining op → IsWidth width → Word signed width s → Word signed width t → Clear signed width s t → Has s x → Has t y → Operated op signed width x y n → n ≡ x +ℤ y
apart_result op signed width s t x (negsuc b) n i w a c k h l o = let m = k.natural (negsuc b) l in absurd (omega (arith, ints))
apart_result op signed width s t x (pos b) n i w a c k h l o =
    let p = pow_pos width in
    let px = residue (2 ^ width) x in
    let m = 2 ^ k.bits in
    let f = a.typed.fits x h in
    let g = c.typed.fits (pos b) l in
    let le = type_least signed width k.bits k.small in
    let z = k.zero x h in
    let low : px % m ≡ 0 = lowest width k.bits x le ∙ z in
    let d = residue_differs (2 ^ width) x p in
    let q : px ≡ px / m * m = (let e = div-add-mod' px m in omega (arith, low, e)) in
    let u : b < m = (let v = k.below (pos b) l in omega (arith, ints)) in
    let r = room px m (2 ^ (width - k.bits)) (px / m) (2 ^ width) (pow_pos k.bits) q (split width k.bits le) (residue_below (2 ^ width) x p) in
    let up = room_above signed width k.bits x k.small f z in
    by_residue op signed width x (pos b) n (x +ℤ pos b) w.some
    (record { least = above (x) b f.least; greatest = under x (greatest_of signed width) b m up u })
    (residue_is (2 ^ width) (x +ℤ pos b) (px + b) (omega (arith, r, u)) (record { times = d.times; is = moved x (d.times *ℤ pos (2 ^ width)) px b d.is })
    ∙ ap (λ e. e + b) q ∙ sym (side_by_side op (px / m) k.bits b i u) ∙ ap (λ e. pattern_of op e b) (sym q) ∙ ap (pattern_of op px) (sym (mod-eq_of_lt (own_pattern signed width b w.some g))))
    o
  where
    room : (p m a q w : ℕ) → 0 < m → p ≡ q * m → w ≡ a * m → p < w → p + m ≤ w
    room p m a q w h e f l = elim (cases_lt q a) [
      | inl k ↦ let c : suc q * m ≤ a * m = mul-le (suc q) m a m k (omega arith) in omega (arith, c, e, f)
      | inr k ↦ let c : a * m ≤ q * m = mul-le a m q m k (omega arith) in absurd (omega (arith, c, e, f, l))
    ]

    above : {g : ℤ} (x : ℤ) (b : ℕ) → g ≤ℤ x → g ≤ℤ (x +ℤ pos b)
    above x b h = omega (arith, ints)

    under : (x g : ℤ) (b m : ℕ) → (x +ℤ pos m) ≤ℤ (g +ℤ pos 1) → b < m → (x +ℤ pos b) ≤ℤ g
    under x g b m h l = omega (arith, ints)

    moved : (x t : ℤ) (p b : ℕ) → x ≡ pos p +ℤ t → x +ℤ pos b ≡ pos (p + b) +ℤ t
    moved x t p b e = omega (arith, ints)

turn_operated : (op : BinOp) (signed : Bool) (width : ℕ) (x y n : ℤ) → IsJoining op → Operated op signed width x y n → Operated op signed width y x n
unfolding pattern_of
turn_operated Or signed width x y n i o = record { is = o.is ∙ ap (signed_number signed width) (or_comm (residue (2 ^ width) x) (residue (2 ^ width) y)) }
turn_operated Xor signed width x y n i o = record { is = o.is ∙ ap (signed_number signed width) (xor_comm (residue (2 ^ width) x) (residue (2 ^ width) y)) }
turn_operated op signed width x y n i o = absurd i

-- one of the sets has numbers above those of the other
either : (x y : Bool) → (x || y) ≡ true → (x ≡ true) ⊎ (y ≡ true)
either true y e = inl refl
either false y e = inr e

joining_bits : (op : BinOp) → IsJoining op → IsBitwise op
joining_bits Or i = tt
joining_bits Xor i = tt
joining_bits op i = absurd i

sum_is : (op : BinOp) (signed : Bool) (width : ℕ) (s t : Shape) (x y n : ℤ) → IsJoining op → IsWidth width → Word signed width s → Word signed width t → is_apart s t ≡ true → Has s x → Has t y → operated op signed width x y ≡ Ok n → n ≡ x +ℤ y
sum_is op signed width s t x y n i w a c e h l f =
    let o = operated_is op signed width x y n (joining_bits op i) f in
    elim (either (is_clear (low_bits (bounds_of t)) s) (is_clear (low_bits (bounds_of s)) t) e) [
      | inl g ↦ apart_result op signed width s t x y n i w a c (clear_is signed width s t (bounds_of t) w a c (bounds_are t c.valid) g) h l o
      | inr g ↦ apart_result op signed width t s y x n i w c a (clear_is signed width t s (bounds_of s) w c a (bounds_are s a.valid) g) l h (turn_operated op signed width x y n i o) ∙ turn_sum y x
    ]
  where
    turn_sum : (a b : ℤ) → a +ℤ b ≡ b +ℤ a
    turn_sum a b = omega (arith, ints)

some_result : (op : BinOp) (signed : Bool) (width : ℕ) (x y : ℤ) → IsJoining op → (n : ℤ) × (operated op signed width x y ≡ Ok n)
some_result Or signed width x y i = (on_bits (λ a b. a || b) signed width x y, refl)
some_result Xor signed width x y i = (on_bits xor signed width x y, refl)
some_result op signed width x y i = absurd i

pub typed_sum : (signed : Bool) (width : ℕ) (x y : ℤ) → IsWidth width → FitsBits signed width x → FitsBits signed width y → IsNumber (x +ℤ y)
typed_sum signed width x y w f g =
    let e = ends signed width w.some w.room in
    let a = e.least in let b = e.greatest in let c = f.least in let d = f.greatest in let h = g.least in let i = g.greatest in
    record { least = omega (arith, ints); greatest = omega (arith, ints) }

pub apart_fits : (op : BinOp) (signed : Bool) (width : ℕ) (s t : Shape) → IsJoining op → IsWidth width → Word signed width s → Word signed width t → is_apart s t ≡ true →
    Fits (Result_in op signed width s t) (sums (neg_ℤ (pos (2 ^ 120))) (pos (2 ^ 120)) s t)
apart_fits op signed width s t i w a c e =
    Fits-same (Sum (Has s) (Has t)) (Result_in op signed width s t) (sums (neg_ℤ (pos (2 ^ 120))) (pos (2 ^ 120)) s t)
    (λ n m.
    let r = some_result op signed width m.left m.right i in
    record { left = m.left; right = m.right; has_left = m.has_left; has_right = m.has_right; is = r.1 ∙ ap Ok (sum_is op signed width s t m.left m.right r.0 i w a c e m.has_left m.has_right r.1 ∙ sym m.is) })
    (λ n m. record { left = m.left; right = m.right; has_left = m.has_left; has_right = m.has_right; is = sum_is op signed width s t m.left m.right n i w a c e m.has_left m.has_right m.is })
    (Makes-fits (Sum (Has s) (Has t)) (sums (neg_ℤ (pos (2 ^ 120))) (pos (2 ^ 120)) s t)
    (sums_of s t a.valid c.valid (λ x y h l. typed_sum signed width x y w (a.typed.fits x h) (c.typed.fits y l))))
