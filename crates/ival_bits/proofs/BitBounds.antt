-- What operators on bits make of numbers of so many bits.
use Rattle.std.proofs.Common.{◌≡◌, ℕ, zero, suc, ◌+◌, ◌-◌, ◌*◌, ◌/◌, ◌%◌, ◌<◌, ◌≤◌, ◌^◌, Bool, true, false, cond, ℤ, pos, negsuc, ◌+ℤ◌, Result, Ok, refl, sym, subst, ap, ◌∙◌, arith}
use Rattle.std.specs.Prelude.{◌*ℤ◌, ◌&&◌, ◌||◌, nat_lt, bit_and, bit_or, bit_xor}
use Rattle.std.specs.Int.Bits.{and_self, and_zero_l, and_zero_r, or_self, or_zero_l, or_zero_r, xor_self, xor_zero_l, xor_zero_r}
use Rattle.std.proofs.lemmas.Int.{ints}
use Rattle.std.proofs.lemmas.Bool.{lt-ltb, le-ltb}
use Rattle.std.proofs.lemmas.Nat.{pow_pos, pow-add, and_shr, or_shr, xor_shr, and_le_l, le_or_l, le_or_r, or_lt, xor_lt, div-mul-add, div-add-mod', mod_below, and_comm, and_mask}
use Rattle.std.proofs.Math.Nat.{mod-eq_of_lt, div-eq_of_lt, pow-le-pow_right}
use lib.Signed.{◌≤ℤ◌}
use Rattle.c_base.specs.declared.kind.Kind.{Kind}
use Rattle.c_base.specs.declared.operators.BinOp.{BinOp}
use Rattle.c_base.specs.declared.operators.BinOp.TheVariants.{And, Or, Xor}
use Rattle.c_base.specs.Integers.{FitsBits, residue, signed_number}
use Rattle.c_base.specs.Operators.{operated, on_bits, xor}
use Rattle.c_base.proofs.Residues.{residue_below, residue_differs, residue_same}
use Rattle.c_base.proofs.Products.{mul_assoc}
use Rattle.c_base.proofs.Singles.{and_is, or_is, xor_is}
use Rattle.ival_arith.proofs.Making.{IsWidth}
use Rattle.ival_arith.proofs.Words.{half}
use Rattle.ival_bits.specs.Spans.{Within}
use Rattle.ival_bits.specs.Promises.{IsBitwise}
use Rattle.ival_bits.proofs.Sizes.{type_bits}
use Rattle.ival_bits.proofs.Wrapped.{own_reduced}

pub type_least : (signed : Bool) (width bits : ℕ) → bits ≤ type_bits signed width → bits ≤ width
type_least true width bits h = omega arith
type_least false width bits h = h

-- the operator on two bits, and on the patterns of two numbers
unfoldable pub bit_of : BinOp → Bool → Bool → Bool
bit_of And a b = a && b
bit_of Or a b = a || b
bit_of op a b = xor a b

unfoldable pub pattern_of : BinOp → ℕ → ℕ → ℕ
pattern_of And a b = bit_and a b
pattern_of Or a b = bit_or a b
pattern_of op a b = bit_xor a b

-- a result, by the pattern of its bits
pub record Operated (op : BinOp) (signed : Bool) (width : ℕ) (x y n : ℤ) : Type 0 where
  pub is : n ≡ signed_number signed width (pattern_of op (residue (2 ^ width) x) (residue (2 ^ width) y))

unok : (m n : ℤ) → ◌≡◌ {A = Result ℤ Kind} (Ok m) (Ok n) → n ≡ m
unok m n e = cc

pub operated_is : (op : BinOp) (signed : Bool) (width : ℕ) (x y n : ℤ) → IsBitwise op → operated op signed width x y ≡ Ok n → Operated op signed width x y n
unfolding pattern_of
operated_is And signed width x y n i e = record { is = unok (on_bits (λ a b. a && b) signed width x y) n e ∙ sym (and_is signed width x y) }
operated_is Or signed width x y n i e = record { is = unok (on_bits (λ a b. a || b) signed width x y) n e ∙ sym (or_is signed width x y) }
operated_is Xor signed width x y n i e = record { is = unok (on_bits xor signed width x y) n e ∙ sym (xor_is signed width x y) }
operated_is op signed width x y n i e = absurd i

-- ---- the bits that repeat the sign

abbrev pub is_negative : ℤ → Bool
is_negative (pos n) = false
is_negative (negsuc n) = true

abbrev top : Bool → ℕ → ℕ
top true m = m - 1
top false m = 0

tops : (op : BinOp) (s t : Bool) (m : ℕ) → IsBitwise op → pattern_of op (top s m) (top t m) ≡ top (bit_of op s t) m
unfolding pattern_of bit_of
tops And true true m i = and_self (m - 1)
tops And true false m i = and_zero_r (m - 1)
tops And false t m i = and_zero_l (top t m)
tops Or true true m i = or_self (m - 1)
tops Or true false m i = or_zero_r (m - 1)
tops Or false t m i = or_zero_l (top t m)
tops Xor true true m i = xor_self (m - 1)
tops Xor true false m i = xor_zero_r (m - 1)
tops Xor false t m i = xor_zero_l (top t m)
tops op s t m i = absurd i

shr : (op : BinOp) (a b k : ℕ) → IsBitwise op → pattern_of op a b / 2 ^ k ≡ pattern_of op (a / 2 ^ k) (b / 2 ^ k)
unfolding pattern_of
shr And a b k i = and_shr a b k
shr Or a b k i = or_shr a b k
shr Xor a b k i = xor_shr a b k
shr op a b k i = absurd i

below : (op : BinOp) (a b k : ℕ) → IsBitwise op → a < 2 ^ k → b < 2 ^ k → pattern_of op a b < 2 ^ k
unfolding pattern_of
below And a b k i h l = omega (arith, and_le_l a b)
below Or a b k i h l = or_lt k a b h l
below Xor a b k i h l = xor_lt k a b h l
below op a b k i h l = absurd i

-- 2 to the width is 2 to the other bits times 2 to these
pub split : (width bits : ℕ) → bits ≤ width → 2 ^ width ≡ 2 ^ (width - bits) * 2 ^ bits
split width bits h = let e : width - bits + bits ≡ width = omega arith in ap (λ k. 2 ^ k) (sym e) ∙ pow-add 2 (width - bits) bits

one_less : (a b : ℕ) → 0 < a → (a - 1) * b + b ≡ a * b
one_less zero b h = absurd (omega arith)
one_less (suc a) b h = let g : suc a - 1 ≡ a = omega arith in ap (λ k. k * b + b) g ∙ omega arith

upper_of : (width bits : ℕ) (x : ℤ) → bits ≤ width → Within bits x → residue (2 ^ width) x / 2 ^ bits ≡ top (is_negative x) (2 ^ (width - bits))
upper_of width bits (pos n) h w =
    let a = w.below in let p : 2 ^ bits ≤ 2 ^ width = pow-le-pow_right (omega arith) h in
    let l : n < 2 ^ bits = omega (arith, ints) in
    let m : n < 2 ^ width = omega arith in
    ap (λ k. k / 2 ^ bits) (mod-eq_of_lt m) ∙ none n (2 ^ bits) l
  where
    none : (n m : ℕ) → n < m → n / m ≡ 0
    none n m l = div-eq_of_lt l
upper_of width bits (negsuc n) h w =
    let a = w.above in let p : 2 ^ bits ≤ 2 ^ width = pow-le-pow_right (omega arith) h in
    let q = pow_pos (width - bits) in
    let l : n < 2 ^ bits = omega (arith, ints) in
    let m : n < 2 ^ width = omega arith in
    ap (λ k. (2 ^ width - suc k) / 2 ^ bits) (mod-eq_of_lt m) ∙ ap (λ k. k / 2 ^ bits) (parts n (2 ^ width) (2 ^ (width - bits)) (2 ^ bits) (split width bits h) q l)
    ∙ div-mul-add (2 ^ (width - bits) - 1) (2 ^ bits) (2 ^ bits - suc n) (omega arith)
  where
    parts : (n m a b : ℕ) → m ≡ a * b → 0 < a → n < b → m - suc n ≡ (a - 1) * b + (b - suc n)
    parts n m a b e h l = omega (arith, e, one_less a b h)

-- ---- results

-- a pattern that stands for a number that is not negative
natural_pattern : (signed : Bool) (width r : ℕ) → pos 0 ≤ℤ signed_number signed width r → signed_number signed width r ≡ pos r
natural_pattern false width r h = refl
natural_pattern true width r h = by_test (nat_lt r (2 ^ (width - 1))) h
  where
    by_test : (t : Bool) → pos 0 ≤ℤ cond t (pos r) (negsuc (2 ^ width - suc r)) → cond t (pos r) (negsuc (2 ^ width - suc r)) ≡ pos r
    by_test true h = refl
    by_test false h = absurd (omega (arith, ints))

-- two numbers of a type, and what an operator on their bits makes of them
pub record Operands (op : BinOp) (signed : Bool) (width bits : ℕ) (x y n : ℤ) : Type 0 where
  pub bitwise : IsBitwise op
  pub room : IsWidth width
  pub small : bits ≤ type_bits signed width
  pub left : FitsBits signed width x
  pub right : FitsBits signed width y
  pub first : Within bits x
  pub second : Within bits y
  pub result : Operated op signed width x y n

-- n has at most so many bits, and is not negative where the sign bits say so
pub record Bits (op : BinOp) (bits : ℕ) (x y n : ℤ) : Type 0 where
  pub within : Within bits n
  pub natural : bit_of op (is_negative x) (is_negative y) ≡ false → pos 0 ≤ℤ n

abbrev pattern : BinOp → ℕ → ℤ → ℤ → ℕ
pattern op width x y = pattern_of op (residue (2 ^ width) x) (residue (2 ^ width) y)

upper : (op : BinOp) (signed : Bool) (width bits : ℕ) (x y n : ℤ) → Operands op signed width bits x y n →
    pattern op width x y / 2 ^ bits ≡ top (bit_of op (is_negative x) (is_negative y)) (2 ^ (width - bits))
upper op signed width bits x y n k =
    let l = type_least signed width bits k.small in
    shr op (residue (2 ^ width) x) (residue (2 ^ width) y) bits k.bitwise
    ∙ ap (λ a. pattern_of op a (residue (2 ^ width) y / 2 ^ bits)) (upper_of width bits x l k.first)
    ∙ ap (pattern_of op (top (is_negative x) (2 ^ (width - bits)))) (upper_of width bits y l k.second)
    ∙ tops op (is_negative x) (is_negative y) (2 ^ (width - bits)) k.bitwise

-- a pattern without upper bits
low_pattern : (signed : Bool) (width bits r : ℕ) → IsWidth width → bits ≤ type_bits signed width → r < 2 ^ bits → signed_number signed width r ≡ pos r
low_pattern false width bits r w h l = refl
low_pattern true width bits r w h l =
    let p : 2 ^ bits ≤ 2 ^ (width - 1) = pow-le-pow_right (omega arith) h in
    ap (λ t. cond t (pos r) (negsuc (2 ^ width - suc r))) (lt-ltb r (2 ^ (width - 1)) (omega arith))

-- a pattern with all upper bits
high_pattern : (width bits r : ℕ) → IsWidth width → bits ≤ width - 1 → r < 2 ^ width → 2 ^ width ≤ r + 2 ^ bits → Within bits (signed_number true width r)
high_pattern width bits r w h l m =
    let p : 2 ^ bits ≤ 2 ^ (width - 1) = pow-le-pow_right (omega arith) h in
    let q = half width w.some in
    let a : 2 ^ (width - 1) ≤ r = omega (arith, q) in
    let b = pow_pos bits in
    subst (Within bits) (sym (ap (λ t. cond t (pos r) (negsuc (2 ^ width - suc r))) (le-ltb r (2 ^ (width - 1)) a)))
    (record { above = omega (arith, ints); below = omega (arith, ints) })

none_left : (r m : ℕ) → 0 < m → r / m ≡ 0 → r < m
none_left r m h e = let d = div-add-mod' r m in let b = mod_below r m h in let z : r / m * m ≡ 0 * m = ap (λ k. k * m) e in omega (arith, d, z)

all_left : (r a m w : ℕ) → 0 < a → r / m ≡ a - 1 → w ≡ a * m → w ≤ r + m
all_left r a m w h e f = let d = div-add-mod' r m in let z : r / m * m ≡ (a - 1) * m = ap (λ k. k * m) e in omega (arith, d, z, one_less a m h, f)

unsigned_sign : (width : ℕ) (x : ℤ) → FitsBits false width x → is_negative x ≡ false
unsigned_sign width (pos n) f = refl
unsigned_sign width (negsuc n) f = let a = f.least in absurd (omega (arith, ints))

no_bit : (op : BinOp) → IsBitwise op → bit_of op false false ≡ false
unfolding bit_of
no_bit And i = refl
no_bit Or i = refl
no_bit Xor i = refl
no_bit op i = absurd i

pub bits_are : (op : BinOp) (signed : Bool) (width bits : ℕ) (x y n : ℤ) → Operands op signed width bits x y n → Bits op bits x y n
bits_are op signed width bits x y n k = by_top (bit_of op (is_negative x) (is_negative y)) refl
  where
    as_number : Bits op bits x y (signed_number signed width (pattern op width x y)) → Bits op bits x y n
    as_number b = subst (Bits op bits x y) (sym k.result.is) b

    by_sign : (s : Bool) → signed ≡ s → bit_of op (is_negative x) (is_negative y) ≡ true → Within bits (signed_number signed width (pattern op width x y))
    by_sign false e t =
        let f : bit_of op (is_negative x) (is_negative y) ≡ false =
        ap (λ b. bit_of op b (is_negative y)) (unsigned_sign width x (subst (λ s. FitsBits s width x) e k.left)) ∙ ap (bit_of op false) (unsigned_sign width y (subst (λ s. FitsBits s width y) e k.right)) ∙ no_bit op k.bitwise in
        absurd (clash (sym t ∙ f))
      where
        clash : true ≡ false → ⊥
        clash e = cc
    by_sign true e t =
        let p = pow_pos width in
        let l : bits ≤ width - 1 = subst (λ s. bits ≤ type_bits s width) e k.small in
        let u = upper op signed width bits x y n k ∙ ap (λ b. top b (2 ^ (width - bits))) t in
        subst (λ s. Within bits (signed_number s width (pattern op width x y))) (sym e)
        (high_pattern width bits (pattern op width x y) k.room l (below op (residue (2 ^ width) x) (residue (2 ^ width) y) width k.bitwise (residue_below (2 ^ width) x p) (residue_below (2 ^ width) y p))
        (all_left (pattern op width x y) (2 ^ (width - bits)) (2 ^ bits) (2 ^ width) (pow_pos (width - bits)) u (split width bits (type_least signed width bits k.small))))

    by_top : (t : Bool) → bit_of op (is_negative x) (is_negative y) ≡ t → Bits op bits x y n
    by_top false e =
        let u : (pattern op width x y) / 2 ^ bits ≡ 0 = upper op signed width bits x y n k ∙ ap (λ b. top b (2 ^ (width - bits))) e in
        let l : (pattern op width x y) < 2 ^ bits = none_left (pattern op width x y) (2 ^ bits) (pow_pos bits) u in
        let f = low_pattern signed width bits (pattern op width x y) k.room k.small l in
        as_number (subst (Bits op bits x y) (sym f) (record { within = record { above = omega (arith, ints); below = omega (arith, ints) }; natural = λ t. omega (arith, ints) }))
    by_top true e = as_number (record { within = by_sign signed refl e; natural = λ f. absurd (clash (sym e ∙ f)) })
      where
        clash : true ≡ false → ⊥
        clash e = cc

natural_sign : (x : ℤ) → pos 0 ≤ℤ x → is_negative x ≡ false
natural_sign (pos n) h = refl
natural_sign (negsuc n) h = absurd (omega (arith, ints))

-- no result of numbers that are not negative is negative
pub both_natural : (op : BinOp) (signed : Bool) (width bits : ℕ) (x y n : ℤ) → Operands op signed width bits x y n → pos 0 ≤ℤ x → pos 0 ≤ℤ y → pos 0 ≤ℤ n
both_natural op signed width bits x y n k h l =
    (bits_are op signed width bits x y n k).natural (ap (λ b. bit_of op b (is_negative y)) (natural_sign x h) ∙ ap (bit_of op false) (natural_sign y l) ∙ no_bit op k.bitwise)

-- ---- bounds by one of the numbers

pub own_pattern : (signed : Bool) (width a : ℕ) → 0 < width → FitsBits signed width (pos a) → a < 2 ^ width
own_pattern true width a h f = let b = f.greatest in let p = pow_pos (width - 1) in let q = half width h in omega (arith, ints, q)
own_pattern false width a h f = let b = f.greatest in let p = pow_pos width in omega (arith, ints)

natural_is : (op : BinOp) (signed : Bool) (width bits : ℕ) (x y n : ℤ) → Operands op signed width bits x y n → bit_of op (is_negative x) (is_negative y) ≡ false → n ≡ pos (pattern op width x y)
natural_is op signed width bits x y n k e =
    k.result.is ∙ natural_pattern signed width (pattern op width x y) (subst (λ z. pos 0 ≤ℤ z) k.result.is ((bits_are op signed width bits x y n k).natural e))

own : (signed : Bool) (width a : ℕ) → 0 < width → FitsBits signed width (pos a) → residue (2 ^ width) (pos a) ≡ a
own signed width a h f = mod-eq_of_lt (own_pattern signed width a h f)

-- `&` with a number that is not negative
pub and_left : (signed : Bool) (width bits : ℕ) (x y n : ℤ) → Operands And signed width bits x y n → pos 0 ≤ℤ x → (pos 0 ≤ℤ n) × (n ≤ℤ x)
unfolding bit_of pattern_of
and_left signed width bits (negsuc a) y n k h = absurd (omega (arith, ints))
and_left signed width bits (pos a) y n k h =
    let e = natural_is And signed width bits (pos a) y n k refl in
    let l = and_le_l (residue (2 ^ width) (pos a)) (residue (2 ^ width) y) in
    let o = own signed width a k.room.some k.left in
    (omega (arith, ints), omega (arith, ints))

pub turned : (signed : Bool) (width bits : ℕ) (x y n : ℤ) → Operands And signed width bits x y n → Operands And signed width bits y x n
unfolding pattern_of
turned signed width bits x y n k = record {
  bitwise = tt;
  room = k.room;
  small = k.small;
  left = k.right;
  right = k.left;
  first = k.second;
  second = k.first;
  result = record { is = k.result.is ∙ ap (signed_number signed width) (and_comm (residue (2 ^ width) x) (residue (2 ^ width) y)) };
}

-- `|` of numbers that are not negative
pub or_both : (signed : Bool) (width bits : ℕ) (x y n : ℤ) → Operands Or signed width bits x y n → pos 0 ≤ℤ x → pos 0 ≤ℤ y → (x ≤ℤ n) × (y ≤ℤ n)
unfolding bit_of pattern_of
or_both signed width bits (negsuc a) y n k h l = absurd (omega (arith, ints))
or_both signed width bits (pos a) (negsuc b) n k h l = absurd (omega (arith, ints))
or_both signed width bits (pos a) (pos b) n k h l =
    let e = natural_is Or signed width bits (pos a) (pos b) n k refl in
    let f = le_or_l (residue (2 ^ width) (pos a)) (residue (2 ^ width) (pos b)) in
    let g = le_or_r (residue (2 ^ width) (pos a)) (residue (2 ^ width) (pos b)) in
    let i = own signed width a k.room.some k.left in
    let j = own signed width b k.room.some k.right in
    (omega (arith, ints), omega (arith, ints))

-- a number of the type with the same pattern is the result
pub by_residue : (op : BinOp) (signed : Bool) (width : ℕ) (x y n z : ℤ) → 0 < width → FitsBits signed width z → residue (2 ^ width) z ≡ pattern_of op (residue (2 ^ width) x) (residue (2 ^ width) y) → Operated op signed width x y n → n ≡ z
by_residue op signed width x y n z h f e o = o.is ∙ ap (signed_number signed width) (sym e) ∙ own_reduced signed width z h f

-- ---- masks

-- the lowest bits of a number of the type
pub lowest : (width k : ℕ) (x : ℤ) → k ≤ width → residue (2 ^ width) x % 2 ^ k ≡ residue (2 ^ k) x
lowest width k x h =
    let d = residue_differs (2 ^ width) x (pow_pos width) in
    sym (residue_same (2 ^ k) x (pos (residue (2 ^ width) x)) (pow_pos k) (record {
      times = d.times *ℤ pos (2 ^ (width - k));
      is = d.is ∙ ap (λ z. pos (residue (2 ^ width) x) +ℤ z) (parts d.times (2 ^ (width - k)) (2 ^ k) (2 ^ width) (split width k h));
    }))
  where
    parts : (t : ℤ) (a b m : ℕ) → m ≡ a * b → t *ℤ pos m ≡ t *ℤ pos a *ℤ pos b
    parts t a b m e = ap (λ z. t *ℤ pos z) e ∙ sym (mul_assoc t (pos a) (pos b))

-- `&` with a mask leaves the lowest bits
pub and_masked : (signed : Bool) (width bits k m : ℕ) (x n : ℤ) → Operands And signed width bits x (pos m) n → k ≤ width → 2 ^ k ≡ m + 1 → n ≡ pos (residue (2 ^ k) x)
unfolding bit_of pattern_of
and_masked signed width bits k m x n o h e =
    let s : is_negative x && false ≡ false = by_sign (is_negative x) in
    natural_is And signed width bits x (pos m) n o s
    ∙ ap pos (ap (bit_and (residue (2 ^ width) x)) (own signed width m o.room.some o.right ∙ less) ∙ and_mask (residue (2 ^ width) x) k ∙ lowest width k x h)
  where
    less : m ≡ 2 ^ k - 1
    less = omega arith

    by_sign : (b : Bool) → (b && false) ≡ false
    by_sign true = refl
    by_sign false = refl

pub and_swapped : (signed : Bool) (width : ℕ) (x y n : ℤ) → operated And signed width x y ≡ Ok n → operated And signed width y x ≡ Ok n
and_swapped signed width x y n e =
    ap Ok (sym (and_is signed width y x) ∙ ap (signed_number signed width) (and_comm (residue (2 ^ width) y) (residue (2 ^ width) x)) ∙ and_is signed width x y) ∙ e
