-- What shifts of the numbers of two sets are.
use Rattle.std.proofs.Common.{◌≡◌, ◌⊎◌, ℕ, zero, suc, ◌+◌, ◌-◌, ◌*◌, ◌<◌, ◌≤◌, ◌^◌, Bool, true, false, cond, ℤ, pos, negsuc, ◌+ℤ◌, Result, Ok, Err, refl, sym, subst, ap, ◌∙◌, inl, inr, arith}
use Rattle.std.specs.Prelude.{◌*ℤ◌, ◌&&◌, int_le, int_lt, unsigned_abs}
use Rattle.std.proofs.lemmas.Int.{ints, by_lt_z}
use Rattle.std.proofs.lemmas.Nat.{pow_pos, pow-add, mul-le}
use Rattle.std.proofs.lemmas.Bool.{cases_lt}
use lib.Signed.{◌<ℤ◌, ◌≤ℤ◌}
use Rattle.c_base.specs.declared.kind.Kind.{Kind}
use Rattle.c_base.specs.declared.kind.Kind.TheVariants.{Shift}
use Rattle.c_base.specs.declared.operators.BinOp.{BinOp}
use Rattle.c_base.specs.declared.operators.BinOp.TheVariants.{Shl, Shr}
use Rattle.c_base.specs.Integers.{fits_bits, residue, least_of, greatest_of}
use Rattle.c_base.specs.Operators.{operated, in_type, is_count, floor, shifted_left, shifted_right}
use Rattle.c_base.proofs.Residues.{residue_below, residue_differs, residue_is}
use Rattle.c_base.proofs.Products.{add-mul, mul_assoc}
use Rattle.ival_core.specs.declared.value.Shape.{Shape}
use Rattle.ival_core.specs.Sets.{IsNumber, IsValid, Has}
use Rattle.ival_core.specs.Joined.{joined}
use Rattle.ival_core.proofs.Orders.{lt_true, le_true, true_lt, true_le}
use Rattle.ival_arith.specs.declared.pieces.Change.TheVariants.{Times}
use Rattle.ival_arith.specs.Pieces.{none, all_changed, clipped}
use Rattle.ival_arith.specs.Values.{residues}
use Rattle.ival_arith.specs.Kinds.{holds_number}
use Rattle.ival_arith.proofs.Bounding.{number_held, held_number}
use Rattle.ival_arith.proofs.Fits.{Fits, Fits-same, Fits-joined, Exactly, Exactly-makes, Makes-fits, none-exactly}
use Rattle.ival_arith.proofs.Making.{Made, IsWidth, FitsEnds, fits_true, true_fits, unsigned_result}
use Rattle.ival_arith.proofs.Parts.{Image, Between, clipped-exactly, all_changed-exactly, scaled_order}
use Rattle.ival_arith.proofs.Reducing.{residues-fits}
use Rattle.ival_arith.proofs.Residuals.{Below, residues_below}
use Rattle.ival_arith.proofs.Spreading.{Word, unok, both_true}
use Rattle.ival_arith.proofs.Words.{ends, powers}
use Rattle.ival_arith.specs.Floors.{floored}
use Rattle.ival_bits.specs.Promises.{IsShift}
use Rattle.ival_bits.specs.Shifts.{kept_left, shifted_by, shifts}
use Rattle.ival_arith.proofs.Flooring.{one_more}
use Rattle.ival_arith.proofs.FloorSets.{Separates, Fits-image, floored-fits}

-- ---- one shift

pub counts : (width c : ℕ) → c < width → is_count width (pos c) ≡ true
counts width c h = ap (λ t. t && int_lt (pos c) (pos width)) (true_le (pos 0) (pos c) (omega (arith, ints))) ∙ true_lt (pos c) (pos width) (omega (arith, ints))

pub left_is : (signed : Bool) (width : ℕ) (x : ℤ) (c : ℕ) → c < width → shifted_left signed width x (pos c) ≡ cond (int_le (pos 0) x) (in_type Shift signed width (x *ℤ pos (2 ^ c))) (Err Shift)
left_is signed width x c h = ap (λ t. cond (t && int_le (pos 0) x) (in_type Shift signed width (x *ℤ pos (2 ^ c))) (Err Shift)) (counts width c h)

pub right_is : (width : ℕ) (x : ℤ) (c : ℕ) → c < width → shifted_right width x (pos c) ≡ Ok (floor x (2 ^ c))
right_is width x c h = ap (λ t. cond t (Ok (floor x (2 ^ c))) (Err Shift)) (counts width c h)

-- the bits of a type are those of a count and the others
pub other_bits : (width c : ℕ) → c ≤ width → 2 ^ width ≡ 2 ^ (width - c) * 2 ^ c
other_bits width c h = let e : width - c + c ≡ width = omega arith in ap (λ k. 2 ^ k) (sym e) ∙ pow-add 2 (width - c) c

-- products with m tell numbers apart
less_times : (a b m : ℕ) → 0 < m → a * m < b * m → a < b
less_times a b m h l = elim (cases_lt a b) [
  | inl k ↦ k
  | inr k ↦ let e : b * m ≤ a * m = mul-le b m a m k (omega arith) in absurd (omega arith)
]

times_less : (a b m : ℕ) → 0 < m → a < b → a * m < b * m
times_less a b m h l = let e : suc a * m ≤ b * m = mul-le (suc a) m b m l (omega arith) in omega arith

signed_bits : (width c : ℕ) → c < width → 2 ^ (width - 1) ≡ 2 ^ (width - 1 - c) * 2 ^ c
signed_bits width c h = other_bits (width - 1) c (omega arith)

-- a number that a left shift in a signed type is defined for
pub record Shiftable (width c : ℕ) (x : ℤ) : Type 0 where
  pub above : pos 0 ≤ℤ x
  pub below : x <ℤ pos (2 ^ (width - 1 - c))

pub shifted_fits : (width c : ℕ) (x : ℤ) → c < width → Shiftable width c x → FitsEnds (least_of true width) (greatest_of true width) (x *ℤ pos (2 ^ c))
shifted_fits width c (negsuc a) h s = let b = s.above in absurd (omega (arith, ints))
shifted_fits width c (pos a) h s =
    let b = s.below in
    let e = signed_bits width c h in
    let l : a * 2 ^ c < 2 ^ (width - 1 - c) * 2 ^ c = times_less a (2 ^ (width - 1 - c)) (2 ^ c) (pow_pos c) (omega (arith, ints)) in
    record { above = omega (arith, ints); below = omega (arith, ints) }

pub fits_shiftable : (width c : ℕ) (x : ℤ) → c < width → pos 0 ≤ℤ x → (x *ℤ pos (2 ^ c)) ≤ℤ greatest_of true width → Shiftable width c x
fits_shiftable width c (negsuc a) h l f = absurd (omega (arith, ints))
fits_shiftable width c (pos a) h l f =
    let e = signed_bits width c h in
    let p = pow_pos (width - 1) in
    let m : a * 2 ^ c < 2 ^ (width - 1 - c) * 2 ^ c = omega (arith, ints) in
    let k = less_times a (2 ^ (width - 1 - c)) (2 ^ c) (pow_pos c) m in
    record { above = l; below = omega (arith, ints) }

-- ---- results of one count

-- n is what a shift by c makes of a number with P
pub record ByCount (op : BinOp) (signed : Bool) (width c : ℕ) (P : ℤ → Type 0) (n : ℤ) : Type 0 where
  pub from : ℤ
  pub has : P from
  pub is : operated op signed width from (pos c) ≡ Ok n

pub times_separate : (m : ℕ) → 0 < m → Separates (λ n. n *ℤ pos m)
times_separate m h = record { separates = λ a b e. by_lt_z a b (λ l. absurd (rises a b l e)) (λ l. by_lt_z b a (λ k. absurd (rises b a k (sym e))) (λ k. order a b l k)) }
  where
    rises : (a b : ℤ) → a <ℤ b → a *ℤ pos m ≡ b *ℤ pos m → ⊥
    rises a b l e = let f = scaled_order (a +ℤ pos 1) b m (omega (arith, ints)) in let g = one_more a m in omega (arith, ints)

    order : (a b : ℤ) → b ≤ℤ a → a ≤ℤ b → a ≡ b
    order a b l k = omega (arith, ints)

-- a left shift in a signed type
pub record Doubled (width c : ℕ) (x n : ℤ) : Type 0 where
  pub can : Shiftable width c x
  pub is : n ≡ x *ℤ pos (2 ^ c)

pub signed_left : (width c : ℕ) (x n : ℤ) → c < width → shifted_left true width x (pos c) ≡ Ok n → Doubled width c x n
signed_left width c x n h e = by_sign (int_le (pos 0) x) (λ t. le_true (pos 0) x t) (sym (left_is true width x c h) ∙ e)
  where
    by_fits : (t : Bool) → (t ≡ true → FitsEnds (least_of true width) (greatest_of true width) (x *ℤ pos (2 ^ c))) → pos 0 ≤ℤ x →
        ◌≡◌ {A = Result ℤ Kind} (cond t (Ok (x *ℤ pos (2 ^ c))) (Err Shift)) (Ok n) → Doubled width c x n
    by_fits true f l e = record { can = fits_shiftable width c x h l (f refl).below; is = sym (unok (x *ℤ pos (2 ^ c)) n e) }
    by_fits false f l e = cc

    by_sign : (t : Bool) → (t ≡ true → pos 0 ≤ℤ x) → ◌≡◌ {A = Result ℤ Kind} (cond t (in_type Shift true width (x *ℤ pos (2 ^ c))) (Err Shift)) (Ok n) → Doubled width c x n
    by_sign true f e = by_fits (fits_bits true width (x *ℤ pos (2 ^ c))) (λ t. fits_true true width (x *ℤ pos (2 ^ c)) t) (f refl) e
    by_sign false f e = cc

pub left_signed : (width c : ℕ) (x : ℤ) → c < width → Shiftable width c x → shifted_left true width x (pos c) ≡ Ok (x *ℤ pos (2 ^ c))
left_signed width c x h s =
    let f = shifted_fits width c x h s in
    left_is true width x c h ∙ ap (λ t. cond t (in_type Shift true width (x *ℤ pos (2 ^ c))) (Err Shift)) (true_le (pos 0) x s.above)
    ∙ ap (λ t. cond t (Ok (x *ℤ pos (2 ^ c))) (Err Shift)) (true_fits true width (x *ℤ pos (2 ^ c)) f.above f.below)

-- a left shift in an unsigned type
residue_times : (width c : ℕ) (x : ℤ) → c < width → residue (2 ^ width) (x *ℤ pos (2 ^ c)) ≡ residue (2 ^ (width - c)) x * 2 ^ c
residue_times width c x h =
    let e = other_bits width c (omega arith) in
    let d = residue_differs (2 ^ (width - c)) x (pow_pos (width - c)) in
    let b = residue_below (2 ^ (width - c)) x (pow_pos (width - c)) in
    let l : residue (2 ^ (width - c)) x * 2 ^ c < 2 ^ (width - c) * 2 ^ c = times_less (residue (2 ^ (width - c)) x) (2 ^ (width - c)) (2 ^ c) (pow_pos c) b in
    residue_is (2 ^ width) (x *ℤ pos (2 ^ c)) (residue (2 ^ (width - c)) x * 2 ^ c) (omega (arith, e, l)) (record {
      times = d.times;
      is = ap (λ z. z *ℤ pos (2 ^ c)) d.is ∙ add-mul (pos (residue (2 ^ (width - c)) x)) (d.times *ℤ pos (2 ^ (width - c))) (pos (2 ^ c)) ∙ parts (residue (2 ^ (width - c)) x) d.times (2 ^ (width - c)) (2 ^ c) (2 ^ width) e;
    })
  where
    parts : (r : ℕ) (t : ℤ) (a b m : ℕ) → m ≡ a * b → (pos r *ℤ pos b) +ℤ (t *ℤ pos a *ℤ pos b) ≡ pos (r * b) +ℤ (t *ℤ pos m)
    parts r t a b m e = ap (λ z. pos (r * b) +ℤ z) (mul_assoc t (pos a) (pos b) ∙ ap (λ k. t *ℤ pos k) (sym e))

unsigned_left : (width c : ℕ) (x : ℤ) → c < width → pos 0 ≤ℤ x → shifted_left false width x (pos c) ≡ Ok (pos (residue (2 ^ (width - c)) x) *ℤ pos (2 ^ c))
unsigned_left width c x h l =
    left_is false width x c h ∙ ap (λ t. cond t (in_type Shift false width (x *ℤ pos (2 ^ c))) (Err Shift)) (true_le (pos 0) x l)
    ∙ unsigned_result width (x *ℤ pos (2 ^ c)) ∙ ap (λ k. Ok (pos k)) (residue_times width c x h) ∙ ap Ok (whole (residue (2 ^ (width - c)) x) (2 ^ c))
  where
    whole : (a b : ℕ) → pos (a * b) ≡ pos a *ℤ pos b
    whole a b = omega (arith, ints)

can_shift : (width c : ℕ) (n : ℤ) → pos 0 ≤ℤ n → n ≤ℤ pos (2 ^ (width - 1 - c) - 1) → Shiftable width c n
can_shift width c n l k = let p = pow_pos (width - 1 - c) in record { above = l; below = omega (arith, ints) }

signed_number : (width c : ℕ) (n : ℤ) → IsWidth width → c < width → Shiftable width c n → IsNumber (n *ℤ pos (2 ^ c))
signed_number width c n w h k =
    let f = shifted_fits width c n h k in
    let e = ends true width w.some w.room in
    let b = e.least in let d = e.greatest in let i = f.above in let j = f.below in
    record { least = omega (arith, ints); greatest = omega (arith, ints) }

unsigned_number : (width c : ℕ) (n : ℤ) → IsWidth width → c < width → Below (2 ^ (width - c)) n → IsNumber (n *ℤ pos (2 ^ c))
unsigned_number width c (negsuc k) w h b = let l = b.above in absurd (omega (arith, ints))
unsigned_number width c (pos k) w h b =
    let l = b.below in
    let e = other_bits width c (omega arith) in
    let f : k * 2 ^ c < 2 ^ (width - c) * 2 ^ c = times_less k (2 ^ (width - c)) (2 ^ c) (pow_pos c) (omega (arith, ints)) in
    let g = powers width w.room in
    record { least = omega (arith, ints); greatest = omega (arith, ints) }

few_bits : (width c : ℕ) → IsWidth width → 2 ^ (width - c) ≤ 2 ^ 64
few_bits width c w = powers (width - c) (let r = w.room in omega arith)

-- the numbers from 0 on that a left shift in a signed type is defined for
kept-exactly : (width c : ℕ) (s : Shape) → IsWidth width → IsValid s → Exactly (Between (Has s) (pos 0) (pos (2 ^ (width - 1 - c) - 1))) (clipped (pos 0) (pos (2 ^ (width - 1 - c) - 1)) s)
kept-exactly width c s w v =
    let p = pow_pos (width - 1 - c) in
    let q : 2 ^ (width - 1 - c) ≤ 2 ^ 64 = powers (width - 1 - c) (let r = w.room in omega arith) in
    clipped-exactly (pos 0) (pos (2 ^ (width - 1 - c) - 1)) s v (record { least = omega (arith, ints); greatest = omega (arith, ints) }) (record { least = omega (arith, ints); greatest = omega (arith, ints) })

pub kept_number : (signed : Bool) (width c : ℕ) (s : Shape) → IsWidth width → c < width → IsValid s → (n : ℤ) → Has (kept_left signed width c s) n → IsNumber (n *ℤ pos (2 ^ c))
unfolding kept_left
kept_number true width c s w h v n i = let b = (kept-exactly width c s w v).only n i in signed_number width c n w h (can_shift width c n b.above b.below)
kept_number false width c s w h v n i = unsigned_number width c n w h (residues_below (2 ^ (width - c)) s (pow_pos (width - c)) (few_bits width c w) n i)

left_fits : (signed : Bool) (width c : ℕ) (s : Shape) → IsWidth width → c < width → Word signed width s → Fits (ByCount Shl signed width c (Has s)) (shifted_by Shl signed width c s)
unfolding shifted_by kept_left
left_fits true width c s w h a =
    let limit = pos (2 ^ (width - 1 - c) - 1) in
    let u = kept-exactly width c s w a.valid in
    let v = all_changed-exactly (Times (2 ^ c)) (clipped (pos 0) limit s) (pow_pos c) u.valid (λ n i. let b = u.only n i in signed_number width c n w h (can_shift width c n b.above b.below)) in
    Makes-fits (ByCount Shl true width c (Has s)) (all_changed (Times (2 ^ c)) (clipped (pos 0) limit s))
    (Exactly-makes (ByCount Shl true width c (Has s)) (all_changed (Times (2 ^ c)) (clipped (pos 0) limit s)) (record {
      valid = v.valid;
      holds = λ n b. let d = signed_left width c b.from n h b.is in v.holds n (record { from = b.from; has = u.holds b.from (record { has = b.has; above = d.can.above; below = let e = d.can.below in omega (arith, ints) }); is = d.is });
      only = λ n i. let k = v.only n i in let b = u.only k.from k.has in record { from = k.from; has = b.has; is = left_signed width c k.from h (can_shift width c k.from b.above b.below) ∙ ap Ok (sym k.is) };
    }))
left_fits false width c s w h a =
    let rest = residues (2 ^ (width - c)) s in
    let u = residues-fits (2 ^ (width - c)) s (pow_pos (width - c)) (few_bits width c w) a.valid in
    let v = all_changed-exactly (Times (2 ^ c)) rest (pow_pos c) u.valid (λ n i. unsigned_number width c n w h (residues_below (2 ^ (width - c)) s (pow_pos (width - c)) (few_bits width c w) n i)) in
    Fits-same (Image (Image (Has s) (λ n. pos (residue (2 ^ (width - c)) n))) (λ n. n *ℤ pos (2 ^ c))) (ByCount Shl false width c (Has s)) (all_changed (Times (2 ^ c)) rest)
    (λ n i. record { from = i.has.from; has = i.has.has; is = unsigned_left width c i.has.from h (a.typed.fits i.has.from i.has.has).least ∙ ap Ok (sym (i.is ∙ ap (λ z. z *ℤ pos (2 ^ c)) i.has.is)) })
    (λ n b. record {
      from = pos (residue (2 ^ (width - c)) b.from);
      has = record { from = b.from; has = b.has; is = refl };
      is = unok n (pos (residue (2 ^ (width - c)) b.from) *ℤ pos (2 ^ c)) (sym b.is ∙ unsigned_left width c b.from h (a.typed.fits b.from b.has).least);
    })
    (Fits-image (Image (Has s) (λ n. pos (residue (2 ^ (width - c)) n))) (λ n. n *ℤ pos (2 ^ c)) rest (all_changed (Times (2 ^ c)) rest) (times_separate (2 ^ c) (pow_pos c)) u v)

right_fits : (signed : Bool) (width c : ℕ) (s : Shape) → c < width → IsValid s → Fits (ByCount Shr signed width c (Has s)) (shifted_by Shr signed width c s)
unfolding shifted_by
right_fits signed width c s h v =
    Fits-same (Image (Has s) (λ n. floor n (2 ^ c))) (ByCount Shr signed width c (Has s)) (floored (2 ^ c) s)
    (λ n i. record { from = i.from; has = i.has; is = right_is width i.from c h ∙ ap Ok (sym i.is) })
    (λ n b. record { from = b.from; has = b.has; is = unok n (floor b.from (2 ^ c)) (sym b.is ∙ right_is width b.from c h) })
    (floored-fits (2 ^ c) s (pow_pos c) v)

by_count : (op : BinOp) (signed : Bool) (width c : ℕ) (s : Shape) → IsShift op → IsWidth width → c < width → Word signed width s → Fits (ByCount op signed width c (Has s)) (shifted_by op signed width c s)
by_count Shl signed width c s i w h a = left_fits signed width c s w h a
by_count Shr signed width c s i w h a = right_fits signed width c s h a.valid
by_count op signed width c s i w h a = absurd i

-- ---- all counts

-- n is what a shift by a count below k makes
pub record Shifted (op : BinOp) (signed : Bool) (width : ℕ) (s t : Shape) (k : ℕ) (n : ℤ) : Type 0 where
  pub count : ℕ
  pub below : count < k
  pub has : Has t (pos count)
  pub made : ByCount op signed width count (Has s) n

pub shifts_fits : (op : BinOp) (signed : Bool) (width : ℕ) (s t : Shape) (k : ℕ) → IsShift op → IsWidth width → k ≤ width → Word signed width s → Fits (Shifted op signed width s t k) (shifts op signed width s t k)
unfolding shifts
shifts_fits op signed width s t zero i w h a =
    Fits-same (λ n. ⊥) (Shifted op signed width s t 0) none (λ n f. absurd f) (λ n b. let l = b.below in omega arith)
    (Makes-fits (λ n. ⊥) none (Exactly-makes (λ n. ⊥) none none-exactly))
shifts_fits op signed width s t (suc k) i w h a =
    let r = shifts_fits op signed width s t k i w (omega arith) a in
    by_test (holds_number t (pos k)) (λ e. number_held t (pos k) e) (λ m. held_number t (pos k) m) r
  where
    more : (n : ℤ) → Shifted op signed width s t k n → Shifted op signed width s t (suc k) n
    more n b = record { count = b.count; below = let l = b.below in omega arith; has = b.has; made = b.made }

    last : (n : ℤ) (b : Shifted op signed width s t (suc k) n) → (b.count < k) ⊎ (b.count ≡ k)
    last n b = elim (cases_lt b.count k) [ inl l ↦ inl l | inr l ↦ inr (let m = b.below in omega arith) ]

    by_test : (x : Bool) → (x ≡ true → Has t (pos k)) → (Has t (pos k) → x ≡ true) → Fits (Shifted op signed width s t k) (shifts op signed width s t k) →
        Fits (Shifted op signed width s t (suc k)) (cond x (joined (shifts op signed width s t k) (shifted_by op signed width k s)) (shifts op signed width s t k))
    by_test true f g r =
        Fits-same (λ n. Shifted op signed width s t k n ⊎ ByCount op signed width k (Has s) n) (Shifted op signed width s t (suc k)) (joined (shifts op signed width s t k) (shifted_by op signed width k s))
        (λ n b. elim b [ inl e ↦ more n e | inr e ↦ record { count = k; below = omega arith; has = f refl; made = e } ])
        (λ n b. elim (last n b) [ inl l ↦ inl (record { count = b.count; below = l; has = b.has; made = b.made }) | inr e ↦ inr (subst (λ c. ByCount op signed width c (Has s) n) e b.made) ])
        (Fits-joined (Shifted op signed width s t k) (ByCount op signed width k (Has s)) (shifts op signed width s t k) (shifted_by op signed width k s) r (by_count op signed width k s i w h a))
    by_test false f g r =
        Fits-same (Shifted op signed width s t k) (Shifted op signed width s t (suc k)) (shifts op signed width s t k) (λ n b. more n b)
        (λ n b. elim (last n b) [ inl l ↦ record { count = b.count; below = l; has = b.has; made = b.made } | inr e ↦ absurd (clash (g (subst (λ c. Has t (pos c)) e b.has))) ])
        r
      where
        clash : false ≡ true → ⊥
        clash e = cc

-- a defined shift is by a count
pub record Count (width : ℕ) (y : ℤ) : Type 0 where
  pub count : ℕ
  pub below : count < width
  pub is : y ≡ pos count

pub count_of : (width : ℕ) (y : ℤ) → is_count width y ≡ true → Count width y
count_of width (pos c) e = let r = both_true (int_le (pos 0) (pos c)) (int_lt (pos c) (pos width)) e in let l = lt_true (pos c) (pos width) r.1 in record { count = c; below = omega (arith, ints); is = refl }
count_of width (negsuc c) e = cc

defined : (t : Bool) (r : Result ℤ Kind) (n : ℤ) → cond t r (Err Shift) ≡ Ok n → t ≡ true
defined true r n e = refl
defined false r n e = cc

first_true : (x y : Bool) → (x && y) ≡ true → x ≡ true
first_true true y e = refl
first_true false y e = cc

pub shift_count : (op : BinOp) (signed : Bool) (width : ℕ) (x y n : ℤ) → IsShift op → operated op signed width x y ≡ Ok n → Count width y
shift_count Shl signed width x y n i e =
    count_of width y (first_true (is_count width y) (int_le (pos 0) x) (defined (is_count width y && int_le (pos 0) x) (in_type Shift signed width (x *ℤ pos (2 ^ unsigned_abs y))) n e))
shift_count Shr signed width x y n i e = count_of width y (defined (is_count width y) (Ok (floor x (2 ^ unsigned_abs y))) n e)
shift_count op signed width x y n i e = absurd i

pub shift-fits : (op : BinOp) (signed : Bool) (width : ℕ) (s t : Shape) → IsShift op → IsWidth width → Word signed width s → Fits (Made op signed width (Has s) (Has t)) (shifts op signed width s t width)
shift-fits op signed width s t i w a =
    Fits-same (Shifted op signed width s t width) (Made op signed width (Has s) (Has t)) (shifts op signed width s t width)
    (λ n b. record { left = b.made.from; right = pos b.count; has_left = b.made.has; has_right = b.has; is = b.made.is })
    (λ n m.
    let c = shift_count op signed width m.left m.right n i m.is in
    record { count = c.count; below = c.below; has = subst (Has t) c.is m.has_right; made = record { from = m.left; has = m.has_left; is = ap (operated op signed width m.left) (sym c.is) ∙ m.is } })
    (shifts_fits op signed width s t width i w (omega arith) a)
