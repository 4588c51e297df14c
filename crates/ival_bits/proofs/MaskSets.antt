-- What masks leave of the numbers of sets.
use Rattle.std.proofs.Common.{◌≡◌, ◌⊎◌, ℕ, zero, suc, ◌+◌, ◌-◌, ◌*◌, ◌/◌, ◌%◌, ◌<◌, ◌≤◌, ◌^◌, ◌==◌, Bool, true, false, cond, ℤ, pos, negsuc, ◌+ℤ◌, List, [], ◌∷◌, map, Option, Some, None, Ok, refl, sym, subst, ap, ◌∙◌, inl, inr, arith}
use Rattle.std.specs.Prelude.{neg_ℤ, ◌*ℤ◌, ◌&&◌, bit_and}
use Rattle.std.proofs.lemmas.Int.{ints}
use Rattle.std.proofs.lemmas.Bool.{eqb-true, cases_lt}
use Rattle.std.proofs.lemmas.List.{length-map}
use Rattle.std.proofs.lemmas.Nat.{pow_pos, div-add-mod', mod_below, and-not, and_comm, and_mask}
use Rattle.std.proofs.Math.Nat.{mod-eq_of_lt, pow-le-pow_right, pow-suc}
use lib.Signed.{◌<ℤ◌, ◌≤ℤ◌}
use Rattle.c_base.specs.declared.operators.BinOp.TheVariants.{And}
use Rattle.c_base.specs.Integers.{FitsBits, residue, least_of, greatest_of}
use Rattle.c_base.specs.Operators.{operated, on_bits, floor}
use Rattle.c_base.proofs.Residues.{residue_below, residue_differs, residue_is}
use Rattle.ival_core.specs.declared.value.Shape.{Shape}
use Rattle.ival_core.specs.declared.value.Shape.TheVariants.{Few, Many}
use Rattle.ival_core.specs.Sets.{IsNumber, IsValid, Has}
use Rattle.ival_core.specs.Views.{one_of, single_of}
use Rattle.ival_core.proofs.Insertion.{AllNumbers-among}
use Rattle.ival_core.proofs.Runs.{Steps-low, Steps-high}
use Rattle.ival_arith.specs.declared.pieces.Change.TheVariants.{Times}
use Rattle.ival_arith.specs.Pieces.{all_changed}
use Rattle.ival_arith.specs.Values.{residues}
use Rattle.ival_arith.proofs.Fits.{Fits, Fits-same, gathered-exactly}
use Rattle.ival_arith.proofs.Making.{IsWidth}
use Rattle.ival_arith.proofs.Parts.{Image, run-exactly, map-among, map-numbers, all_changed-exactly, scaled_order}
use Rattle.ival_arith.proofs.Reducing.{residues-fits}
use Rattle.ival_arith.proofs.Spreading.{Word}
use Rattle.ival_arith.proofs.Words.{Ends, ends, half, powers}
use Rattle.ival_arith.specs.Floors.{floored}
use Rattle.ival_bits.specs.Spans.{length_of}
use Rattle.ival_bits.specs.Masks.{mask_of, turned, cleared, by_mask, by_number}
use Rattle.ival_bits.proofs.Sizes.{type_bits, fits_within, length_zero}
use Rattle.ival_arith.proofs.Flooring.{neg_times, floor_low, floor_high, floor_order, floor_number, below_of, step_some}
use Rattle.ival_arith.proofs.FloorSets.{Fits-image, floored-fits}
use Rattle.ival_bits.proofs.Shifting.{times_separate}
use Rattle.ival_bits.proofs.BitBounds.{pattern_of, Operated, operated_is, Operands, own_pattern, and_masked, and_swapped, by_residue, type_least, split, lowest}
use Rattle.ival_bits.proofs.SpanSets.{Result_in, up_to}

-- ---- masks of the lowest bits

-- m is the only number of the set
pub record Only (t : Shape) (m : ℤ) : Type 0 where
  pub has : Has t m
  pub only : (y : ℤ) → Has t y → y ≡ m

pub single_is : (t : Shape) (m : ℤ) → single_of t ≡ Some m → Only t m
single_is (Many p) m e = cc
single_is (Few v) m e = by_items v.items e
  where
    unsome : (a b : ℤ) → Some a ≡ Some b → a ≡ b
    unsome a b e = cc

    by_items : (xs : List ℤ) → one_of xs ≡ Some m → Only (Few (record { items = xs })) m
    by_items [] e = cc
    by_items (x ∷ []) e = let f = unsome x m e in record { has = inl (sym f); only = λ y h. elim h [ inl k ↦ k ∙ f | inr k ↦ absurd k ] }
    by_items (x ∷ y ∷ ys) e = cc

-- n is all of the lowest bits
pub record Lowest (n : ℤ) (bits : ℕ) : Type 0 where
  pub number : ℕ
  pub same : n ≡ pos number
  pub is : 2 ^ bits ≡ number + 1

pub mask_is : (n : ℤ) (bits : ℕ) → mask_of n ≡ Some bits → Lowest n bits
mask_is (negsuc n) bits e = cc
mask_is (pos n) bits e = by_test (2 ^ length_of n == n + 1) (λ t. eqb-true (2 ^ length_of n) (n + 1) t) e
  where
    unsome : (a b : ℕ) → Some a ≡ Some b → a ≡ b
    unsome a b e = cc

    by_test : (b : Bool) → (b ≡ true → 2 ^ length_of n ≡ n + 1) → cond b (Some (length_of n)) None ≡ Some bits → Lowest (pos n) bits
    by_test true f e = record { number = n; same = refl; is = ap (λ k. 2 ^ k) (sym (unsome (length_of n) bits e)) ∙ f refl }
    by_test false f e = cc

type_operands : (signed : Bool) (width : ℕ) (x y n : ℤ) → IsWidth width → FitsBits signed width x → FitsBits signed width y → operated And signed width x y ≡ Ok n → Operands And signed width (type_bits signed width) x y n
type_operands signed width x y n w f g e = record {
  bitwise = tt;
  room = w;
  small = omega arith;
  left = f;
  right = g;
  first = fits_within signed width x f;
  second = fits_within signed width y g;
  result = operated_is And signed width x y n tt e;
}

mask_fits : (signed : Bool) (width bits m : ℕ) → IsWidth width → FitsBits signed width (pos m) → 2 ^ bits ≡ m + 1 → bits ≤ width
mask_fits signed width bits m w f e =
    let l = own_pattern signed width m w.some f in
    elim (cases_lt width bits) [
      | inl k ↦ let p : 2 ^ suc width ≤ 2 ^ bits = pow-le-pow_right (omega arith) k in let q = pow-suc 2 width in let r = pow_pos width in absurd (omega (arith, p, q, e))
      | inr k ↦ k
    ]

mask_result : (signed : Bool) (width : ℕ) (bits : ℕ) (x y n : ℤ) → IsWidth width → FitsBits signed width x → FitsBits signed width y → (k : Lowest y bits) → operated And signed width x y ≡ Ok n → n ≡ pos (residue (2 ^ bits) x)
mask_result signed width bits x y n w f g k e =
    let h = subst (FitsBits signed width) k.same g in
    and_masked signed width (type_bits signed width) bits k.number x n (type_operands signed width x (pos k.number) n w f h (ap (operated And signed width x) (sym k.same) ∙ e)) (mask_fits signed width bits k.number w h k.is) k.is

masked_fits : (signed : Bool) (width : ℕ) (s t : Shape) (bits : ℕ) (m : ℤ) → IsWidth width → Word signed width s → Word signed width t → Only t m → Lowest m bits → Fits (Result_in And signed width s t) (residues (2 ^ bits) s)
masked_fits signed width s t bits m w a b o k =
    let g = b.typed.fits m o.has in
    let l = mask_fits signed width bits k.number w (subst (FitsBits signed width) k.same g) k.is in
    let r = w.room in
    Fits-same (Image (Has s) (λ n. pos (residue (2 ^ bits) n))) (Result_in And signed width s t) (residues (2 ^ bits) s)
    (λ n i. record { left = i.from; right = m; has_left = i.has; has_right = o.has; is = ap Ok (mask_result signed width bits i.from m (on_bits (λ x y. x && y) signed width i.from m) w (a.typed.fits i.from i.has) g k refl ∙ sym i.is) })
    (λ n i. record { from = i.left; has = i.has_left; is = mask_result signed width bits i.left m n w (a.typed.fits i.left i.has_left) g k (ap (operated And signed width i.left) (sym (o.only i.right i.has_right)) ∙ i.is) })
    (residues-fits (2 ^ bits) s (pow_pos bits) (powers bits (omega arith)) a.valid)

-- ---- masks of all bits but the lowest

-- the lowest bits of a type are among its bits
pub record Upper (signed : Bool) (width bits : ℕ) (m : ℤ) : Type 0 where
  pub small : bits ≤ type_bits signed width
  pub pattern : residue (2 ^ width) m ≡ 2 ^ width - 1 - (2 ^ bits - 1)

power_least : (bits w q : ℕ) → 2 ^ bits ≡ q + 1 → q + 1 ≤ 2 ^ w → bits ≤ w
power_least bits w q e h = elim (cases_lt w bits) [
  | inl k ↦ let p : 2 ^ suc w ≤ 2 ^ bits = pow-le-pow_right (omega arith) k in let r = pow-suc 2 w in let z = pow_pos w in absurd (omega (arith, p, r, e))
  | inr k ↦ k
]

upper_is : (signed : Bool) (width bits : ℕ) (m : ℤ) → IsWidth width → FitsBits signed width m → Lowest (turned signed width m) bits → Upper signed width bits m
upper_is true width bits (pos n) w f k = let e = k.same in let p = pow_pos (width - 1) in absurd (omega (arith, ints))
upper_is true width bits (negsuc n) w f k =
    let e = k.same in let a = f.least in let p = pow_pos (width - 1) in let h = half width w.some in let i = k.is in
    let q : n ≡ k.number = omega (arith, ints) in
    let l : n < 2 ^ width = omega (arith, ints, h) in
    record {
      small = power_least bits (width - 1) k.number i (omega (arith, ints));
      pattern = ap (λ r. 2 ^ width - suc r) (mod-eq_of_lt l) ∙ less (2 ^ width) n (2 ^ bits) (omega arith);
    }
  where
    less : (m n b : ℕ) → b ≡ n + 1 → m - suc n ≡ m - 1 - (b - 1)
    less m n b e = omega arith
upper_is false width bits (negsuc n) w f k = let a = f.least in absurd (omega (arith, ints))
upper_is false width bits (pos n) w f k =
    let e = k.same in let a = f.greatest in let p = pow_pos width in let i = k.is in
    let q : n + k.number + 1 ≡ 2 ^ width = omega (arith, ints) in
    let l : n < 2 ^ width = omega arith in
    record { small = power_least bits width k.number i (omega arith); pattern = mod-eq_of_lt l ∙ less (2 ^ width) n k.number (2 ^ bits) q i }
  where
    less : (m n k b : ℕ) → n + k + 1 ≡ m → b ≡ k + 1 → n ≡ m - 1 - (b - 1)
    less m n k b e f = omega arith

-- a number is its quotient's multiple and the residue
pub floor_residue : (x : ℤ) (d : ℕ) → 0 < d → x ≡ floor x d *ℤ pos d +ℤ pos (residue d x)
floor_residue (pos n) d h = let e = div-add-mod' n d in omega (arith, ints)
floor_residue (negsuc n) d h = let e = div-add-mod' n d in let b = mod_below n d h in let f = neg_times (n / d) d in omega (arith, ints)

-- the least number of a type is a multiple of its lowest bits
least_times : (signed : Bool) (width bits : ℕ) → bits ≤ type_bits signed width → (q : ℤ) × (least_of signed width ≡ q *ℤ pos (2 ^ bits))
least_times false width bits h = (pos 0, zero_times (2 ^ bits))
  where
    zero_times : (m : ℕ) → pos 0 ≡ pos 0 *ℤ pos m
    zero_times m = omega (arith, ints)
least_times true width bits h = (neg_ℤ (pos (2 ^ (width - 1 - bits))), by_parts (2 ^ (width - 1)) (2 ^ (width - 1 - bits)) (2 ^ bits) (pow_pos (width - 1 - bits)) (pow_pos (width - 1)) (split (width - 1) bits h))
  where
    by_parts : (m a b : ℕ) → 0 < a → 0 < m → m ≡ a * b → negsuc (m - 1) ≡ neg_ℤ (pos a) *ℤ pos b
    by_parts m (suc a) b h k e = let f = neg_times a b in omega (arith, ints)
    by_parts m zero b h k e = absurd (omega arith)

cleared_fits_type : (signed : Bool) (width bits : ℕ) (x : ℤ) → bits ≤ type_bits signed width → FitsBits signed width x → FitsBits signed width (floor x (2 ^ bits) *ℤ pos (2 ^ bits))
cleared_fits_type signed width bits x h f =
    let p = pow_pos bits in
    let a = floor_low x (2 ^ bits) p in
    let b = floor_high x (2 ^ bits) p in
    let q = least_times signed width bits h in
    let l : (q.0 *ℤ pos (2 ^ bits)) ≤ℤ x = subst (λ z. z ≤ℤ x) q.1 f.least in
    let c = below_of q.0 (floor x (2 ^ bits)) (2 ^ bits) (omega (arith, ints)) in
    record { least = subst (λ z. z ≤ℤ (floor x (2 ^ bits) *ℤ pos (2 ^ bits))) (sym q.1) (scaled_order q.0 (floor x (2 ^ bits)) (2 ^ bits) c); greatest = up_to (floor x (2 ^ bits) *ℤ pos (2 ^ bits)) x (greatest_of signed width) a f.greatest }

clear_result : (signed : Bool) (width bits : ℕ) (x m n : ℤ) → IsWidth width → FitsBits signed width x → Upper signed width bits m → Operated And signed width x m n → n ≡ floor x (2 ^ bits) *ℤ pos (2 ^ bits)
unfolding pattern_of
clear_result signed width bits x m n w f u o =
    let p = pow_pos width in
    let px = residue (2 ^ width) x in
    let l = type_least signed width bits u.small in
    let b = residue_below (2 ^ width) x p in
    let d = residue_differs (2 ^ width) x p in
    let c : 2 ^ bits ≤ 2 ^ width = pow-le-pow_right (omega arith) l in
    let e = and-not width (2 ^ bits - 1) px (omega (arith, pow_pos bits)) b in
    let g : bit_and (2 ^ bits - 1) px ≡ residue (2 ^ bits) x = and_comm (2 ^ bits - 1) px ∙ and_mask px bits ∙ lowest width bits x l in
    let r = bit_and (2 ^ width - 1 - (2 ^ bits - 1)) px in
    let i = floor_residue x (2 ^ bits) (pow_pos bits) in
    let z = floor x (2 ^ bits) *ℤ pos (2 ^ bits) in
    by_residue And signed width x m n z w.some (cleared_fits_type signed width bits x u.small f)
    (residue_is (2 ^ width) z r (omega (arith, e)) (record { times = d.times; is = parts x z (d.times *ℤ pos (2 ^ width)) px r (residue (2 ^ bits) x) i d.is (omega (arith, e, g)) }) ∙ and_comm (2 ^ width - 1 - (2 ^ bits - 1)) px ∙ ap (bit_and px) (sym u.pattern))
    o
  where
    parts : (x z t : ℤ) (p r k : ℕ) → x ≡ z +ℤ pos k → x ≡ pos p +ℤ t → r + k ≡ p → z ≡ pos r +ℤ t
    parts x z t p r k e f g = omega (arith, ints)

-- quotients of numbers between two lie between the quotients of these
floored_between : (d : ℕ) (s : Shape) (low high : ℤ) → 0 < d → IsValid s → ((n : ℤ) → Has s n → (low ≤ℤ n) × (n ≤ℤ high)) → (n : ℤ) → Has (floored d s) n → (floor low d ≤ℤ n) × (n ≤ℤ floor high d)
unfolding floored
floored_between d (Few v) low high h l b n i =
    let x = gathered-exactly (map (λ n. floor n d) v.items) (map-numbers (λ n. floor n d) v.items (λ n i. floor_number n d (AllNumbers-among v.items l.numbers n i))) (let e = length-map v.items (λ n. floor n d) in let k = l.small in omega (arith, e)) in
    let m = map-among (λ n. floor n d) v.items n (x.only n i) in
    let c = b m.from m.has in
    (subst (λ z. floor low d ≤ℤ z) (sym m.is) (floor_order low m.from d h c.0), subst (λ z. z ≤ℤ floor high d) (sym m.is) (floor_order m.from high d h c.1))
floored_between d (Many p) low high h l b n i =
    let lo = Steps-low p l in let hi = Steps-high p l in
    let step = cond (p.stride % d == 0) (p.stride / d) 1 in
    let x = run-exactly (floor p.low d) (floor p.high d) step (floor_number p.low d l.first) (floor_number p.high d l.last) (floor_order p.low p.high d h lo.below) (step_some p.stride d l.moves h) in
    let k = x.only n i in
    (up_to (floor low d) (floor p.low d) n (floor_order low p.low d h (b p.low lo).0) k.above, up_to n (floor p.high d) (floor high d) k.below (floor_order p.high high d h (b p.high hi).1))

pub cleared_number : (signed : Bool) (width bits : ℕ) (s : Shape) → IsWidth width → bits ≤ 64 → Word signed width s → (n : ℤ) → Has (floored (2 ^ bits) s) n → IsNumber (n *ℤ pos (2 ^ bits))
cleared_number signed width bits s w h a n i =
    let e = ends signed width w.some w.room in
    let p = pow_pos bits in let q = powers bits h in
    let b = floored_between (2 ^ bits) s (least_of signed width) (greatest_of signed width) p a.valid (λ n j. let f = a.typed.fits n j in (f.least, f.greatest)) n i in
    let x = scaled_order (floor (least_of signed width) (2 ^ bits)) n (2 ^ bits) b.0 in
    let y = scaled_order n (floor (greatest_of signed width) (2 ^ bits)) (2 ^ bits) b.1 in
    let c = floor_high (least_of signed width) (2 ^ bits) p in
    let d = floor_low (greatest_of signed width) (2 ^ bits) p in
    let j = e.least in let k = e.greatest in
    record { least = omega (arith, ints); greatest = omega (arith, ints) }

upper_fits : (signed : Bool) (width : ℕ) (s t : Shape) (bits : ℕ) (m : ℤ) → IsWidth width → Word signed width s → Word signed width t → Only t m → Upper signed width bits m → Fits (Result_in And signed width s t) (cleared bits s)
unfolding cleared
upper_fits signed width s t bits m w a b o u =
    let d = 2 ^ bits in
    let p = pow_pos bits in
    let l : bits ≤ 64 = (let k = type_least signed width bits u.small in let r = w.room in omega arith) in
    let x = floored-fits d s p a.valid in
    let y = all_changed-exactly (Times d) (floored d s) p x.valid (λ n i. cleared_number signed width bits s w l a n i) in
    Fits-same (Image (Image (Has s) (λ n. floor n d)) (λ n. n *ℤ pos d)) (Result_in And signed width s t) (all_changed (Times d) (floored d s))
    (λ n i. record {
      left = i.has.from;
      right = m;
      has_left = i.has.has;
      has_right = o.has;
      is = ap Ok (clear_result signed width bits i.has.from m (on_bits (λ x y. x && y) signed width i.has.from m) w (a.typed.fits i.has.from i.has.has) u (operated_is And signed width i.has.from m (on_bits (λ x y. x && y) signed width i.has.from m) tt refl) ∙ sym (i.is ∙ ap (λ z. z *ℤ pos d) i.has.is));
    })
    (λ n i. record {
      from = floor i.left d;
      has = record { from = i.left; has = i.has_left; is = refl };
      is = clear_result signed width bits i.left m n w (a.typed.fits i.left i.has_left) u (operated_is And signed width i.left m n tt (ap (operated And signed width i.left) (sym (o.only i.right i.has_right)) ∙ i.is));
    })
    (Fits-image (Image (Has s) (λ n. floor n d)) (λ n. n *ℤ pos d) (floored d s) (all_changed (Times d) (floored d s)) (times_separate d p) x y)

-- ---- a set that is a mask

pub by_number_fits : (signed : Bool) (width : ℕ) (s t r : Shape) (o : Option ℤ) → IsWidth width → Word signed width s → Word signed width t → single_of t ≡ o → by_number signed width o s ≡ Some r → Fits (Result_in And signed width s t) r
by_number_fits signed width s t r None w a b e f = cc
by_number_fits signed width s t r (Some m) w a b e f = by_masks (mask_of m) (mask_of (turned signed width m)) refl refl f
  where
    unsome : (x y : Shape) → Some x ≡ Some y → x ≡ y
    unsome x y e = cc

    by_masks : (u v : Option ℕ) → mask_of m ≡ u → mask_of (turned signed width m) ≡ v → by_mask u v s ≡ Some r → Fits (Result_in And signed width s t) r
    by_masks (Some bits) v g h i = subst (Fits (Result_in And signed width s t)) (unsome (residues (2 ^ bits) s) r i) (masked_fits signed width s t bits m w a b (single_is t m e) (mask_is m bits g))
    by_masks None (Some bits) g h i =
        let o = single_is t m e in
        subst (Fits (Result_in And signed width s t)) (unsome (cleared bits s) r i) (upper_fits signed width s t bits m w a b o (upper_is signed width bits m w (b.typed.fits m o.has) (mask_is (turned signed width m) bits h)))
    by_masks None None g h i = cc

swapped : (signed : Bool) (width : ℕ) (s t : Shape) (n : ℤ) → Result_in And signed width s t n → Result_in And signed width t s n
swapped signed width s t n m = record { left = m.right; right = m.left; has_left = m.has_right; has_right = m.has_left; is = and_swapped signed width m.left m.right n m.is }

pub fits_swapped : (signed : Bool) (width : ℕ) (s t r : Shape) → Fits (Result_in And signed width t s) r → Fits (Result_in And signed width s t) r
fits_swapped signed width s t r f = Fits-same (Result_in And signed width t s) (Result_in And signed width s t) r (λ n m. swapped signed width t s n m) (λ n m. swapped signed width s t n m) f

mask_zero : mask_of (pos 0) ≡ Some 0
mask_zero = ap (λ k. cond (2 ^ k == 1) (Some k) None) length_zero

pub not_some : (o : Option ℕ) → ((x : ℕ) → o ≡ Some x → ⊥) → o ≡ None
not_some None h = refl
not_some (Some x) h = absurd (h x refl)

-- the sum of the ends of a type, and what a number leaves of it
pub record Turns (signed : Bool) (width : ℕ) (m : ℤ) : Type 0 where
  pub sum : IsNumber (least_of signed width +ℤ greatest_of signed width)
  pub number : IsNumber (turned signed width m)
  pub small : turned signed width m <ℤ pos (2 ^ 64)

pub turns : (signed : Bool) (width : ℕ) (m : ℤ) → IsWidth width → FitsBits signed width m → Turns signed width m
turns signed width m w f =
    let e = ends signed width w.some w.room in
    let a = e.least in let b = e.greatest in let c = e.below in let d = e.above in let g = f.least in let h = f.greatest in
    record {
      sum = record { least = omega (arith, ints); greatest = omega (arith, ints) };
      number = record { least = omega (arith, ints); greatest = omega (arith, ints) };
      small = omega (arith, ints);
    }

-- a mask that is not one of the lowest bits leaves one of them
pub upper_small : (signed : Bool) (width bits : ℕ) (m : ℤ) → IsWidth width → FitsBits signed width m → mask_of m ≡ None → mask_of (turned signed width m) ≡ Some bits → bits < 64
upper_small signed width bits m w f e g = by_bits (cases_lt bits 64)
  where
    not_zero : m ≡ pos 0 → ⊥
    not_zero i = clash (sym mask_zero ∙ sym (ap mask_of i) ∙ e)
      where
        clash : ◌≡◌ {A = Option ℕ} (Some 0) None → ⊥
        clash e = cc

    by_bits : (bits < 64) ⊎ (64 ≤ bits) → bits < 64
    by_bits (inl l) = l
    by_bits (inr l) =
        let k = mask_is (turned signed width m) bits g in
        let p : 2 ^ 64 ≤ 2 ^ bits = pow-le-pow_right (omega arith) l in
        let q = ends signed width w.some w.room in
        absurd (not_zero (by_sign signed f q k.same (let i = k.is in omega (arith, p, i))))
      where
        by_sign : (s : Bool) → FitsBits s width m → Ends s width → turned s width m ≡ pos (mask_is (turned signed width m) bits g).number → 2 ^ 64 ≤ (mask_is (turned signed width m) bits g).number + 1 → m ≡ pos 0
        by_sign true f q e h = let a = f.least in let b = half width w.some in let c = powers width w.room in let p = pow_pos (width - 1) in absurd (omega (arith, ints, b, c))
        by_sign false f q e h = let a = f.least in let c = powers width w.room in let p = pow_pos width in omega (arith, ints)
