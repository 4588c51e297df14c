-- Products, and where products, quotients and remainders lie.
use Rattle.std.proofs.Common.{◌≡◌, ◌⊎◌, ℕ, zero, suc, ◌-◌, ◌*◌, ◌/◌, ◌%◌, ◌<◌, ◌≤◌, ◌^◌, Bool, true, false, cond, ℤ, pos, negsuc, List, [], ◌∷◌, length, get_or, Result, Ok, Err, max, min, refl, sym, subst, ap, ◌∙◌, inl, inr, arith}
use Rattle.std.specs.Prelude.{neg_ℤ, ◌*ℤ◌, ◌&&◌, int_div, int_rem, unsigned_abs}
use Rattle.std.specs.Int.{int_min, int_max}
use Rattle.std.proofs.lemmas.Int.{ints, clamps, by_lt_z, unsigned_abs-mul, rem_below}
use Rattle.std.proofs.lemmas.Nat.{pow_pos, mul-le, le-div}
use Rattle.std.proofs.Math.Nat.{one-dvd, div-le_self, mod-le, div-mul-le_self}
use lib.IntN.{*ℤ_comm}
use lib.Signed.{◌<ℤ◌, ◌≤ℤ◌}
use Rattle.c_base.specs.declared.kind.Kind.{Kind}
use Rattle.c_base.specs.declared.kind.Kind.TheVariants.{DivisionByZero, SignedOverflow}
use Rattle.c_base.specs.declared.operators.BinOp.TheVariants.{Div, Rem}
use Rattle.c_base.specs.Integers.{FitsBits, fits_bits, residue, least_of, greatest_of}
use Rattle.c_base.specs.Operators.{arithmetic, is_zero, quotient, remainder}
use Rattle.c_base.proofs.Residues.{residue_below}
use Rattle.ival_core.specs.declared.value.Progression.{Progression}
use Rattle.ival_core.specs.declared.value.Shape.{Shape}
use Rattle.ival_core.specs.declared.value.Shape.TheVariants.{Few, Many}
use Rattle.ival_core.specs.Sets.{apart, Among, IsLongRun, IsValid, IsAscending, Has, Steps}
use Rattle.ival_core.proofs.Ends.{at_head, at_last}
use Rattle.ival_core.specs.Views.{bounds_of}
use Rattle.ival_core.specs.Joined.{joined}
use Rattle.ival_core.proofs.Orders.{le_true}
use Rattle.ival_arith.specs.Pieces.{none, cycle}
use Rattle.ival_arith.specs.Values.{product_line, line, lines_onto, extent, is_natural, spread, least_factor, multiplied}
use Rattle.ival_arith.proofs.Factors.{factor_some, factor_below}
use Rattle.ival_arith.proofs.Fits.{Fits, Fits-same, Fits-joined, Makes-fits, Exactly-makes, none-exactly}
use Rattle.ival_arith.proofs.Parts.{Image, Between, run-exactly}
use Rattle.ival_arith.proofs.Making.{Made, Typed, IsWidth, FitsEnds, fits_true, signed_result, result_signed, unsigned_result}
use Rattle.ival_arith.proofs.Multiplying.{product_line-exactly, product_cycle-fits}
use Rattle.ival_arith.proofs.Wrapping.{InType}
use Rattle.ival_arith.proofs.Words.{ends, powers, fits_operand, operand_number}

-- ---- products

pub unok : (m n : ℤ) → ◌≡◌ {A = Result ℤ Kind} (Ok m) (Ok n) → m ≡ n
unok m n e = cc

lowest : (width : ℕ) → neg_ℤ (pos (2 ^ (width - 1))) ≡ least_of true width
lowest width = let p = pow_pos (width - 1) in omega (arith, ints)

half_small : (width : ℕ) → width ≤ 64 → 2 ^ (width - 1) ≤ 2 ^ 64
half_small width h = powers (width - 1) (omega arith)

pub line-fits : (signed : Bool) (width : ℕ) (p : Progression) (y : ℤ) → IsWidth width → IsLongRun p → FitsBits signed width y → Fits (InType signed width (Image (Steps p) (λ x. x *ℤ y))) (line signed width p y)
unfolding line
line-fits true width p y w l f =
    let e = product_line-exactly (2 ^ (width - 1)) (2 ^ (width - 1) - 1) p y (half_small width w.room) (let s = half_small width w.room in omega arith) l in
    Fits-same (Between (Image (Steps p) (λ x. x *ℤ y)) (neg_ℤ (pos (2 ^ (width - 1)))) (pos (2 ^ (width - 1) - 1))) (InType true width (Image (Steps p) (λ x. x *ℤ y))) (product_line (2 ^ (width - 1)) (2 ^ (width - 1) - 1) p y)
    (λ n b. record { whole = n; has = b.has; is = result_signed width n (subst (λ z. z ≤ℤ n) (lowest width) b.above) b.below })
    (λ n h.
    let r = signed_result width h.whole n h.is in
    record { has = subst (Image (Steps p) (λ x. x *ℤ y)) (sym r.0) h.has; above = subst (λ z. z ≤ℤ n) (sym (lowest width)) (subst (λ z. least_of true width ≤ℤ z) (sym r.0) r.1.above); below = subst (λ z. z ≤ℤ pos (2 ^ (width - 1) - 1)) (sym r.0) r.1.below })
    (Makes-fits (Between (Image (Steps p) (λ x. x *ℤ y)) (neg_ℤ (pos (2 ^ (width - 1)))) (pos (2 ^ (width - 1) - 1))) (product_line (2 ^ (width - 1)) (2 ^ (width - 1) - 1) p y)
    (Exactly-makes (Between (Image (Steps p) (λ x. x *ℤ y)) (neg_ℤ (pos (2 ^ (width - 1)))) (pos (2 ^ (width - 1) - 1))) (product_line (2 ^ (width - 1)) (2 ^ (width - 1) - 1) p y) e))
line-fits false width p (negsuc k) w l f = let a = f.least in absurd (omega (arith, ints))
line-fits false width p (pos k) w l f =
    Fits-same (Image (Image (Steps p) (λ x. x *ℤ pos k)) (λ n. pos (residue (2 ^ width) n))) (InType false width (Image (Steps p) (λ x. x *ℤ pos k))) (cycle (2 ^ width) (residue (2 ^ width) (p.low *ℤ pos k)) ((p.stride * k) % 2 ^ width) (apart p.low p.high / p.stride))
    (λ n i. record { whole = i.from; has = i.has; is = unsigned_result width i.from ∙ ap Ok (sym i.is) })
    (λ n h. record { from = h.whole; has = h.has; is = sym (unok (pos (residue (2 ^ width) h.whole)) n (sym (unsigned_result width h.whole) ∙ h.is)) })
    (product_cycle-fits (2 ^ width) p k (pow_pos width) (powers width w.room) l)

-- n is the product of a number with P and one with Q
pub record Product (P Q : ℤ → Type 0) (n : ℤ) : Type 0 where
  pub left : ℤ
  pub right : ℤ
  pub has_left : P left
  pub has_right : Q right
  pub is : n ≡ left *ℤ right

pub lines_onto-fits : (signed : Bool) (width : ℕ) (R : ℤ → Type 0) (all : Shape) (p : Progression) (ys : List ℤ) → IsWidth width → IsLongRun p → Typed signed width (Among ys) → Fits R all →
    Fits (λ n. R n ⊎ InType signed width (Product (Steps p) (Among ys)) n) (lines_onto signed width all p ys)
unfolding lines_onto
lines_onto-fits signed width R all p [] w l t f =
    Fits-same R (λ n. R n ⊎ InType signed width (Product (Steps p) (Among [])) n) all (λ n r. inl r) (λ n h. elim h [ inl r ↦ r | inr i ↦ absurd (i.has.has_right) ]) f
lines_onto-fits signed width R all p (y ∷ ys) w l t f =
    let P : ℤ → Type 0 = InType signed width (Image (Steps p) (λ x. x *ℤ y)) in
    let j = Fits-joined R P all (line signed width p y) f (line-fits signed width p y w l (t.fits y (inl refl))) in
    let k = lines_onto-fits signed width (λ n. R n ⊎ P n) (joined all (line signed width p y)) p ys w l (record { fits = λ n m. t.fits n (inr m) }) j in
    Fits-same (λ n. (R n ⊎ P n) ⊎ InType signed width (Product (Steps p) (Among ys)) n) (λ n. R n ⊎ InType signed width (Product (Steps p) (Among (y ∷ ys))) n) (lines_onto signed width (joined all (line signed width p y)) p ys)
    (λ n h. elim h [ inl i ↦ elim i [ inl r ↦ inl r | inr a ↦ inr (first n a) ] | inr b ↦ inr (later n b) ])
    (λ n h. elim h [ inl r ↦ inl (inl r) | inr b ↦ back n b b.has.has_right ]) k
  where
    first : (n : ℤ) → InType signed width (Image (Steps p) (λ x. x *ℤ y)) n → InType signed width (Product (Steps p) (Among (y ∷ ys))) n
    first n a = record { whole = a.whole; has = record { left = a.has.from; right = y; has_left = a.has.has; has_right = inl refl; is = a.has.is }; is = a.is }

    later : (n : ℤ) → InType signed width (Product (Steps p) (Among ys)) n → InType signed width (Product (Steps p) (Among (y ∷ ys))) n
    later n b = record { whole = b.whole; has = record { left = b.has.left; right = b.has.right; has_left = b.has.has_left; has_right = inr b.has.has_right; is = b.has.is }; is = b.is }

    back : (n : ℤ) (b : InType signed width (Product (Steps p) (Among (y ∷ ys))) n) → (b.has.right ≡ y) ⊎ Among ys b.has.right →
        (R n ⊎ InType signed width (Image (Steps p) (λ x. x *ℤ y)) n) ⊎ InType signed width (Product (Steps p) (Among ys)) n
    back n b (inl e) = inl (inr (record { whole = b.whole; has = record { from = b.has.left; has = b.has.has_left; is = b.has.is ∙ ap (λ z. b.has.left *ℤ z) e }; is = b.is }))
    back n b (inr a) = inr (record { whole = b.whole; has = record { left = b.has.left; right = b.has.right; has_left = b.has.has_left; has_right = a; is = b.has.is }; is = b.is })

pub lines-fits : (signed : Bool) (width : ℕ) (p : Progression) (ys : List ℤ) → IsWidth width → IsLongRun p → Typed signed width (Among ys) →
    Fits (InType signed width (Product (Steps p) (Among ys))) (lines_onto signed width none p ys)
lines-fits signed width p ys w l t =
    Fits-same (λ n. ⊥ ⊎ InType signed width (Product (Steps p) (Among ys)) n) (InType signed width (Product (Steps p) (Among ys))) (lines_onto signed width none p ys)
    (λ n h. elim h [ inl f ↦ absurd f | inr i ↦ i ]) (λ n i. inr i)
    (lines_onto-fits signed width (λ n. ⊥) none p ys w l t (Makes-fits (λ n. ⊥) none (Exactly-makes (λ n. ⊥) none none-exactly)))

-- ---- numbers that are not far from 0

-- n is of the type, at most m away from 0, and not negative where natural says so
pub record Spread (signed : Bool) (width : ℕ) (natural : Bool) (m : ℕ) (n : ℤ) : Type 0 where
  pub least : least_of signed width ≤ℤ n
  pub greatest : n ≤ℤ greatest_of signed width
  pub near : unsigned_abs n ≤ m
  pub above : natural ≡ true → pos 0 ≤ℤ n

spread_low : Bool → ℕ → ℤ
spread_low natural m = cond natural (pos 0) (neg_ℤ (pos m))

low_end : (natural : Bool) (m : ℕ) → cond natural (pos 0) (neg_ℤ (pos m)) ≤ℤ pos 0
low_end true m = omega (arith, ints)
low_end false m = omega (arith, ints)

low_below : (natural : Bool) (m : ℕ) (n : ℤ) → unsigned_abs n ≤ m → (natural ≡ true → pos 0 ≤ℤ n) → cond natural (pos 0) (neg_ℤ (pos m)) ≤ℤ n
low_below true m n h f = f refl
low_below false m n h f = omega (arith, ints)

pub spread-holds : (signed : Bool) (width : ℕ) (natural : Bool) (m : ℕ) → IsWidth width → IsValid (spread signed width natural m) × ((n : ℤ) → Spread signed width natural m n → Has (spread signed width natural m) n)
unfolding spread
spread-holds signed width natural m w =
    let e = ends signed width w.some w.room in
    let a = e.least in let b = e.greatest in let c = e.below in let d = e.above in
    let low = cond natural (pos 0) (neg_ℤ (pos m)) in
    let g = low_end natural m in
    let x = run-exactly (int_max (least_of signed width) low) (int_min (greatest_of signed width) (pos m)) 1
    (record { least = omega (arith, ints, clamps); greatest = omega (arith, ints, clamps) }) (record { least = omega (arith, ints, clamps); greatest = omega (arith, ints, clamps) }) (omega (arith, ints, clamps)) (omega arith) in (
      x.valid,
      λ n s.
          let h = s.least in let i = s.greatest in let j = s.near in let k = low_below natural m n s.near s.above in
          x.holds n (record { above = omega (arith, ints, clamps); below = omega (arith, ints, clamps); meets = one-dvd (apart (int_max (least_of signed width) low) n) }),
    )

-- the numbers of a set are not farther from 0 than its bounds
pub record Bounded (s : Shape) : Type 0 where
  pub near : (n : ℤ) → Has s n → unsigned_abs n ≤ extent (bounds_of s)
  pub natural : is_natural (bounds_of s) ≡ true → (n : ℤ) → Has s n → pos 0 ≤ℤ n

far_few : (low high n : ℤ) → low ≤ℤ n → n ≤ℤ high → unsigned_abs n ≤ max (unsigned_abs low) (unsigned_abs high)
far_few low high n h k = omega (arith, ints)

bounded_few : (xs : List ℤ) → IsAscending xs → Bounded (Few (record { items = xs }))
bounded_few [] a = record { near = λ n m. absurd m; natural = λ e n m. absurd m }
bounded_few (x ∷ xs) a = record {
  near = λ n m. far_few x (get_or (x ∷ xs) (length xs) x) n (at_head (x ∷ xs) x n a m) (at_last (x ∷ xs) (length xs) x n a refl m);
  natural = λ e n m. let b = le_true (pos 0) x e in let c = at_head (x ∷ xs) x n a m in omega (arith, ints);
}

pub bounded : (s : Shape) → IsValid s → Bounded s
bounded (Few v) l = bounded_few v.items l.ascending
bounded (Many p) l = record {
  near = λ n h. far_few p.low p.high n h.above h.below;
  natural = λ e n h. let a = le_true (pos 0) p.low e in let b : p.low ≤ℤ n = h.above in omega (arith, ints);
}

-- ---- any two sets

-- the numbers of a set are of the type
pub record Word (signed : Bool) (width : ℕ) (s : Shape) : Type 0 where
  pub valid : IsValid s
  pub typed : Typed signed width (Has s)

-- s is a set, and holds the numbers with P
pub record Covers (P : ℤ → Type 0) (s : Shape) : Type 0 where
  pub valid : IsValid s
  pub holds : (n : ℤ) → P n → Has s n

pub Fits-covers : (P : ℤ → Type 0) (s : Shape) → Fits P s → Covers P s
Fits-covers P s f = record { valid = f.valid; holds = f.holds }

pub product_turned : (P Q : ℤ → Type 0) (n : ℤ) → Product P Q n → Product Q P n
product_turned P Q n h = record { left = h.right; right = h.left; has_left = h.has_right; has_right = h.has_left; is = h.is ∙ *ℤ_comm h.left h.right }

-- one set is long, and the other is not
abbrev pub OneShort : Shape → Shape → Type 0
OneShort (Many p) (Few u) = Unit {0}
OneShort (Few v) (Many q) = Unit {0}
OneShort (Many p) (Many q) = ⊥
OneShort (Few v) (Few u) = ⊥

pub multiplied-fits : (signed : Bool) (width : ℕ) (s t : Shape) → IsWidth width → OneShort s t → Word signed width s → Word signed width t →
    Fits (InType signed width (Product (Has s) (Has t))) (multiplied signed width s t)
unfolding multiplied
multiplied-fits signed width (Many p) (Few u) w o a b = lines-fits signed width p u.items w a.valid b.typed
multiplied-fits signed width (Few v) (Many q) w o a b =
    Fits-same (InType signed width (Product (Steps q) (Among v.items))) (InType signed width (Product (Among v.items) (Steps q))) (lines_onto signed width none q v.items)
    (λ n h. record { whole = h.whole; has = product_turned (Steps q) (Among v.items) h.whole h.has; is = h.is })
    (λ n h. record { whole = h.whole; has = product_turned (Among v.items) (Steps q) h.whole h.has; is = h.is })
    (lines-fits signed width q v.items w b.valid a.typed)
multiplied-fits signed width (Many p) (Many q) w o a b = absurd o
multiplied-fits signed width (Few v) (Few u) w o a b = absurd o

pub both_true : (x y : Bool) → (x && y) ≡ true → (x ≡ true) × (y ≡ true)
both_true true true e = (refl, refl)
both_true true false e = cc
both_true false y e = cc

pub natural_product : (x y : ℤ) → pos 0 ≤ℤ x → pos 0 ≤ℤ y → pos 0 ≤ℤ (x *ℤ y)
natural_product (pos a) (pos b) h k = omega (arith, ints)
natural_product (pos a) (negsuc b) h k = absurd (omega (arith, ints))
natural_product (negsuc a) y h k = absurd (omega (arith, ints))

-- a result in a type, by the number that it is made of
in_spread : (signed : Bool) (width : ℕ) (natural : Bool) (m : ℕ) (z n : ℤ) → IsWidth width → arithmetic signed width z ≡ Ok n → unsigned_abs z ≤ m → (natural ≡ true → pos 0 ≤ℤ z) →
    (signed ≡ false → pos 0 ≤ℤ z) → Spread signed width natural m n
in_spread true width natural m z n w e h f g =
    let r = signed_result width z n e in
    record {
      least = subst (λ k. least_of true width ≤ℤ k) (sym r.0) r.1.above;
      greatest = subst (λ k. k ≤ℤ greatest_of true width) (sym r.0) r.1.below;
      near = subst (λ k. unsigned_abs k ≤ m) (sym r.0) h;
      above = λ t. subst (λ k. pos 0 ≤ℤ k) (sym r.0) (f t);
    }
in_spread false width natural m z n w e h f g =
    let p = pow_pos width in
    let i : pos (residue (2 ^ width) z) ≡ n = unok (pos (residue (2 ^ width) z)) n (sym (unsigned_result width z) ∙ e) in
    let b = residue_below (2 ^ width) z p in
    subst (Spread false width natural m) i (record {
      least = omega (arith, ints);
      greatest = omega (arith, ints);
      near = reduced_near width z m (g refl) h;
      above = λ t. omega (arith, ints);
    })
  where
    reduced_near : (width : ℕ) (z : ℤ) (m : ℕ) → pos 0 ≤ℤ z → unsigned_abs z ≤ m → residue (2 ^ width) z ≤ m
    reduced_near width (pos k) m g h = let a = mod-le k (2 ^ width) in omega arith
    reduced_near width (negsuc k) m g h = absurd (omega (arith, ints))

pub unsigned_natural : (width : ℕ) (n : ℤ) (signed : Bool) → FitsBits signed width n → signed ≡ false → pos 0 ≤ℤ n
unsigned_natural width n true f e = cc
unsigned_natural width n false f e = f.least

-- the numbers of a type are near 0 in any case
near_type : (signed : Bool) (width : ℕ) (natural : Bool) (m : ℕ) (n : ℤ) → IsWidth width → Spread signed width natural m n → Spread signed width natural (min m (2 ^ 65)) n
near_type signed width natural m n w h =
    let e = ends signed width w.some w.room in
    let a = e.least in let b = e.greatest in let c = h.least in let d = h.greatest in let f = h.near in
    let g : unsigned_abs n ≤ 2 ^ 65 = omega (arith, ints) in
    record { least = h.least; greatest = h.greatest; near = omega arith; above = h.above }

pub product_spread : (signed : Bool) (width : ℕ) (s t : Shape) → IsWidth width → Word signed width s → Word signed width t →
    Covers (InType signed width (Product (Has s) (Has t))) (spread signed width (is_natural (bounds_of s) && is_natural (bounds_of t)) (min (extent (bounds_of s) * extent (bounds_of t)) (2 ^ 65)))
product_spread signed width s t w a b =
    let natural = is_natural (bounds_of s) && is_natural (bounds_of t) in
    let m = extent (bounds_of s) * extent (bounds_of t) in
    let h = spread-holds signed width natural (min m (2 ^ 65)) w in
    let c = bounded s a.valid in
    let d = bounded t b.valid in
    record {
      valid = h.0;
      holds = λ n i.
          let x = i.has.left in
          let y = i.has.right in
          h.1 n (near_type signed width natural m n w (in_spread signed width natural m i.whole n w i.is
          (subst (λ z. unsigned_abs z ≤ m) (sym i.has.is) (subst (λ z. z ≤ m) (sym (unsigned_abs-mul x y)) (mul-le (unsigned_abs x) (unsigned_abs y) (extent (bounds_of s)) (extent (bounds_of t)) (c.near x i.has.has_left) (d.near y i.has.has_right))))
          (λ e. let f = both_true (is_natural (bounds_of s)) (is_natural (bounds_of t)) e in subst (λ z. pos 0 ≤ℤ z) (sym i.has.is) (natural_product x y (c.natural f.0 x i.has.has_left) (d.natural f.1 y i.has.has_right)))
          (λ e. subst (λ z. pos 0 ≤ℤ z) (sym i.has.is) (natural_product x y (unsigned_natural width x signed (a.typed.fits x i.has.has_left) e) (unsigned_natural width y signed (b.typed.fits y i.has.has_right) e)))));
    }

-- ---- quotients and remainders

pub quotient_near : (x y : ℤ) → unsigned_abs (int_div x y) ≤ unsigned_abs x
quotient_near (pos a) (pos b) = div-le_self a b
quotient_near (pos a) (negsuc b) = let h = div-le_self a (suc b) in omega (arith, ints)
quotient_near (negsuc a) (pos b) = let h = div-le_self (suc a) b in omega (arith, ints)
quotient_near (negsuc a) (negsuc b) = div-le_self (suc a) (suc b)

pub quotient_natural : (x y : ℤ) → pos 0 ≤ℤ x → pos 0 ≤ℤ y → pos 0 ≤ℤ int_div x y
quotient_natural (pos a) (pos b) h k = omega (arith, ints)
quotient_natural (pos a) (negsuc b) h k = absurd (omega (arith, ints))
quotient_natural (negsuc a) y h k = absurd (omega (arith, ints))

-- a defined quotient
pub record Quotient (signed : Bool) (width : ℕ) (x y n : ℤ) : Type 0 where
  pub divisor : is_zero y ≡ false
  pub is : n ≡ int_div x y
  pub fits : FitsEnds (least_of signed width) (greatest_of signed width) (int_div x y)

pub quotient_is : (signed : Bool) (width : ℕ) (x y n : ℤ) → quotient signed width x y ≡ Ok n → Quotient signed width x y n
quotient_is signed width x y n e = by_tests (is_zero y) (fits_bits signed width (int_div x y)) refl (λ t. fits_true signed width (int_div x y) t) e
  where
    by_tests : (s t : Bool) → is_zero y ≡ s → (t ≡ true → FitsEnds (least_of signed width) (greatest_of signed width) (int_div x y)) →
        ◌≡◌ {A = Result ℤ Kind} (cond s (Err DivisionByZero) (cond t (Ok (int_div x y)) (Err SignedOverflow))) (Ok n) → Quotient signed width x y n
    by_tests true t z f e = cc
    by_tests false true z f e = record { divisor = z; is = sym (unok (int_div x y) n e); fits = f refl }
    by_tests false false z f e = cc

-- a defined remainder
pub record Remainder (signed : Bool) (width : ℕ) (x y n : ℤ) : Type 0 where
  pub divisor : is_zero y ≡ false
  pub is : n ≡ int_rem x y
  pub fits : FitsEnds (least_of signed width) (greatest_of signed width) (int_div x y)

pub remainder_is : (signed : Bool) (width : ℕ) (x y n : ℤ) → remainder signed width x y ≡ Ok n → Remainder signed width x y n
remainder_is signed width x y n e = by_tests (is_zero y) (fits_bits signed width (int_div x y)) refl (λ t. fits_true signed width (int_div x y) t) e
  where
    by_tests : (s t : Bool) → is_zero y ≡ s → (t ≡ true → FitsEnds (least_of signed width) (greatest_of signed width) (int_div x y)) →
        ◌≡◌ {A = Result ℤ Kind} (cond s (Err DivisionByZero) (cond t (Ok (int_rem x y)) (Err SignedOverflow))) (Ok n) → Remainder signed width x y n
    by_tests true t z f e = cc
    by_tests false true z f e = record { divisor = z; is = sym (unok (int_rem x y) n e); fits = f refl }
    by_tests false false z f e = cc

pub quotient_size : (x y : ℤ) → unsigned_abs (int_div x y) ≡ unsigned_abs x / unsigned_abs y
quotient_size (pos a) (pos b) = refl
quotient_size (pos a) (negsuc b) = omega (arith, ints)
quotient_size (negsuc a) (pos b) = omega (arith, ints)
quotient_size (negsuc a) (negsuc b) = refl

pub some_divisor : (y : ℤ) → is_zero y ≡ false → 0 < unsigned_abs y
some_divisor (pos zero) e = cc
some_divisor (pos (suc n)) e = omega arith
some_divisor (negsuc n) e = omega arith

pub quotient_spread : (signed : Bool) (width : ℕ) (s t : Shape) → IsWidth width → Word signed width s → Word signed width t →
    Covers (Made Div signed width (Has s) (Has t)) (spread signed width (is_natural (bounds_of s) && is_natural (bounds_of t)) (extent (bounds_of s) / least_factor t))
quotient_spread signed width s t w a b =
    let natural = is_natural (bounds_of s) && is_natural (bounds_of t) in
    let h = spread-holds signed width natural (extent (bounds_of s) / least_factor t) w in
    let c = bounded s a.valid in
    let d = bounded t b.valid in
    record {
      valid = h.0;
      holds = λ n i.
          let q = quotient_is signed width i.left i.right n i.is in
          h.1 n (record {
            least = subst (λ z. least_of signed width ≤ℤ z) (sym q.is) q.fits.above;
            greatest = subst (λ z. z ≤ℤ greatest_of signed width) (sym q.is) q.fits.below;
            near = subst (λ z. unsigned_abs z ≤ extent (bounds_of s) / least_factor t) (sym q.is) (nearer i.left i.right (extent (bounds_of s)) (least_factor t) (factor_some t b.valid) (factor_below t b.valid i.right i.has_right (operand_number i.right (fits_operand signed width i.right w.some w.room (b.typed.fits i.right i.has_right))) (some_divisor i.right q.divisor)) (c.near i.left i.has_left));
            above = λ e. let f = both_true (is_natural (bounds_of s)) (is_natural (bounds_of t)) e in subst (λ z. pos 0 ≤ℤ z) (sym q.is) (quotient_natural i.left i.right (c.natural f.0 i.left i.has_left) (d.natural f.1 i.right i.has_right));
          });
    }
  where
    nearer : (x y : ℤ) (e m : ℕ) → 0 < m → m ≤ unsigned_abs y → unsigned_abs x ≤ e → unsigned_abs (int_div x y) ≤ e / m
    nearer x y e m h k l =
        let a : unsigned_abs (int_div x y) ≡ unsigned_abs x / unsigned_abs y = quotient_size x y in
        let b = div-mul-le_self (unsigned_abs x) (unsigned_abs y) in
        let d = mul-le (unsigned_abs x / unsigned_abs y) m (unsigned_abs x / unsigned_abs y) (unsigned_abs y) (omega arith) k in
        subst (λ z. z ≤ e / m) (sym a) (le-div (unsigned_abs x / unsigned_abs y) e m h (omega (arith, b, d)))

-- a remainder lies between 0 and what is divided, and is less than the divisor
pub record Rest (x y n : ℤ) : Type 0 where
  pub near : unsigned_abs n ≤ unsigned_abs x
  pub below : unsigned_abs n < unsigned_abs y
  pub up : pos 0 ≤ℤ x → (pos 0 ≤ℤ n) × (n ≤ℤ x)
  pub down : x <ℤ pos 0 → (x ≤ℤ n) × (n ≤ℤ pos 0)

pub rest_is : (x y : ℤ) → 0 < unsigned_abs y → Rest x y (int_rem x y)
rest_is (pos a) y h =
    let k = mod-le a (unsigned_abs y) in
    record { near = k; below = rem_below (pos a) y h; up = λ i. (omega (arith, ints), omega (arith, ints)); down = λ i. absurd (omega (arith, ints)) }
rest_is (negsuc a) y h =
    let k = mod-le (suc a) (unsigned_abs y) in
    record { near = omega (arith, ints); below = rem_below (negsuc a) y h; up = λ i. absurd (omega (arith, ints)); down = λ i. (omega (arith, ints), omega (arith, ints)) }

pub remainder_spread : (signed : Bool) (width : ℕ) (s t : Shape) → IsWidth width → Word signed width s → Word signed width t →
    Covers (Made Rem signed width (Has s) (Has t)) (spread signed width (is_natural (bounds_of s)) (min (extent (bounds_of s)) (extent (bounds_of t) - 1)))
remainder_spread signed width s t w a b =
    let natural = is_natural (bounds_of s) in
    let m = min (extent (bounds_of s)) (extent (bounds_of t) - 1) in
    let h = spread-holds signed width natural m w in
    let c = bounded s a.valid in
    let d = bounded t b.valid in
    record { valid = h.0; holds = λ n i. h.1 n (held c d n i) }
  where
    inside : (x n : ℤ) → FitsBits signed width x → (pos 0 ≤ℤ x → (pos 0 ≤ℤ n) × (n ≤ℤ x)) → (x <ℤ pos 0 → (x ≤ℤ n) × (n ≤ℤ pos 0)) → (least_of signed width ≤ℤ n) × (n ≤ℤ greatest_of signed width)
    inside x n f up down =
        let e = ends signed width w.some w.room in
        let c = f.least in let d = f.greatest in let g = e.below in let h = e.above in
        by_lt_z x (pos 0)
        (λ l. let k = down l in let i = k.0 in let j = k.1 in (omega (arith, ints), omega (arith, ints)))
        (λ l. let k = up l in let i = k.0 in let j = k.1 in (omega (arith, ints), omega (arith, ints)))

    held : Bounded s → Bounded t → (n : ℤ) → Made Rem signed width (Has s) (Has t) n → Spread signed width (is_natural (bounds_of s)) (min (extent (bounds_of s)) (extent (bounds_of t) - 1)) n
    held c d n i =
        let r = remainder_is signed width i.left i.right n i.is in
        let t' = rest_is i.left i.right (some_divisor i.right r.divisor) in
        let k = inside i.left (int_rem i.left i.right) (a.typed.fits i.left i.has_left) t'.up t'.down in
        let x = c.near i.left i.has_left in
        let y = d.near i.right i.has_right in
        let u = t'.near in
        let v = t'.below in
        subst (Spread signed width (is_natural (bounds_of s)) (min (extent (bounds_of s)) (extent (bounds_of t) - 1))) (sym r.is) (record {
          least = k.0;
          greatest = k.1;
          near = omega arith;
          above = λ e. (t'.up (c.natural e i.left i.has_left)).0;
        })
