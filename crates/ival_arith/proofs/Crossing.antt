-- Products of two runs in a signed type.
use Rattle.std.proofs.Common.{◌≡◌, ◌⊎◌, ℕ, zero, suc, ◌+◌, ◌-◌, ◌*◌, ◌/◌, ◌<◌, ◌≤◌, ◌^◌, min, Bool, true, false, cond, ℤ, pos, negsuc, ◌+ℤ◌, List, [], ◌∷◌, Option, Some, None, Ok, refl, sym, subst, ap, ◌∙◌, inl, inr, arith}
use Rattle.std.specs.Prelude.{neg_ℤ, ◌*ℤ◌, unsigned_abs, nat_lt}
use Rattle.std.proofs.lemmas.Int.{ints, by_lt_z, unsigned_abs-mul}
use Rattle.std.proofs.lemmas.Bool.{cases_lt, ltb-false}
use Rattle.std.proofs.lemmas.Nat.{pow_pos, mul-le, le-div}
use Rattle.std.proofs.Math.Nat.{div-le_self, div-mul-le_self, div-mul_cancel}
use lib.IntN.{*ℤ_comm, *ℤ-zero}
use lib.Signed.{◌<ℤ◌, ◌≤ℤ◌}
use Rattle.c_base.specs.Operators.{arithmetic}
use Rattle.c_base.proofs.Products.{mul-neg}
use Rattle.ival_core.specs.declared.value.Progression.{Progression}
use Rattle.ival_core.specs.declared.value.Shape.{Shape}
use Rattle.ival_core.specs.declared.value.Shape.TheVariants.{Few, Many}
use Rattle.ival_core.specs.Sets.{apart, steps_from, Among, IsLongRun, IsValid, Has, Steps, HoldsNine}
use Rattle.ival_core.specs.Views.{bounds_of}
use Rattle.ival_core.proofs.Distances.{apart_is}
use Rattle.ival_core.proofs.Runs.{Steps-number, Steps-low, Steps-high, Steps-from_at}
use Rattle.ival_arith.specs.Kinds.{holds_number}
use Rattle.c_base.specs.declared.operators.BinOp.TheVariants.{Mul}
use Rattle.ival_arith.specs.Pieces.{none, gathered, clipped}
use Rattle.ival_arith.specs.Sums.{firsts}
use Rattle.ival_arith.proofs.Periods.{wrapped_fits, wrapped_nine}
use Rattle.ival_arith.specs.Values.{nearest, least_factor, lines_onto, set_lines, zero_products, near_products, or_else, rows, all_repeat, product_hull, runs_multiplied}
use Rattle.ival_arith.proofs.Adding.{at_first}
use Rattle.ival_arith.proofs.Bounding.{BoundsAre, bounds_are, number_held, held_number}
use Rattle.ival_arith.proofs.Factors.{high_limit, low_limit, one, minus_one}
use Rattle.ival_arith.proofs.Distinct.{nine_values}
use Rattle.ival_arith.proofs.Fits.{Fits, Fits-same, Fits-nine, Exactly, Exactly-makes, Makes-fits, none-exactly}
use Rattle.ival_arith.proofs.Flooring.{one_more}
use Rattle.ival_arith.proofs.Making.{Typed, IsWidth, signed_result, result_signed}
use Rattle.ival_arith.proofs.Parts.{Between, clipped-exactly, scaled_order}
use Rattle.ival_arith.proofs.Spreading.{Product, unok, lines_onto-fits, Word, Covers, product_spread}
use Rattle.ival_arith.proofs.Trying.{Lists, run_lists}
use Rattle.ival_arith.proofs.Words.{powers}
use Rattle.ival_arith.proofs.Wrapping.{InType}

-- ---- the least factor

-- m is how far from 0 the nearest number of a run is that is not 0
pub record LeastFactor (q : Progression) (m : ℕ) : Type 0 where
  pub number : ℤ
  pub has : Steps q number
  pub size : unsigned_abs number ≡ m
  pub some : 0 < m
  pub least : (y : ℤ) → Steps q y → 0 < unsigned_abs y → m ≤ unsigned_abs y

pub least_factor-is : (q : Progression) → IsLongRun q → LeastFactor q (least_factor (Many q))
unfolding least_factor
least_factor-is q l =
    let up = clipped (pos 1) (pos (2 ^ 120)) (Many q) in
    let down = clipped (neg_ℤ (pos (2 ^ 120))) (negsuc 0) (Many q) in
    let a = clipped-exactly (pos 1) (pos (2 ^ 120)) (Many q) l one high_limit in
    let b = clipped-exactly (neg_ℤ (pos (2 ^ 120))) (negsuc 0) (Many q) l low_limit minus_one in
    by_bounds up down a b (bounds_of up) (bounds_of down) (bounds_are up a.valid) (bounds_are down b.valid)
  where
    in_up : (u : Shape) → Exactly (Between (Steps q) (pos 1) (pos (2 ^ 120))) u → (y : ℤ) → Steps q y → pos 1 ≤ℤ y → Has u y
    in_up u a y h k = a.holds y (record { has = h; above = k; below = (Steps-number q y l h).greatest })

    in_down : (d : Shape) → Exactly (Between (Steps q) (neg_ℤ (pos (2 ^ 120))) (negsuc 0)) d → (y : ℤ) → Steps q y → y ≤ℤ negsuc 0 → Has d y
    in_down d b y h k = b.holds y (record { has = h; above = (Steps-number q y l h).least; below = k })

    other : (low : ℤ) (s : ℕ) → 0 < s → low ≡ pos 0 → low +ℤ pos (1 * s) ≡ pos 0 → ⊥
    other low s m e f = omega (arith, ints)

    only_zero : (u d : Shape) → Exactly (Between (Steps q) (pos 1) (pos (2 ^ 120))) u → Exactly (Between (Steps q) (neg_ℤ (pos (2 ^ 120))) (negsuc 0)) d → ((n : ℤ) → Has u n → ⊥) → ((n : ℤ) → Has d n → ⊥) → (y : ℤ) → Steps q y → y ≡ pos 0
    only_zero u d a b f g y h = by_lt_z y (pos 0)
        (λ k. absurd (g y (in_down d b y h (omega (arith, ints)))))
        (λ k. by_lt_z (pos 0) y (λ m. absurd (f y (in_up u a y h (omega (arith, ints))))) (λ m. omega (arith, ints)))

    -- a number that is not 0 is above or below it
    by_side : (u d : Shape) → Exactly (Between (Steps q) (pos 1) (pos (2 ^ 120))) u → Exactly (Between (Steps q) (neg_ℤ (pos (2 ^ 120))) (negsuc 0)) d → (m : ℕ) → ((y : ℤ) → Has u y → m ≤ unsigned_abs y) → ((y : ℤ) → Has d y → m ≤ unsigned_abs y) → (y : ℤ) → Steps q y → 0 < unsigned_abs y → m ≤ unsigned_abs y
    by_side u d a b m f g y h k = by_lt_z y (pos 0)
        (λ i. g y (in_down d b y h (omega (arith, ints))))
        (λ i. f y (in_up u a y h (omega (arith, ints))))

    first_up : (x y : ℤ) → pos 1 ≤ℤ x → x ≤ℤ y → unsigned_abs x ≤ unsigned_abs y
    first_up x y h k = omega (arith, ints)

    last_down : (x y : ℤ) → x ≤ℤ negsuc 0 → y ≤ℤ x → unsigned_abs x ≤ unsigned_abs y
    last_down x y h k = omega (arith, ints)

    up_some : (n : ℤ) → pos 1 ≤ℤ n → 0 < unsigned_abs n
    up_some n h = omega (arith, ints)

    down_some : (n : ℤ) → n ≤ℤ negsuc 0 → 0 < unsigned_abs n
    down_some n h = omega (arith, ints)

    by_bounds : (u d : Shape) → Exactly (Between (Steps q) (pos 1) (pos (2 ^ 120))) u → Exactly (Between (Steps q) (neg_ℤ (pos (2 ^ 120))) (negsuc 0)) d → (a b : Option (ℤ × ℤ)) → BoundsAre u a → BoundsAre d b → LeastFactor q (nearest a b)
    by_bounds u d x y None None h k =
        absurd (other q.low q.stride l.moves (only_zero u d x y h k q.low (Steps-low q l)) (only_zero u d x y h k (q.low +ℤ pos (1 * q.stride)) (at_first q l 1 (omega arith))))
    by_bounds u d x y None (Some b) h k =
        let p = y.only b.1 k.last in
        record { number = b.1; has = p.has; size = refl; some = down_some b.1 p.below; least = by_side u d x y (unsigned_abs b.1) (λ z i. absurd (h z i)) (λ z i. last_down b.1 z p.below (k.below z i)) }
    by_bounds u d x y (Some a) None h k =
        let p = x.only a.0 h.first in
        record { number = a.0; has = p.has; size = refl; some = up_some a.0 p.above; least = by_side u d x y (unsigned_abs a.0) (λ z i. first_up a.0 z p.above (h.above z i)) (λ z i. absurd (k z i)) }
    by_bounds u d x y (Some a) (Some b) h k =
        let p = x.only a.0 h.first in
        let r = y.only b.1 k.last in
        let least = by_side u d x y (min (unsigned_abs a.0) (unsigned_abs b.1)) (λ z i. let f = first_up a.0 z p.above (h.above z i) in omega arith) (λ z i. let f = last_down b.1 z r.below (k.below z i) in omega arith) in
        let f = up_some a.0 p.above in let g = down_some b.1 r.below in
        elim (cases_lt (unsigned_abs b.1) (unsigned_abs a.0)) [
          | inl i ↦ record { number = b.1; has = r.has; size = omega arith; some = omega arith; least = least }
          | inr i ↦ record { number = a.0; has = p.has; size = omega arith; some = omega arith; least = least }
        ]

-- ---- lines

unsome : (r s : Shape) → Some r ≡ Some s → r ≡ s
unsome r s e = cc

listed_lines : (width : ℕ) (R : ℤ → Type 0) (all : Shape) (q : Progression) (u : Shape) (ys : List ℤ) → IsWidth width → IsLongRun q → Lists ys u → Typed true width (Has u) → Fits R all → Fits (λ n. R n ⊎ InType true width (Product (Steps q) (Has u)) n) (lines_onto true width all q ys)
listed_lines width R all q u ys w l k t f =
    Fits-same (λ n. R n ⊎ InType true width (Product (Steps q) (Among ys)) n) (λ n. R n ⊎ InType true width (Product (Steps q) (Has u)) n) (lines_onto true width all q ys)
    (λ n h. elim h [ inl r ↦ inl r | inr m ↦ inr (record { whole = m.whole; has = record { left = m.has.left; right = m.has.right; has_left = m.has.has_left; has_right = k.onto m.has.right m.has.has_right; is = m.has.is }; is = m.is }) ])
    (λ n h. elim h [ inl r ↦ inl r | inr m ↦ inr (record { whole = m.whole; has = record { left = m.has.left; right = m.has.right; has_left = m.has.has_left; has_right = k.back m.has.right m.has.has_right; is = m.has.is }; is = m.is }) ])
    (lines_onto-fits true width R all q ys w l (record { fits = λ y m. t.fits y (k.onto y m) }) f)

set_lines-fits : (width : ℕ) (R : ℤ → Type 0) (all r : Shape) (q : Progression) (u : Shape) → IsWidth width → IsLongRun q → IsValid u → Typed true width (Has u) → Fits R all → set_lines true width all q u ≡ Some r → Fits (λ n. R n ⊎ InType true width (Product (Steps q) (Has u)) n) r
unfolding set_lines
set_lines-fits width R all r q (Few v) w l v' t f e = subst (Fits (λ n. R n ⊎ InType true width (Product (Steps q) (Among v.items)) n)) (unsome (lines_onto true width all q v.items) r e) (listed_lines width R all q (Few v) v.items w l (record { onto = λ y m. m; back = λ y m. m }) t f)
set_lines-fits width R all r q (Many p) w l v t f e = by_test (nat_lt (apart p.low p.high / p.stride) 64) e
  where
    by_test : (b : Bool) → cond b (Some (lines_onto true width all q (steps_from p.low p.stride (apart p.low p.high / p.stride + 1)))) None ≡ Some r → Fits (λ n. R n ⊎ InType true width (Product (Steps q) (Steps p)) n) r
    by_test true e = subst (Fits (λ n. R n ⊎ InType true width (Product (Steps q) (Steps p)) n)) (unsome (lines_onto true width all q (steps_from p.low p.stride (apart p.low p.high / p.stride + 1))) r e) (listed_lines width R all q (Many p) (steps_from p.low p.stride (apart p.low p.high / p.stride + 1)) w l (run_lists p v) t f)
    by_test false e = cc

-- more than 64 numbers
record Lot (u : Shape) : Type 0 where
  run : Progression
  is : u ≡ Many run
  long : IsLongRun run
  more : 64 ≤ apart run.low run.high / run.stride

lot_is : (width : ℕ) (all : Shape) (q : Progression) (u : Shape) → IsValid u → set_lines true width all q u ≡ None → Lot u
unfolding set_lines
lot_is width all q (Few v) v' e = cc
lot_is width all q (Many p) v e = record { run = p; is = refl; long = v; more = by_test (nat_lt (apart p.low p.high / p.stride) 64) (λ f. ltb-false (apart p.low p.high / p.stride) 64 f) e }
  where
    by_test : (b : Bool) → (b ≡ false → 64 ≤ apart p.low p.high / p.stride) → cond b (Some (lines_onto true width all q (steps_from p.low p.stride (apart p.low p.high / p.stride + 1)))) None ≡ None → 64 ≤ apart p.low p.high / p.stride
    by_test true f e = cc
    by_test false f e = f refl

-- ---- near and far numbers

product_apart : (x z y : ℤ) → x <ℤ z → 0 < unsigned_abs y → x *ℤ y ≡ z *ℤ y → ⊥
product_apart x z (pos zero) l h e = omega arith
product_apart x z (pos (suc k)) l h e = let a = scaled_order (x +ℤ pos 1) z (suc k) (omega (arith, ints)) in let b = one_more x (suc k) in omega (arith, ints)
product_apart x z (negsuc k) l h e =
    let a = scaled_order (x +ℤ pos 1) z (suc k) (omega (arith, ints)) in let b = one_more x (suc k) in
    let c : x *ℤ negsuc k ≡ neg_ℤ (x *ℤ pos (suc k)) = mul-neg x (pos (suc k)) in
    let d : z *ℤ negsuc k ≡ neg_ℤ (z *ℤ pos (suc k)) = mul-neg z (pos (suc k)) in
    omega (arith, ints)

-- a product in a signed type is at most 2 to the other bits away from 0
defined_size : (width : ℕ) (z n : ℤ) → arithmetic true width z ≡ Ok n → unsigned_abs z ≤ 2 ^ (width - 1)
defined_size width z n e = let r = signed_result width z n e in let a = r.1.above in let b = r.1.below in let p = pow_pos (width - 1) in omega (arith, ints)

-- so a factor of one is near 0
near_factor : (width m : ℕ) (x y n : ℤ) → 0 < m → m ≤ unsigned_abs y → arithmetic true width (x *ℤ y) ≡ Ok n → unsigned_abs x ≤ 2 ^ (width - 1) / m
near_factor width m x y n h k e =
    let a = defined_size width (x *ℤ y) n e in
    let b = unsigned_abs-mul x y in
    let c = mul-le (unsigned_abs x) m (unsigned_abs x) (unsigned_abs y) (omega arith) k in
    le-div (unsigned_abs x) (2 ^ (width - 1)) m h (omega (arith, a, b, c))

-- and a factor that is nearer has a product
nearer_product : (width m : ℕ) (x y : ℤ) → 0 < m → unsigned_abs y ≡ m → unsigned_abs x + 1 ≤ 2 ^ (width - 1) / m → arithmetic true width (x *ℤ y) ≡ Ok (x *ℤ y)
nearer_product width m x y h e k =
    let p = pow_pos (width - 1) in
    let a = mul-le (unsigned_abs x + 1) m (2 ^ (width - 1) / m) m k (omega arith) in
    let b = div-mul-le_self (2 ^ (width - 1)) m in
    let c : (unsigned_abs x + 1) * m ≡ unsigned_abs x * m + m = omega arith in
    let d = unsigned_abs-mul x y in
    let f : unsigned_abs x * unsigned_abs y ≡ unsigned_abs x * m = ap (λ k. unsigned_abs x * k) e in
    let g : unsigned_abs (x *ℤ y) + 1 ≤ 2 ^ (width - 1) = omega (arith, a, b, c, d, f) in
    result_signed width (x *ℤ y) (omega (arith, ints)) (omega (arith, ints))

-- ---- two runs

abbrev far : ℕ → Progression → ℕ
far width q = 2 ^ (width - 1) / least_factor (Many q)

abbrev near_set : ℕ → Progression → Progression → Shape
near_set width p q = clipped (neg_ℤ (pos (far width q))) (pos (far width q)) (Many p)

far_number : (width : ℕ) (q : Progression) → IsWidth width → far width q ≤ 2 ^ 64
far_number width q w = let a = powers (width - 1) (let r = w.room in omega arith) in let b = div-le_self (2 ^ (width - 1)) (least_factor (Many q)) in omega arith

near_exactly : (width : ℕ) (p q : Progression) → IsWidth width → IsLongRun p → Exactly (Between (Steps p) (neg_ℤ (pos (far width q))) (pos (far width q))) (near_set width p q)
near_exactly width p q w l =
    let k = far_number width q w in
    clipped-exactly (neg_ℤ (pos (far width q))) (pos (far width q)) (Many p) l (record { least = omega (arith, ints); greatest = omega (arith, ints) }) (record { least = omega (arith, ints); greatest = omega (arith, ints) })

-- a product with 0
record WithZero (t : Shape) (n : ℤ) : Type 0 where
  has : Has t (pos 0)
  same : n ≡ pos 0

zero_fits : (t : Shape) → Fits (WithZero t) (zero_products t)
zero_fits t = by_test (holds_number t (pos 0)) (λ e. number_held t (pos 0) e) (λ h. held_number t (pos 0) h)
  where
    by_test : (b : Bool) → (b ≡ true → Has t (pos 0)) → (Has t (pos 0) → b ≡ true) → Fits (WithZero t) (cond b (Few (record { items = pos 0 ∷ [] })) none)
    by_test true f g =
        Makes-fits (WithZero t) (Few (record { items = pos 0 ∷ [] })) (Exactly-makes (WithZero t) (Few (record { items = pos 0 ∷ [] })) (record {
          valid = record { small = omega arith; ascending = (tt, tt); numbers = (record { least = omega (arith, ints); greatest = omega (arith, ints) }, tt) };
          holds = λ n h. inl h.same;
          only = λ n h. elim h [ inl e ↦ record { has = f refl; same = e } | inr e ↦ absurd e ];
        }))
    by_test false f g =
        Makes-fits (WithZero t) none (Exactly-makes (WithZero t) none (record { valid = none-exactly.valid; holds = λ n h. absurd (clash (g h.has)); only = λ n h. absurd h }))
      where
        clash : false ≡ true → ⊥
        clash e = cc

zero_product : (width : ℕ) → arithmetic true width (pos 0) ≡ Ok (pos 0)
zero_product width = let p = pow_pos (width - 1) in result_signed width (pos 0) (omega (arith, ints)) (omega (arith, ints))

near_fits : (width : ℕ) (p q : Progression) (r : Shape) → IsWidth width → Word true width (Many p) → Word true width (Many q) → set_lines true width (zero_products (Many q)) q (near_set width p q) ≡ Some r → Fits (InType true width (Product (Steps p) (Steps q))) r
near_fits width p q r w a b e =
    let near = near_set width p q in
    let c = near_exactly width p q w a.valid in
    let f = least_factor-is q b.valid in
    Fits-same (λ n. WithZero (Many q) n ⊎ InType true width (Product (Steps q) (Has near)) n) (InType true width (Product (Steps p) (Steps q))) r
    (λ n h. elim h [
      | inl z ↦ record { whole = p.low *ℤ pos 0; has = record { left = p.low; right = pos 0; has_left = Steps-low p a.valid; has_right = z.has; is = refl }; is = ap (arithmetic true width) (*ℤ-zero p.low) ∙ zero_product width ∙ ap Ok (sym z.same) }
      | inr m ↦ record { whole = m.whole; has = record { left = m.has.right; right = m.has.left; has_left = (c.only m.has.right m.has.has_right).has; has_right = m.has.has_left; is = m.has.is ∙ *ℤ_comm m.has.left m.has.right }; is = m.is }
    ])
    (λ n m. back near c f n m m.has.right refl)
    (set_lines-fits width (WithZero (Many q)) (zero_products (Many q)) r q near w b.valid c.valid (record { fits = λ y h. a.typed.fits y (c.only y h).has }) (zero_fits (Many q)) e)
  where
    near_ends : (x : ℤ) (k : ℕ) → unsigned_abs x ≤ k → (neg_ℤ (pos k) ≤ℤ x) × (x ≤ℤ pos k)
    near_ends x k h = (omega (arith, ints), omega (arith, ints))

    other : (near : Shape) → Exactly (Between (Steps p) (neg_ℤ (pos (far width q))) (pos (far width q))) near → LeastFactor q (least_factor (Many q)) → (n : ℤ) (m : InType true width (Product (Steps p) (Steps q)) n) → 0 < unsigned_abs m.has.right → InType true width (Product (Steps q) (Has near)) n
    other near c f n m s =
        let k = near_ends m.has.left (far width q) (near_factor width (least_factor (Many q)) m.has.left m.has.right n f.some (f.least m.has.right m.has.has_right s) (ap (arithmetic true width) (sym m.has.is) ∙ m.is)) in
        record { whole = m.whole; has = record { left = m.has.right; right = m.has.left; has_left = m.has.has_right; has_right = c.holds m.has.left (record { has = m.has.has_left; above = k.0; below = k.1 }); is = m.has.is ∙ *ℤ_comm m.has.left m.has.right }; is = m.is }

    back : (near : Shape) → Exactly (Between (Steps p) (neg_ℤ (pos (far width q))) (pos (far width q))) near → LeastFactor q (least_factor (Many q)) → (n : ℤ) (m : InType true width (Product (Steps p) (Steps q)) n) (y : ℤ) → m.has.right ≡ y →
        WithZero (Many q) n ⊎ InType true width (Product (Steps q) (Has near)) n
    back near c f n m (pos zero) e =
        inl (record { has = subst (Steps q) e m.has.has_right; same = sym (unok (pos 0) n (sym (zero_product width) ∙ ap (arithmetic true width) (sym (m.has.is ∙ ap (λ z. m.has.left *ℤ z) e ∙ *ℤ-zero m.has.left)) ∙ m.is)) })
    back near c f n m (pos (suc k)) e = inr (other near c f n m (subst (λ z. 0 < unsigned_abs z) (sym e) (omega arith)))
    back near c f n m (negsuc k) e = inr (other near c f n m (subst (λ z. 0 < unsigned_abs z) (sym e) (omega arith)))

lot_nine : (width : ℕ) (p q : Progression) → IsWidth width → IsLongRun p → IsLongRun q → Lot (near_set width p q) → HoldsNine (InType true width (Product (Steps p) (Steps q)))
lot_nine width p q w l k u =
    let f = least_factor-is q k in
    let c = near_exactly width p q w l in
    let r = u.run in
    let hi = Steps-high r u.long in
    let e : r.high ≡ r.low +ℤ pos (apart r.low r.high) = apart_is r.low r.high hi.above in
    let d : apart r.low r.high / r.stride * r.stride ≡ apart r.low r.high = div-mul_cancel r.stride hi.meets in
    let onto : (x : ℤ) → Steps r x → Between (Steps p) (neg_ℤ (pos (far width q))) (pos (far width q)) x = λ x h. c.only x (subst (λ s. Has s x) (sym u.is) h) in
    let a = onto r.low (Steps-low r u.long) in
    let b = onto r.high hi in
    nine_values (InType true width (Product (Steps p) (Steps q))) (λ i. (r.low +ℤ pos (suc i * r.stride)) *ℤ f.number)
    (λ i j h m g. product_apart (r.low +ℤ pos (suc i * r.stride)) (r.low +ℤ pos (suc j * r.stride)) f.number (rises r.low i j r.stride u.long.moves h) (subst (λ z. 0 < z) (sym f.size) f.some) (sym g))
    (λ i h.
    let s = inside r.low r.high (suc i) (apart r.low r.high / r.stride) r.stride (apart r.low r.high) (far width q) u.long.moves d e a.above b.below (omega arith) (let m = u.more in omega arith) in
    let x = r.low +ℤ pos (suc i * r.stride) in
    record {
      whole = x *ℤ f.number;
      has = record { left = x; right = f.number; has_left = (onto x (Steps-from_at r (suc i) x refl s.1)).has; has_right = f.has; is = refl };
      is = nearer_product width (least_factor (Many q)) x f.number f.some f.size s.0;
    })
  where
    rises : (low : ℤ) (i j s : ℕ) → 0 < s → suc i ≤ j → (low +ℤ pos (suc i * s)) <ℤ (low +ℤ pos (suc j * s))
    rises low i j s m h = let d : suc (suc i) * s ≤ suc j * s = mul-le (suc (suc i)) s (suc j) s (omega arith) (omega arith) in omega (arith, ints)

    inside : (low high : ℤ) (k more s d m : ℕ) → 0 < s → more * s ≡ d → high ≡ low +ℤ pos d → neg_ℤ (pos m) ≤ℤ low → high ≤ℤ pos m → 0 < k → suc k ≤ more → (unsigned_abs (low +ℤ pos (k * s)) + 1 ≤ m) × ((low +ℤ pos (k * s)) ≤ℤ high)
    inside low high k more s d m h e f a b i j =
        let x : suc k * s ≤ more * s = mul-le (suc k) s more s j (omega arith) in
        let y : 1 * s ≤ k * s = mul-le 1 s k s i (omega arith) in
        (omega (arith, ints), omega (arith, ints))

pub runs_fit : (width : ℕ) (p q : Progression) → IsWidth width → Word true width (Many p) → Word true width (Many q) → Fits (InType true width (Product (Steps p) (Steps q))) (runs_multiplied true width p q)
unfolding runs_multiplied near_products
runs_fit width p q w a b = by_tries (set_lines true width (zero_products (Many q)) q (near_set width p q)) refl
  where
    by_tries : (o : Option Shape) → set_lines true width (zero_products (Many q)) q (near_set width p q) ≡ o → Fits (InType true width (Product (Steps p) (Steps q))) (or_else o (product_hull true width (Many p) (Many q)))
    by_tries (Some r) e = near_fits width p q r w a b e
    by_tries None e =
        let c = product_spread true width (Many p) (Many q) w a b in
        Fits-nine (InType true width (Product (Steps p) (Steps q))) (product_hull true width (Many p) (Many q)) c.valid c.holds
        (lot_nine width p q w a.valid b.valid (lot_is width (zero_products (Many q)) q (near_set width p q) (near_exactly width p q w a.valid).valid e))

wrapped_fit : (width : ℕ) (p q : Progression) → IsWidth width → Word false width (Many p) → Word false width (Many q) → Fits (InType false width (Product (Steps p) (Steps q))) (runs_multiplied false width p q)
unfolding runs_multiplied
wrapped_fit width p q w a b = by_test (all_repeat (2 ^ width) p q) refl
  where
    by_test : (t : Bool) → all_repeat (2 ^ width) p q ≡ t → Fits (InType false width (Product (Steps p) (Steps q))) (cond t (gathered (rows Mul false width (firsts p) (firsts q))) (product_hull false width (Many p) (Many q)))
    by_test true e = wrapped_fits width p q w a b e
    by_test false e =
        let c = product_spread false width (Many p) (Many q) w a b in
        Fits-nine (InType false width (Product (Steps p) (Steps q))) (product_hull false width (Many p) (Many q)) c.valid c.holds (wrapped_nine width p q a b e)

pub all_fit : (signed : Bool) (width : ℕ) (p q : Progression) → IsWidth width → Word signed width (Many p) → Word signed width (Many q) → Fits (InType signed width (Product (Steps p) (Steps q))) (runs_multiplied signed width p q)
all_fit true width p q w a b = runs_fit width p q w a b
all_fit false width p q w a b = wrapped_fit width p q w a b

pub runs_cover : (signed : Bool) (width : ℕ) (p q : Progression) → IsWidth width → Word signed width (Many p) → Word signed width (Many q) → Covers (InType signed width (Product (Steps p) (Steps q))) (runs_multiplied signed width p q)
unfolding runs_multiplied
runs_cover true width p q w a b = let f = runs_fit width p q w a b in record { valid = f.valid; holds = f.holds }
runs_cover false width p q w a b = let f = wrapped_fit width p q w a b in record { valid = f.valid; holds = f.holds }
