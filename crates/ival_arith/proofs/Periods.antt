-- Products of two runs modulo a power of 2: they repeat themselves after 8 steps of either run, or they are more than 8.
use Rattle.std.proofs.Common.{◌≡◌, ◌⊎◌, ℕ, zero, suc, ◌+◌, ◌-◌, ◌*◌, ◌/◌, ◌%◌, ◌<◌, ◌≤◌, ◌^◌, ◌==◌, Bool, true, false, ℤ, pos, negsuc, ◌+ℤ◌, Ok, refl, sym, subst, ap, ◌∙◌, inl, inr, arith}
use Rattle.std.specs.Prelude.{◌*ℤ◌, ◌&&◌, unsigned_abs}
use Rattle.std.proofs.lemmas.Int.{ints}
use Rattle.std.proofs.lemmas.Bool.{cases_lt, eqb-true}
use Rattle.std.proofs.Common.{eq-eqb}
use Rattle.std.proofs.lemmas.Nat.{pow_pos, div-add-mod', mod_below, mul-le}
use Rattle.std.proofs.Math.Nat.{pow-suc, add-mul-mod_self_right, mul-mod_left}
use lib.Signed.{◌≤ℤ◌}
use Rattle.c_base.specs.declared.operators.BinOp.TheVariants.{Mul}
use Rattle.c_base.specs.Operators.{operated, arithmetic}
use Rattle.ival_core.specs.declared.value.Progression.{Progression}
use Rattle.ival_core.specs.declared.value.Shape.TheVariants.{Many}
use Rattle.ival_core.specs.Sets.{Among, Steps, HoldsNine}
use Rattle.ival_core.proofs.Joined.{HoldsNine-map}
use Rattle.ival_core.proofs.Runs.{Steps-low, Steps-second, steps_from-among}
use Rattle.ival_arith.specs.Pieces.{gathered}
use Rattle.ival_arith.specs.Sums.{firsts}
use Rattle.ival_arith.specs.Values.{rows, repeats, all_repeat}
use Rattle.ival_arith.proofs.Adding.{at_first, firsts-steps}
use Rattle.ival_arith.proofs.Distinct.{nine_values}
use Rattle.ival_arith.proofs.Fits.{Fits, Fits-same, Makes-fits}
use Rattle.ival_arith.proofs.Making.{Made, IsWidth, rows-makes, unsigned_result}
use Rattle.ival_arith.proofs.Parts.{at_place}
use Rattle.ival_arith.proofs.Spreading.{Product, product_turned, Word}
use Rattle.ival_arith.proofs.Wrapping.{InType}

-- ---- multiples of powers of 2

-- an odd factor makes no multiple of a power of 2
odd_cancel : (w e g k : ℕ) → (2 * e + 1) * g ≡ k * 2 ^ w → (c : ℕ) × (g ≡ c * 2 ^ w)
odd_cancel zero e g k h = (g, omega arith)
odd_cancel (suc w) e g k h =
    let p : 2 ^ suc w ≡ 2 * 2 ^ w = omega (arith, pow-suc 2 w) in
    let m = k * 2 ^ w in
    let a : k * 2 ^ suc w ≡ k * (2 * 2 ^ w) = ap (λ z. k * z) p in
    let b : (2 * e + 1) * g ≡ 2 * m = omega (arith, h, a) in
    let d : e * g ≤ m = omega (arith, b) in
    let f : g ≡ 2 * (m - e * g) = omega (arith, b, d) in
    let i : (2 * e + 1) * (m - e * g) ≡ m = half e (m - e * g) g m b f in
    let r = odd_cancel w e (m - e * g) k i in
    (r.0, f ∙ ap (λ z. 2 * z) r.1 ∙ turn r.0 (2 ^ w) ∙ ap (λ z. r.0 * z) (sym p))
  where
    half : (e h g m : ℕ) → (2 * e + 1) * g ≡ 2 * m → g ≡ 2 * h → (2 * e + 1) * h ≡ m
    half e h g m b f = let x : (2 * e + 1) * g ≡ (2 * e + 1) * (2 * h) = ap (λ z. (2 * e + 1) * z) f in omega (arith, b, x)

    turn : (c m : ℕ) → 2 * (c * m) ≡ c * (2 * m)
    turn c m = omega arith

-- at most 8 times a number is such a multiple only if 8 times it is
eight_times : (d g k w : ℕ) → 0 < d → d ≤ 8 → d * g ≡ k * 2 ^ w → (c : ℕ) × (8 * g ≡ c * 2 ^ w)
eight_times zero g k w h l e = absurd (omega arith)
eight_times (suc zero) g k w h l e = (8 * k, omega (arith, e))
eight_times (suc (suc zero)) g k w h l e = (4 * k, omega (arith, e))
eight_times (suc (suc (suc zero))) g k w h l e = let r = odd_cancel w 1 g k (omega (arith, e)) in (8 * r.0, omega (arith, r.1))
eight_times (suc (suc (suc (suc zero)))) g k w h l e = (2 * k, omega (arith, e))
eight_times (suc (suc (suc (suc (suc zero))))) g k w h l e = let r = odd_cancel w 2 g k (omega (arith, e)) in (8 * r.0, omega (arith, r.1))
eight_times (suc (suc (suc (suc (suc (suc zero)))))) g k w h l e = let r = odd_cancel w 1 (2 * g) k (omega (arith, e)) in (4 * r.0, omega (arith, r.1))
eight_times (suc (suc (suc (suc (suc (suc (suc zero))))))) g k w h l e = let r = odd_cancel w 3 g k (omega (arith, e)) in (8 * r.0, omega (arith, r.1))
eight_times (suc (suc (suc (suc (suc (suc (suc (suc zero)))))))) g k w h l e = (k, omega (arith, e))
eight_times (suc (suc (suc (suc (suc (suc (suc (suc (suc d))))))))) g k w h l e = absurd (omega arith)

-- numbers with one residue differ by a multiple
multiple_of : (u v m : ℕ) → 0 < m → u ≤ v → u % m ≡ v % m → (k : ℕ) × (v ≡ u + k * m)
multiple_of u v m h l e =
    let a = div-add-mod' u m in let b = div-add-mod' v m in let c = mod_below u m h in let d = mod_below v m h in
    elim (cases_lt (v / m) (u / m)) [
      | inl i ↦ let x : suc (v / m) * m ≤ u / m * m = mul-le (suc (v / m)) m (u / m) m i (omega arith) in absurd (omega arith)
      | inr i ↦
          let f : v / m ≡ u / m + (v / m - u / m) = omega arith in
          let g : v / m * m ≡ (u / m + (v / m - u / m)) * m = ap (λ z. z * m) f in
          let k : (u / m + (v / m - u / m)) * m ≡ u / m * m + (v / m - u / m) * m = spread (u / m) (v / m - u / m) m in
          (v / m - u / m, omega arith)
    ]
  where
    spread : (a b m : ℕ) → (a + b) * m ≡ a * m + b * m
    spread a b m = omega arith

no_multiple : (n m : ℕ) → 0 < m → n % m == 0 ≡ false → (c : ℕ) → n ≡ c * m → ⊥
no_multiple n m h e c f = clash (sym e ∙ eq-eqb (n % m) 0 (ap (λ z. z % m) f ∙ mul-mod_left c m))
  where
    clash : false ≡ true → ⊥
    clash e = cc

a_multiple : (n m : ℕ) → 0 < m → n % m == 0 ≡ true → (c : ℕ) × (n ≡ c * m)
a_multiple n m h e = let f = eqb-true (n % m) 0 e in let d = div-add-mod' n m in (n / m, omega (arith, f, d))

-- ---- products that repeat themselves

-- 8 steps of either run make no difference modulo m
record Repeats (m x y s t : ℕ) : Type 0 where
  left : ℕ
  left_is : 8 * s * y ≡ left * m
  both : ℕ
  both_is : 8 * s * t ≡ both * m
  right : ℕ
  right_is : 8 * t * x ≡ right * m

same_product : (m x y s t a b i j : ℕ) → Repeats m x y s t → ((x + (a * 8 + i) * s) * (y + (b * 8 + j) * t)) % m ≡ ((x + i * s) * (y + j * t)) % m
same_product m x y s t a b i j r =
    ap (λ z. z % m) (expand x y s t a b i j ∙ ap (λ z. (x + i * s) * (y + j * t) + z) (collected m x y s t a b i j r)) ∙ add-mul-mod_self_right ((x + i * s) * (y + j * t)) (a * r.left + (a * j) * r.both + (b * r.right + (b * i) * r.both + (8 * a * b) * r.both)) m
  where
    expand : (x y s t a b i j : ℕ) → (x + (a * 8 + i) * s) * (y + (b * 8 + j) * t) ≡ (x + i * s) * (y + j * t) + (a * (8 * s * y) + (a * j) * (8 * s * t) + (b * (8 * t * x) + (b * i) * (8 * s * t) + (8 * a * b) * (8 * s * t)))
    expand x y s t a b i j = omega arith

    gather : (a l c o b r i h m : ℕ) → a * (l * m) + c * (o * m) + (b * (r * m) + i * (o * m) + h * (o * m)) ≡ (a * l + c * o + (b * r + i * o + h * o)) * m
    gather a l c o b r i h m = omega arith

    collected : (m x y s t a b i j : ℕ) (r : Repeats m x y s t) → a * (8 * s * y) + (a * j) * (8 * s * t) + (b * (8 * t * x) + (b * i) * (8 * s * t) + (8 * a * b) * (8 * s * t)) ≡ (a * r.left + (a * j) * r.both + (b * r.right + (b * i) * r.both + (8 * a * b) * r.both)) * m
    collected m x y s t a b i j r =
        ap (λ z. a * z + (a * j) * (8 * s * t) + (b * (8 * t * x) + (b * i) * (8 * s * t) + (8 * a * b) * (8 * s * t))) r.left_is
        ∙ ap (λ z. a * (r.left * m) + (a * j) * z + (b * (8 * t * x) + (b * i) * z + (8 * a * b) * z)) r.both_is
        ∙ ap (λ z. a * (r.left * m) + (a * j) * (r.both * m) + (b * z + (b * i) * (r.both * m) + (8 * a * b) * (r.both * m))) r.right_is
        ∙ gather a r.left (a * j) r.both b r.right (b * i) (8 * a * b) m

both_true : (x y : Bool) → (x && y) ≡ true → (x ≡ true) × (y ≡ true)
both_true true y e = (refl, e)
both_true false y e = cc

repeats_are : (m : ℕ) (p q : Progression) → 0 < m → all_repeat m p q ≡ true → Repeats m (unsigned_abs p.low) (unsigned_abs q.low) p.stride q.stride
repeats_are m p q h e =
    let u = both_true (repeats m p.stride (unsigned_abs q.low) && repeats m p.stride (unsigned_abs q.low + q.stride)) (repeats m q.stride (unsigned_abs p.low) && repeats m q.stride (unsigned_abs p.low + p.stride)) e in
    let v = both_true (repeats m p.stride (unsigned_abs q.low)) (repeats m p.stride (unsigned_abs q.low + q.stride)) u.0 in
    let w = both_true (repeats m q.stride (unsigned_abs p.low)) (repeats m q.stride (unsigned_abs p.low + p.stride)) u.1 in
    let a = a_multiple (8 * p.stride * unsigned_abs q.low) m h v.0 in
    let b = a_multiple (8 * p.stride * (unsigned_abs q.low + q.stride)) m h v.1 in
    let c = a_multiple (8 * q.stride * unsigned_abs p.low) m h w.0 in
    let d = between p.stride (unsigned_abs q.low) q.stride m a.0 b.0 h a.1 b.1 in
    record { left = a.0; left_is = a.1; both = b.0 - a.0; both_is = d; right = c.0; right_is = c.1 }
  where
    between : (s y t m k l : ℕ) → 0 < m → 8 * s * y ≡ k * m → 8 * s * (y + t) ≡ l * m → 8 * s * t ≡ (l - k) * m
    between s y t m k l h e f =
        let g : k * m ≤ l * m = omega (arith, e, f) in
        elim (cases_lt l k) [
          | inl i ↦ let x : suc l * m ≤ k * m = mul-le (suc l) m k m i (omega arith) in absurd (omega arith)
          | inr i ↦
              let x : l ≡ k + (l - k) = omega arith in
              let y' : l * m ≡ (k + (l - k)) * m = ap (λ z. z * m) x in
              let z' : (k + (l - k)) * m ≡ k * m + (l - k) * m = spread k (l - k) m in
              omega (arith, e, f, y', z')
        ]
      where
        spread : (a b m : ℕ) → (a + b) * m ≡ a * m + b * m
        spread a b m = omega arith

-- ---- runs of numbers that are not negative

natural_low : (width : ℕ) (p : Progression) → Word false width (Many p) → p.low ≡ pos (unsigned_abs p.low)
natural_low width p w = by_sign p.low ((w.typed.fits p.low (Steps-low p w.valid)).least)
  where
    by_sign : (z : ℤ) → pos 0 ≤ℤ z → z ≡ pos (unsigned_abs z)
    by_sign (pos n) h = refl
    by_sign (negsuc n) h = absurd (omega (arith, ints))

-- a number of a run, by its place
placed : (width : ℕ) (p : Progression) → Word false width (Many p) → (n : ℤ) → Steps p n → (k : ℕ) × (n ≡ pos (unsigned_abs p.low + k * p.stride))
placed width p w n h =
    let q = at_place p n h in
    (q.0, q.1 ∙ ap (λ z. z +ℤ pos (q.0 * p.stride)) (natural_low width p w))

-- the product of the first 8 numbers with the same place modulo 8 has the same residue
first_of : (width : ℕ) (p : Progression) → Word false width (Many p) → (i : ℕ) → i < 8 → Among (firsts p) (pos (unsigned_abs p.low + i * p.stride))
first_of width p w i h = steps_from-among p.low p.stride 8 i (pos (unsigned_abs p.low + i * p.stride)) h (ap (λ z. z +ℤ pos (i * p.stride)) (sym (natural_low width p w)))

mul_result : (width x y : ℕ) → operated Mul false width (pos x) (pos y) ≡ Ok (pos ((x * y) % 2 ^ width))
mul_result width x y = unsigned_result width (pos x *ℤ pos y)

repeated_fits : (width : ℕ) (p q : Progression) → IsWidth width → Word false width (Many p) → Word false width (Many q) → Repeats (2 ^ width) (unsigned_abs p.low) (unsigned_abs q.low) p.stride q.stride →
    Fits (InType false width (Product (Steps p) (Steps q))) (gathered (rows Mul false width (firsts p) (firsts q)))
repeated_fits width p q w a b r =
    Fits-same (Made Mul false width (Among (firsts p)) (Among (firsts q))) (InType false width (Product (Steps p) (Steps q))) (gathered (rows Mul false width (firsts p) (firsts q)))
    (λ n m. record { whole = m.left *ℤ m.right; has = record { left = m.left; right = m.right; has_left = firsts-steps p a.valid m.left m.has_left; has_right = firsts-steps q b.valid m.right m.has_right; is = refl }; is = m.is })
    (λ n m.
    let x = placed width p a m.has.left m.has.has_left in
    let y = placed width q b m.has.right m.has.has_right in
    let i = x.0 % 8 in let j = y.0 % 8 in
    let px = unsigned_abs p.low in let py = unsigned_abs q.low in
    let dx : x.0 ≡ x.0 / 8 * 8 + x.0 % 8 = sym (div-add-mod' x.0 8) in
    let dy : y.0 ≡ y.0 / 8 * 8 + y.0 % 8 = sym (div-add-mod' y.0 8) in
    let e : ((px + x.0 * p.stride) * (py + y.0 * q.stride)) % 2 ^ width ≡ ((px + i * p.stride) * (py + j * q.stride)) % 2 ^ width =
    ap (λ z. ((px + z * p.stride) * (py + y.0 * q.stride)) % 2 ^ width) dx ∙ ap (λ z. ((px + (x.0 / 8 * 8 + x.0 % 8) * p.stride) * (py + z * q.stride)) % 2 ^ width) dy ∙ same_product (2 ^ width) px py p.stride q.stride (x.0 / 8) (y.0 / 8) i j r in
    record {
      left = pos (px + i * p.stride);
      right = pos (py + j * q.stride);
      has_left = first_of width p a i (mod_below x.0 8 (omega arith));
      has_right = first_of width q b j (mod_below y.0 8 (omega arith));
      is = mul_result width (px + i * p.stride) (py + j * q.stride) ∙ ap (λ k. Ok (pos k)) (sym e) ∙ sym (mul_result width (px + x.0 * p.stride) (py + y.0 * q.stride))
          ∙ ap (λ z. arithmetic false width (z *ℤ pos (py + y.0 * q.stride))) (sym x.1) ∙ ap (λ z. arithmetic false width (m.has.left *ℤ z)) (sym y.1) ∙ ap (arithmetic false width) (sym m.has.is) ∙ m.is;
    })
    (Makes-fits (Made Mul false width (Among (firsts p)) (Among (firsts q))) (gathered (rows Mul false width (firsts p) (firsts q)))
    (rows-makes Mul false width (firsts p) (firsts q) w (record { fits = λ n m. a.typed.fits n (firsts-steps p a.valid n m) })))

-- ---- products that do not repeat themselves

-- nine products with one number
nine_with : (width : ℕ) (p q : Progression) (y : ℕ) → Word false width (Many p) → Steps q (pos y) → (8 * p.stride * y) % 2 ^ width == 0 ≡ false → HoldsNine (InType false width (Product (Steps p) (Steps q)))
nine_with width p q y a h e =
    nine_values (InType false width (Product (Steps p) (Steps q))) (λ i. pos (((px + i * p.stride) * y) % 2 ^ width))
    (λ i j l k f. other i j l k (unpos (((px + j * p.stride) * y) % 2 ^ width) (((px + i * p.stride) * y) % 2 ^ width) f))
    (λ i l. record {
      whole = pos (px + i * p.stride) *ℤ pos y;
      has = record { left = pos (px + i * p.stride); right = pos y; has_left = subst (Steps p) (ap (λ z. z +ℤ pos (i * p.stride)) (natural_low width p a)) (at_first p a.valid i l); has_right = h; is = refl };
      is = unsigned_result width (pos (px + i * p.stride) *ℤ pos y);
    })
  where
    px : ℕ
    px = unsigned_abs p.low

    unpos : (a b : ℕ) → pos a ≡ pos b → a ≡ b
    unpos a b e = cc

    steps : (x i d s y k m : ℕ) → (x + (i + d) * s) * y ≡ (x + i * s) * y + k * m → d * (s * y) ≡ k * m
    steps x i d s y k m e = omega (arith, e)

    turn : (s y : ℕ) → 8 * s * y ≡ 8 * (s * y)
    turn s y = omega arith

    other : (i j : ℕ) → suc i ≤ j → j ≤ 8 → ((unsigned_abs p.low + j * p.stride) * y) % 2 ^ width ≡ ((unsigned_abs p.low + i * p.stride) * y) % 2 ^ width → ⊥
    other i j l k f =
        let x = unsigned_abs p.low in
        let o : j ≡ i + (j - i) = omega arith in
        let n : (x + i * p.stride) * y ≤ (x + j * p.stride) * y = mul-le (x + i * p.stride) y (x + j * p.stride) y (let c : i * p.stride ≤ j * p.stride = mul-le i p.stride j p.stride (omega arith) (omega arith) in omega arith) (omega arith) in
        let r = multiple_of ((x + i * p.stride) * y) ((x + j * p.stride) * y) (2 ^ width) (pow_pos width) n (sym f) in
        let g : (x + (i + (j - i)) * p.stride) * y ≡ (x + i * p.stride) * y + r.0 * 2 ^ width = ap (λ z. (x + z * p.stride) * y) (sym o) ∙ r.1 in
        let t = eight_times (j - i) (p.stride * y) r.0 width (omega arith) (omega arith) (steps x i (j - i) p.stride y r.0 (2 ^ width) g) in
        no_multiple (8 * p.stride * y) (2 ^ width) (pow_pos width) e t.0 (turn p.stride y ∙ t.1)

turned_nine : (width : ℕ) (p q : Progression) → HoldsNine (InType false width (Product (Steps q) (Steps p))) → HoldsNine (InType false width (Product (Steps p) (Steps q)))
turned_nine width p q h = HoldsNine-map (InType false width (Product (Steps q) (Steps p))) (InType false width (Product (Steps p) (Steps q))) (λ n m. record { whole = m.whole; has = product_turned (Steps q) (Steps p) m.whole m.has; is = m.is }) h

first_number : (width : ℕ) (q : Progression) → Word false width (Many q) → Steps q (pos (unsigned_abs q.low))
first_number width q b = subst (Steps q) (natural_low width q b) (Steps-low q b.valid)

second_number : (width : ℕ) (q : Progression) → Word false width (Many q) → Steps q (pos (unsigned_abs q.low + q.stride))
second_number width q b = subst (Steps q) (ap (λ z. z +ℤ pos q.stride) (natural_low width q b)) (Steps-second q b.valid)

one_false : (x y : Bool) → (x && y) ≡ false → (x ≡ false) ⊎ (y ≡ false)
one_false false y e = inl refl
one_false true y e = inr e

not_repeated : (width : ℕ) (p q : Progression) → Word false width (Many p) → Word false width (Many q) → all_repeat (2 ^ width) p q ≡ false → HoldsNine (InType false width (Product (Steps p) (Steps q)))
not_repeated width p q a b e =
    let m = 2 ^ width in
    let px = unsigned_abs p.low in let py = unsigned_abs q.low in
    elim (one_false (repeats m p.stride py && repeats m p.stride (py + q.stride)) (repeats m q.stride px && repeats m q.stride (px + p.stride)) e) [
      | inl f ↦ elim (one_false (repeats m p.stride py) (repeats m p.stride (py + q.stride)) f) [
        | inl g ↦ nine_with width p q py a (first_number width q b) g
        | inr g ↦ nine_with width p q (py + q.stride) a (second_number width q b) g
      ]
      | inr f ↦ elim (one_false (repeats m q.stride px) (repeats m q.stride (px + p.stride)) f) [
        | inl g ↦ turned_nine width p q (nine_with width q p px b (first_number width p a) g)
        | inr g ↦ turned_nine width p q (nine_with width q p (px + p.stride) b (second_number width p a) g)
      ]
    ]

pub wrapped_fits : (width : ℕ) (p q : Progression) → IsWidth width → Word false width (Many p) → Word false width (Many q) → all_repeat (2 ^ width) p q ≡ true →
    Fits (InType false width (Product (Steps p) (Steps q))) (gathered (rows Mul false width (firsts p) (firsts q)))
wrapped_fits width p q w a b e = repeated_fits width p q w a b (repeats_are (2 ^ width) p q (pow_pos width) e)

pub wrapped_nine : (width : ℕ) (p q : Progression) → Word false width (Many p) → Word false width (Many q) → all_repeat (2 ^ width) p q ≡ false → HoldsNine (InType false width (Product (Steps p) (Steps q)))
wrapped_nine width p q a b e = not_repeated width p q a b e
