-- Which numbers the quotients of the numbers of a set are.
use Rattle.std.proofs.Common.{◌≡◌, ◌⊎◌, ℕ, zero, suc, ◌+◌, ◌-◌, ◌*◌, ◌/◌, ◌%◌, ◌<◌, ◌≤◌, ◌==◌, Bool, true, false, cond, ℤ, pos, ◌+ℤ◌, ◌-ℤ◌, List, [], ◌∷◌, map, refl, sym, subst, ap, ◌∙◌, inl, inr, arith}
use Rattle.std.specs.Prelude.{◌*ℤ◌, unsigned_abs}
use Rattle.std.specs.Int.{◌∣◌}
use Rattle.std.proofs.lemmas.Int.{ints, by_lt_z}
use Rattle.std.proofs.lemmas.Bool.{eqb-true, cases_lt}
use Rattle.std.proofs.lemmas.List.{length-map}
use Rattle.std.proofs.lemmas.Nat.{mul-le, mod_below, div-add-mod'}
use Rattle.std.proofs.lemmas.Nat.Gcd.{dvd_of_mod-eq-zero}
use Rattle.std.proofs.Math.Nat.{div-mul_cancel}
use lib.Signed.{◌<ℤ◌, ◌≤ℤ◌}
use Rattle.c_base.specs.Operators.{floor}
use Rattle.ival_core.specs.declared.value.Progression.{Progression}
use Rattle.ival_core.specs.declared.value.Shape.{Shape}
use Rattle.ival_core.specs.declared.value.Shape.TheVariants.{Few, Many}
use Rattle.ival_core.specs.Sets.{Among, IsAscending, IsLongRun, IsValid, Has, Steps, HoldsNine}
use Rattle.ival_core.proofs.Counting.{AllAbove-among}
use Rattle.ival_core.proofs.Insertion.{AllNumbers-among}
use Rattle.ival_core.proofs.Runs.{Steps-low, Steps-high, Steps-from_at}
use Rattle.ival_arith.specs.Pieces.{gathered, run}
use Rattle.ival_arith.proofs.Adding.{at_first}
use Rattle.ival_arith.proofs.Distinct.{Distinct, nine_distinct, nine_values}
use Rattle.ival_arith.proofs.Fits.{Fits, Exactly, Makes-fits}
use Rattle.ival_arith.proofs.Parts.{Image, map-among, mapped-makes, run-exactly, at_place, scaled_order}
use Rattle.ival_arith.specs.Floors.{floored}
use Rattle.ival_arith.proofs.Flooring.{floor_low, floor_high, floor_is, floor_order, floor_further, floor_number, one_more, run_floored-covers, step_some}

-- ---- nine numbers that stay different

-- f of different numbers is different
pub record Separates (f : ℤ → ℤ) : Type 0 where
  pub separates : (a b : ℤ) → f a ≡ f b → a ≡ b

distinct_map : (f : ℤ → ℤ) (xs : List ℤ) → Separates f → IsAscending xs → Distinct (map f xs)
distinct_map f [] r a = tt
distinct_map f (x ∷ xs) r a = ((λ m. let i = map-among f xs (f x) m in same x i.from (r.separates x i.from i.is) (AllAbove-among x xs a.0 i.from i.has)), distinct_map f xs r a.1)
  where
    same : (x y : ℤ) → x ≡ y → x <ℤ y → ⊥
    same x y e l = omega (arith, ints)

nine_image : (P : ℤ → Type 0) (f : ℤ → ℤ) → Separates f → HoldsNine P → HoldsNine (Image P f)
nine_image P f r h =
    nine_distinct (Image P f) (map f h.some) (length-map h.some f ∙ h.nine) (distinct_map f h.some r h.ascending)
    (λ n m. let i = map-among f h.some n m in record { from = i.from; has = h.held i.from i.has; is = i.is })

pub Fits-image : (P : ℤ → Type 0) (f : ℤ → ℤ) (u v : Shape) → Separates f → Fits P u → Exactly (Image (Has u) f) v → Fits (Image P f) v
Fits-image P f u v r a e = record {
  valid = e.valid;
  holds = λ n i. e.holds n (record { from = i.from; has = a.holds i.from i.has; is = i.is });
  sharp = elim a.sharp [
    | inl g ↦ inl (λ n h. let i = e.only n h in record { from = i.from; has = g i.from i.has; is = i.is })
    | inr h ↦ inr (nine_image P f r h)
  ];
}

-- ---- quotients

-- a run with long steps has nine quotients
far_quotients : (d : ℕ) (p : Progression) → 0 < d → d ≤ p.stride → IsLongRun p → HoldsNine (Image (Steps p) (λ n. floor n d))
far_quotients d p h l k =
    nine_values (Image (Steps p) (λ n. floor n d)) (λ i. floor (p.low +ℤ pos (i * p.stride)) d)
    (λ i j a b e. other (p.low +ℤ pos (i * p.stride)) (p.low +ℤ pos (j * p.stride)) d h (further p.low i j p.stride d a l) e)
    (λ i a. record { from = p.low +ℤ pos (i * p.stride); has = at_first p k i a; is = refl })
  where
    further : (low : ℤ) (i j s d : ℕ) → suc i ≤ j → d ≤ s → (low +ℤ pos (i * s) +ℤ pos d) ≤ℤ (low +ℤ pos (j * s))
    further low i j s d a l = let m : suc i * s ≤ j * s = mul-le (suc i) s j s a (omega arith) in omega (arith, ints)

    other : (x y : ℤ) (d : ℕ) → 0 < d → (x +ℤ pos d) ≤ℤ y → floor y d ≡ floor x d → ⊥
    other x y d h m e =
        let a = floor_low x d h in let b = floor_high y d h in
        let c : floor y d *ℤ pos d ≡ floor x d *ℤ pos d = ap (λ z. z *ℤ pos d) e in
        omega (arith, ints)

inside : (low : ℤ) (i j s : ℕ) → i ≤ j → (low +ℤ pos (i * s)) ≤ℤ (low +ℤ pos (j * s))
inside low i j s h = let e : i * s ≤ j * s = mul-le i s j s h (omega arith) in omega (arith, ints)

-- steps that d divides give all numbers of the run of quotients
even_quotient : (d : ℕ) (p : Progression) → 0 < d → d ∣ p.stride → IsLongRun p → (n : ℤ) →
    Steps (record { low = floor p.low d; high = floor p.high d; stride = p.stride / d }) n → Image (Steps p) (λ n. floor n d) n
even_quotient d p h m l n s =
    let e : p.stride ≡ p.stride / d * d = sym (div-mul_cancel d m) in
    let q = at_place (record { low = floor p.low d; high = floor p.high d; stride = p.stride / d }) n s in
    let t = at_place p p.high (Steps-high p l) in
    let f : floor p.high d ≡ floor p.low d +ℤ pos (t.0 * (p.stride / d)) = ap (λ z. floor z d) (t.1 ∙ ap (λ z. p.low +ℤ pos (t.0 * z)) e) ∙ floor_further p.low t.0 (p.stride / d) d h in
    let g : floor (p.low +ℤ pos (q.0 * p.stride)) d ≡ floor p.low d +ℤ pos (q.0 * (p.stride / d)) = ap (λ z. floor (p.low +ℤ pos (q.0 * z)) d) e ∙ floor_further p.low q.0 (p.stride / d) d h in
    let k = within (floor p.low d) q.0 t.0 (p.stride / d) (positive (p.stride / d) d p.stride (sym e) l.moves) (subst (λ z. z ≤ℤ (floor p.low d +ℤ pos (t.0 * (p.stride / d)))) q.1 (subst (λ z. n ≤ℤ z) f s.below)) in
    record {
      from = p.low +ℤ pos (q.0 * p.stride);
      has = Steps-from_at p q.0 (p.low +ℤ pos (q.0 * p.stride)) refl (subst (λ z. (p.low +ℤ pos (q.0 * p.stride)) ≤ℤ z) (sym t.1) (inside p.low q.0 t.0 p.stride k));
      is = q.1 ∙ sym g;
    }
  where
    positive : (q d s : ℕ) → q * d ≡ s → 0 < s → 0 < q
    positive zero d s e h = absurd (omega (arith, e))
    positive (suc q) d s e h = omega arith

    within : (low : ℤ) (i j s : ℕ) → 0 < s → (low +ℤ pos (i * s)) ≤ℤ (low +ℤ pos (j * s)) → i ≤ j
    within low i j s m l = elim (cases_lt j i) [
      | inl k ↦ let e : suc j * s ≤ i * s = mul-le (suc j) s i s k (omega arith) in absurd (omega (arith, ints))
      | inr k ↦ k
    ]

-- and so do short steps
short_quotient : (d : ℕ) (p : Progression) → 0 < d → p.stride < d → IsLongRun p → (n : ℤ) → floor p.low d ≤ℤ n → n ≤ℤ floor p.high d → Image (Steps p) (λ n. floor n d) n
short_quotient d p h m l n a b = by_lt_z (floor p.low d) n
    (λ k. later k)
    (λ k. record { from = p.low; has = Steps-low p l; is = omega (arith, ints) })
  where
    beyond : floor p.low d <ℤ n → p.low <ℤ (n *ℤ pos d)
    beyond k = let e = floor_high p.low d h in let f = scaled_order (floor p.low d +ℤ pos 1) n d (omega (arith, ints)) in let g = one_more (floor p.low d) d in omega (arith, ints)

    reached : (n *ℤ pos d) ≤ℤ p.high
    reached = let e = floor_low p.high d h in let f = scaled_order n (floor p.high d) d b in omega (arith, ints)

    gap : (x y : ℤ) → x <ℤ y → y ≡ x +ℤ pos (unsigned_abs (y -ℤ x))
    gap x y k = omega (arith, ints)

    -- the first step that is not below the gap
    up : (g s : ℕ) → 0 < s → (g ≤ (g + (s - 1)) / s * s) × ((g + (s - 1)) / s * s ≤ g + (s - 1))
    up g s k = let e = div-add-mod' (g + (s - 1)) s in let f = mod_below (g + (s - 1)) s k in (omega arith, omega arith)

    steps : (g k t s : ℕ) → 0 < s → k * s ≤ g + (s - 1) → g ≤ t * s → k ≤ t
    steps g k t s m i j = elim (cases_lt t k) [
      | inl c ↦ let e : suc t * s ≤ k * s = mul-le (suc t) s k s c (omega arith) in absurd (omega arith)
      | inr c ↦ c
    ]

    later : floor p.low d <ℤ n → Image (Steps p) (λ n. floor n d) n
    later k =
        let x = beyond k in
        let y = reached in
        let s = p.stride in
        let g = unsigned_abs (n *ℤ pos d -ℤ p.low) in
        let e = gap p.low (n *ℤ pos d) x in
        let u = up g s l.moves in
        let t = at_place p p.high (Steps-high p l) in
        let j = (g + (s - 1)) / s in
        let w : g ≤ t.0 * s = span p.low (n *ℤ pos d) p.high g (t.0 * s) e t.1 y in
        let i = steps g j t.0 s l.moves u.1 w in
        record {
          from = p.low +ℤ pos (j * s);
          has = Steps-from_at p j (p.low +ℤ pos (j * s)) refl (subst (λ z. (p.low +ℤ pos (j * s)) ≤ℤ z) (sym t.1) (inside p.low j t.0 s i));
          is = sym (floor_is (p.low +ℤ pos (j * s)) n d h (from_low p.low (n *ℤ pos d) g (j * s) e u.0) (from_high p.low (n *ℤ pos d) g (j * s) s d e u.1 l.moves m));
        }
      where
        span : (low q high : ℤ) (g k : ℕ) → q ≡ low +ℤ pos g → high ≡ low +ℤ pos k → q ≤ℤ high → g ≤ k
        span low q high g k e f i = omega (arith, ints)

        from_low : (low q : ℤ) (g k : ℕ) → q ≡ low +ℤ pos g → g ≤ k → q ≤ℤ (low +ℤ pos k)
        from_low low q g k e i = omega (arith, ints)

        from_high : (low q : ℤ) (g k s d : ℕ) → q ≡ low +ℤ pos g → k ≤ g + (s - 1) → 0 < s → s < d → (low +ℤ pos k) <ℤ (q +ℤ pos d)
        from_high low q g k s d e i m l = omega (arith, ints)

pub floored-fits : (d : ℕ) (s : Shape) → 0 < d → IsValid s → Fits (Image (Has s) (λ n. floor n d)) (floored d s)
unfolding floored
floored-fits d (Few v) h l = Makes-fits (Image (Among v.items) (λ n. floor n d)) (gathered (map (λ n. floor n d) v.items)) (mapped-makes (λ n. floor n d) v.items (λ n i. floor_number n d (AllNumbers-among v.items l.numbers n i)))
floored-fits d (Many p) h l =
    let c = run_floored-covers d p h l in
    record { valid = c.valid; holds = c.holds; sharp = by_step (p.stride % d == 0) (λ e. dvd_of_mod-eq-zero d (eqb-true (p.stride % d) 0 e)) refl }
  where
    lo : p.low ≤ℤ p.high
    lo = (Steps-low p l).below

    exactly : (step : ℕ) → 0 < step → Exactly (Steps (record { low = floor p.low d; high = floor p.high d; stride = step })) (run (floor p.low d) (floor p.high d) step)
    exactly step m = run-exactly (floor p.low d) (floor p.high d) step (floor_number p.low d l.first) (floor_number p.high d l.last) (floor_order p.low p.high d h lo) m

    by_step : (t : Bool) → (t ≡ true → d ∣ p.stride) → p.stride % d == 0 ≡ t → ((n : ℤ) → Has (run (floor p.low d) (floor p.high d) (cond t (p.stride / d) 1)) n → Image (Steps p) (λ n. floor n d) n) ⊎ HoldsNine (Image (Steps p) (λ n. floor n d))
    by_step true f e =
        let m : 0 < p.stride / d = subst (λ t. 0 < cond t (p.stride / d) 1) e (step_some p.stride d l.moves h) in
        inl (λ n i. even_quotient d p h (f refl) l n ((exactly (p.stride / d) m).only n i))
    by_step false f e = elim (cases_lt p.stride d) [
      | inl k ↦ inl (λ n i. let s = (exactly 1 (omega arith)).only n i in short_quotient d p h k l n s.above s.below)
      | inr k ↦ inr (far_quotients d p h k l)
    ]
