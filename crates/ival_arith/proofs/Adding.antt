-- Sums of the numbers of two sets.
use Rattle.std.proofs.Common.{◌≡◌, ◌⊎◌, ℕ, suc, ◌+◌, ◌-◌, ◌*◌, ◌/◌, ◌%◌, ◌<◌, ◌≤◌, Bool, true, false, cond, ℤ, pos, negsuc, ◌+ℤ◌, ◌-ℤ◌, List, [], ◌∷◌, refl, sym, subst, ap, ◌∙◌, inl, inr, arith}
use Rattle.std.specs.Prelude.{neg_ℤ, ◌&&◌, int_le, int_lt}
use Rattle.std.specs.Int.{◌∣◌}
use Rattle.std.proofs.lemmas.Int.{ints, by_lt_z}
use Rattle.std.proofs.lemmas.Bool.{cases_lt}
use Rattle.std.proofs.lemmas.Nat.{mul-le, div-add-mod', mod_below}
use Rattle.std.proofs.Math.Nat.{dvd_trans, dvd-add, le_of_mul-le-mul_right}
use Rattle.std.proofs.lemmas.Nat.Gcd.{le_of_dvd, mod-eq-zero_of_dvd, same_from_IsGcd, dvd_refl}
use Rattle.ival_arith.proofs.Cycles.{positive}
use lib.Signed.{◌<ℤ◌, ◌≤ℤ◌}
use Rattle.ival_core.specs.declared.value.Progression.{Progression}
use Rattle.ival_core.specs.declared.value.Shape.{Shape}
use Rattle.ival_core.specs.declared.value.Shape.TheVariants.{Few, Many}
use Rattle.ival_core.specs.Sets.{apart, Among, IsNumber, IsLongRun, IsValid, Has, Steps, HoldsNine, steps_from}
use Rattle.ival_core.specs.Hulls.{Spans}
use Rattle.ival_core.specs.Joined.{gcd, joined}
use Rattle.ival_core.proofs.Distances.{apart_is}
use Rattle.ival_core.proofs.Hulls.{Spans-IsLeast}
use Rattle.ival_core.proofs.Insertion.{AllNumbers-from_among}
use Rattle.ival_core.proofs.Joined.{Makes, HoldsNine-map, gcd_is}
use Rattle.ival_core.proofs.Runs.{Steps-low, Steps-high, Steps-number, steps_from-at, steps_from-among, length-steps_from, steps_from-ascending}
use Rattle.ival_core.proofs.RunShapes.{IsNumber-between}
use Rattle.ival_core.proofs.Orders.{lt_true, lt_false, le_false}
use Rattle.ival_arith.specs.declared.pieces.Change.TheVariants.{Plus}
use Rattle.ival_arith.specs.Pieces.{none, clipped, all_changed, run_clipped}
use Rattle.ival_arith.specs.Sums.{sums_onto, sum_hull, starts_low, ends_high, firsts, lasts, run_sums, sums}
use Rattle.ival_arith.proofs.Fits.{Fits, Fits-nine, Fits-same, Exactly, Exactly-same, Exactly-makes, Makes-same, Makes-fits, Makes-joined, none-exactly}
use Rattle.ival_arith.proofs.Parts.{Image, Between, clipped-exactly, run_clipped-exactly, all_changed-exactly, at_place, from_place}
use Rattle.ival_arith.proofs.Distinct.{nine_values}

-- n is the sum of a number with P and one with Q
pub record Sum (P Q : ℤ → Type 0) (n : ℤ) : Type 0 where
  pub left : ℤ
  pub right : ℤ
  pub has_left : P left
  pub has_right : Q right
  pub is : n ≡ left +ℤ right

-- what may be added
pub record CanAdd (lo hi : ℤ) (s : Shape) (ys : List ℤ) : Type 0 where
  pub valid : IsValid s
  pub low : IsNumber lo
  pub high : IsNumber hi
  pub sums : (x y : ℤ) → Has s x → Among ys y → IsNumber (x +ℤ y)

-- the sums with one number
pub piece-exactly : (lo hi : ℤ) (s : Shape) (y : ℤ) (ys : List ℤ) → CanAdd lo hi s (y ∷ ys) →
    Exactly (Between (Image (Has s) (λ x. x +ℤ y)) lo hi) (clipped lo hi (all_changed (Plus y) s))
piece-exactly lo hi s y ys c =
    let e = all_changed-exactly (Plus y) s tt c.valid (λ n h. c.sums n y h (inl refl)) in
    Exactly-same (Between (Has (all_changed (Plus y) s)) lo hi) (Between (Image (Has s) (λ x. x +ℤ y)) lo hi) (clipped lo hi (all_changed (Plus y) s))
    (λ n b. record { has = e.only n b.has; above = b.above; below = b.below })
    (λ n b. record { has = e.holds n b.has; above = b.above; below = b.below })
    (clipped-exactly lo hi (all_changed (Plus y) s) e.valid c.low c.high)

pub sums_onto-makes : (lo hi : ℤ) (R : ℤ → Type 0) (all s : Shape) (ys : List ℤ) → Makes R all → CanAdd lo hi s ys →
    Makes (λ n. R n ⊎ Between (Sum (Has s) (Among ys)) lo hi n) (sums_onto lo hi all s ys)
unfolding sums_onto
sums_onto-makes lo hi R all s [] m c =
    Makes-same R (λ n. R n ⊎ Between (Sum (Has s) (Among [])) lo hi n) all (λ n r. inl r)
    (λ n h. elim h [ inl r ↦ r | inr b ↦ absurd (b.has.has_right) ]) m
sums_onto-makes lo hi R all s (y ∷ ys) m c =
    let piece = clipped lo hi (all_changed (Plus y) s) in
    let P : ℤ → Type 0 = Between (Image (Has s) (λ x. x +ℤ y)) lo hi in
    let j = Makes-joined R P all piece m (Exactly-makes P piece (piece-exactly lo hi s y ys c)) in
    let k = sums_onto-makes lo hi (λ n. R n ⊎ P n) (joined all piece) s ys j (record { valid = c.valid; low = c.low; high = c.high; sums = λ x z h a. c.sums x z h (inr a) }) in
    Makes-same (λ n. (R n ⊎ P n) ⊎ Between (Sum (Has s) (Among ys)) lo hi n) (λ n. R n ⊎ Between (Sum (Has s) (Among (y ∷ ys))) lo hi n) (sums_onto lo hi (joined all piece) s ys)
    (λ n h. elim h [ inl i ↦ elim i [ inl r ↦ inl r | inr b ↦ inr (first n b) ] | inr b ↦ inr (later n b) ])
    (λ n h. elim h [ inl r ↦ inl (inl r) | inr b ↦ back n b b.has.has_right ]) k
  where
    first : (n : ℤ) → Between (Image (Has s) (λ x. x +ℤ y)) lo hi n → Between (Sum (Has s) (Among (y ∷ ys))) lo hi n
    first n b = record { has = record { left = b.has.from; right = y; has_left = b.has.has; has_right = inl refl; is = b.has.is }; above = b.above; below = b.below }

    later : (n : ℤ) → Between (Sum (Has s) (Among ys)) lo hi n → Between (Sum (Has s) (Among (y ∷ ys))) lo hi n
    later n b = record { has = record { left = b.has.left; right = b.has.right; has_left = b.has.has_left; has_right = inr b.has.has_right; is = b.has.is }; above = b.above; below = b.below }

    back : (n : ℤ) (b : Between (Sum (Has s) (Among (y ∷ ys))) lo hi n) → (b.has.right ≡ y) ⊎ Among ys b.has.right →
        (R n ⊎ Between (Image (Has s) (λ x. x +ℤ y)) lo hi n) ⊎ Between (Sum (Has s) (Among ys)) lo hi n
    back n b (inl e) = inl (inr (record { has = record { from = b.has.left; has = b.has.has_left; is = b.has.is ∙ ap (λ z. b.has.left +ℤ z) e }; above = b.above; below = b.below }))
    back n b (inr a) = inr (record { has = record { left = b.has.left; right = b.has.right; has_left = b.has.has_left; has_right = a; is = b.has.is }; above = b.above; below = b.below })

-- from no number on
pub sums_from_none : (lo hi : ℤ) (s : Shape) (ys : List ℤ) → CanAdd lo hi s ys → Makes (Between (Sum (Has s) (Among ys)) lo hi) (sums_onto lo hi none s ys)
sums_from_none lo hi s ys c =
    Makes-same (λ n. ⊥ ⊎ Between (Sum (Has s) (Among ys)) lo hi n) (Between (Sum (Has s) (Among ys)) lo hi) (sums_onto lo hi none s ys)
    (λ n h. elim h [ inl f ↦ absurd f | inr b ↦ b ]) (λ n b. inr b)
    (sums_onto-makes lo hi (λ n. ⊥) none s ys (Exactly-makes (λ n. ⊥) none none-exactly) c)

-- ---- runs

pub at_first : (p : Progression) → IsLongRun p → (k : ℕ) → k ≤ 8 → Steps p (p.low +ℤ pos (k * p.stride))
at_first p l k h =
    let a = l.long in
    let b : k * p.stride ≤ 8 * p.stride = mul-le k p.stride 8 p.stride h (omega arith) in
    from_place p (p.low +ℤ pos (k * p.stride)) k refl (omega (arith, ints))

-- a number is at a place from the end
record FromEnd (p : Progression) (n : ℤ) : Type 0 where
  place : ℕ
  is : n +ℤ pos (place * p.stride) ≡ p.high

from_end : (p : Progression) → IsLongRun p → (n : ℤ) → Steps p n → FromEnd p n
from_end p l n s =
    let q = at_place p n s in
    let t = at_place p p.high (Steps-high p l) in
    let b : n ≤ℤ p.high = s.below in
    let c : q.0 * p.stride ≤ t.0 * p.stride = order p.low p.high n q.0 t.0 p.stride q.1 t.1 b in
    let d : q.0 ≤ t.0 = le_of_mul-le-mul_right c l.moves in
    record { place = t.0 - q.0; is = rest p.low p.high n q.0 t.0 (t.0 - q.0) p.stride q.1 t.1 (omega arith) }
  where
    order : (low high n : ℤ) (i j s : ℕ) → n ≡ low +ℤ pos (i * s) → high ≡ low +ℤ pos (j * s) → n ≤ℤ high → i * s ≤ j * s
    order low high n i j s e f h = omega (arith, ints)

    rest : (low high n : ℤ) (i j k s : ℕ) → n ≡ low +ℤ pos (i * s) → high ≡ low +ℤ pos (j * s) → i + k ≡ j → n +ℤ pos (k * s) ≡ high
    rest low high n i j k s e f g = let h : j * s ≡ (i + k) * s = ap (λ x. x * s) (sym g) in omega (arith, ints)

pub at_last : (p : Progression) → IsLongRun p → (k : ℕ) → k ≤ 8 → (n : ℤ) → n +ℤ pos (k * p.stride) ≡ p.high → Steps p n
at_last p l k h n e =
    let t = at_place p p.high (Steps-high p l) in
    let a = l.long in
    let b : 8 * p.stride ≤ t.0 * p.stride = order p.low p.high t.0 p.stride t.1 a in
    let c : 8 ≤ t.0 = le_of_mul-le-mul_right b l.moves in
    from_place p n (t.0 - k) (rest p.low p.high n k (t.0 - k) t.0 p.stride e t.1 (omega arith)) (below p.high n (k * p.stride) e)
  where
    order : (low high : ℤ) (j s : ℕ) → high ≡ low +ℤ pos (j * s) → (low +ℤ pos (8 * s)) ≤ℤ high → 8 * s ≤ j * s
    order low high j s e h = omega (arith, ints)

    rest : (low high n : ℤ) (k i j s : ℕ) → n +ℤ pos (k * s) ≡ high → high ≡ low +ℤ pos (j * s) → i + k ≡ j → n ≡ low +ℤ pos (i * s)
    rest low high n k i j s e f g = let h : j * s ≡ (i + k) * s = ap (λ x. x * s) (sym g) in omega (arith, ints)

    below : (high n : ℤ) (d : ℕ) → n +ℤ pos d ≡ high → n ≤ℤ high
    below high n d e = omega (arith, ints)

-- nine sums of the first number of one run and the first nine of the other
nine_first : (lo hi : ℤ) (p : Progression) (y : ℤ) → IsLongRun p → lo ≤ℤ (p.low +ℤ y) → ((p.low +ℤ y) +ℤ pos (8 * p.stride)) ≤ℤ hi →
    HoldsNine (Between (Sum (Steps p) (λ n. n ≡ y)) lo hi)
nine_first lo hi p y l a b =
    nine_values (Between (Sum (Steps p) (λ n. n ≡ y)) lo hi) (λ k. (p.low +ℤ pos (k * p.stride)) +ℤ y)
    (λ i j c d e. other p.low y i j p.stride l.moves c e)
    (λ k c. record {
      has = record { left = p.low +ℤ pos (k * p.stride); right = y; has_left = at_first p l k c; has_right = refl; is = refl };
      above = above lo p.low y k p.stride a;
      below = below hi p.low y k p.stride c b;
    })
  where
    other : (low y : ℤ) (i j s : ℕ) → 0 < s → suc i ≤ j → (low +ℤ pos (j * s)) +ℤ y ≡ (low +ℤ pos (i * s)) +ℤ y → ⊥
    other low y i j s m c e = let d : suc i * s ≤ j * s = mul-le (suc i) s j s c (omega arith) in omega (arith, ints)

    above : (lo low y : ℤ) (k s : ℕ) → lo ≤ℤ (low +ℤ y) → lo ≤ℤ ((low +ℤ pos (k * s)) +ℤ y)
    above lo low y k s a = omega (arith, ints)

    below : (hi low y : ℤ) (k s : ℕ) → k ≤ 8 → ((low +ℤ y) +ℤ pos (8 * s)) ≤ℤ hi → ((low +ℤ pos (k * s)) +ℤ y) ≤ℤ hi
    below hi low y k s c b = let d : k * s ≤ 8 * s = mul-le k s 8 s c (omega arith) in omega (arith, ints)

-- nine sums of the last number of one run and the last nine of the other
nine_last : (lo hi : ℤ) (p : Progression) (y : ℤ) → IsLongRun p → (p.high +ℤ y) ≤ℤ hi → (lo +ℤ pos (8 * p.stride)) ≤ℤ (p.high +ℤ y) →
    HoldsNine (Between (Sum (Steps p) (λ n. n ≡ y)) lo hi)
nine_last lo hi p y l a b =
    nine_values (Between (Sum (Steps p) (λ n. n ≡ y)) lo hi) (λ k. (p.high -ℤ pos (k * p.stride)) +ℤ y)
    (λ i j c d e. other p.high y i j p.stride l.moves c e)
    (λ k c. record {
      has = record { left = p.high -ℤ pos (k * p.stride); right = y; has_left = at_last p l k c (p.high -ℤ pos (k * p.stride)) (ends p.high (k * p.stride)); has_right = refl; is = refl };
      above = above lo p.high y k p.stride c b;
      below = below hi p.high y k p.stride a;
    })
  where
    ends : (high : ℤ) (d : ℕ) → (high -ℤ pos d) +ℤ pos d ≡ high
    ends high d = omega (arith, ints)

    other : (high y : ℤ) (i j s : ℕ) → 0 < s → suc i ≤ j → (high -ℤ pos (j * s)) +ℤ y ≡ (high -ℤ pos (i * s)) +ℤ y → ⊥
    other high y i j s m c e = let d : suc i * s ≤ j * s = mul-le (suc i) s j s c (omega arith) in omega (arith, ints)

    above : (lo high y : ℤ) (k s : ℕ) → k ≤ 8 → (lo +ℤ pos (8 * s)) ≤ℤ (high +ℤ y) → lo ≤ℤ ((high -ℤ pos (k * s)) +ℤ y)
    above lo high y k s c b = let d : k * s ≤ 8 * s = mul-le k s 8 s c (omega arith) in omega (arith, ints)

    below : (hi high y : ℤ) (k s : ℕ) → (high +ℤ y) ≤ℤ hi → ((high -ℤ pos (k * s)) +ℤ y) ≤ℤ hi
    below hi high y k s a = omega (arith, ints)

-- two numbers of a run next to each other, of which the first is negative
record Crossing (p : Progression) : Type 0 where
  before : ℤ
  after : ℤ
  has_before : Steps p before
  has_after : Steps p after
  negative : before <ℤ pos 0
  natural : pos 0 ≤ℤ after
  next : after ≡ before +ℤ pos p.stride

crossing : (p : Progression) → IsLongRun p → p.low <ℤ pos 0 → pos 0 ≤ℤ p.high → Crossing p
crossing p l a b =
    let t = at_place p p.high (Steps-high p l) in
    by_place p l (apart p.low (negsuc 0) / p.stride) (div-add-mod' (apart p.low (negsuc 0)) p.stride) (mod_below (apart p.low (negsuc 0)) p.stride l.moves)
    (apart_is p.low (negsuc 0) (omega (arith, ints))) t.0 t.1 b
  where
    below_place : (i j s : ℕ) → i * s < j * s → suc i ≤ j
    below_place i j s h = elim (cases_lt i j) [ inl k ↦ omega arith | inr k ↦ let m : j * s ≤ i * s = mul-le j s i s k (omega arith) in absurd (omega arith) ]

    by_place : (p : Progression) → IsLongRun p → (i : ℕ) → i * p.stride + apart p.low (negsuc 0) % p.stride ≡ apart p.low (negsuc 0) → apart p.low (negsuc 0) % p.stride < p.stride →
        negsuc 0 ≡ p.low +ℤ pos (apart p.low (negsuc 0)) → (j : ℕ) → p.high ≡ p.low +ℤ pos (j * p.stride) → pos 0 ≤ℤ p.high → Crossing p
    by_place p l i e f g j h b =
        let n : (p.low +ℤ pos (i * p.stride)) <ℤ pos 0 = omega (arith, ints) in
        let m : pos 0 ≤ℤ (p.low +ℤ pos (suc i * p.stride)) = omega (arith, ints) in
        let c : suc i ≤ j = below_place i j p.stride (omega (arith, ints)) in
        let d : suc i * p.stride ≤ j * p.stride = mul-le (suc i) p.stride j p.stride c (omega arith) in
        record {
          before = p.low +ℤ pos (i * p.stride);
          after = p.low +ℤ pos (suc i * p.stride);
          has_before = from_place p (p.low +ℤ pos (i * p.stride)) i refl (omega (arith, ints));
          has_after = from_place p (p.low +ℤ pos (suc i * p.stride)) (suc i) refl (omega (arith, ints));
          negative = n;
          natural = m;
          next = omega (arith, ints);
        }

-- what a number of the other run is added to: after where it is negative, and before otherwise
record Partner (p : Progression) (lo hi y : ℤ) : Type 0 where
  partner : ℤ
  has : Steps p partner
  above : lo ≤ℤ (partner +ℤ y)
  below : (partner +ℤ y) ≤ℤ hi

-- both runs lie from lo to one above hi
pub record Near (p : Progression) (lo hi : ℤ) : Type 0 where
  pub low : lo ≤ℤ p.low
  pub high : p.high ≤ℤ (hi +ℤ pos 1)

chosen : (p : Progression) → Crossing p → Bool → ℤ
chosen p c t = cond t c.after c.before

stays : (p : Progression) (lo hi y : ℤ) (c : Crossing p) → Near p lo hi → lo ≤ℤ y → y ≤ℤ (hi +ℤ pos 1) → (t : Bool) → (t ≡ true → y <ℤ pos 0) → (t ≡ false → pos 0 ≤ℤ y) →
    Between (Sum (Steps p) (λ n. n ≡ y)) lo hi (cond t c.after c.before +ℤ y)
stays p lo hi y c n a b true f g =
    let h = f refl in
    let i : c.after ≤ℤ p.high = c.has_after.below in
    let j = n.high in
    let k = c.natural in
    record { has = record { left = c.after; right = y; has_left = c.has_after; has_right = refl; is = refl }; above = omega (arith, ints); below = omega (arith, ints) }
stays p lo hi y c n a b false f g =
    let h = g refl in
    let i : p.low ≤ℤ c.before = c.has_before.above in
    let j = n.low in
    let k = c.negative in
    record { has = record { left = c.before; right = y; has_left = c.has_before; has_right = refl; is = refl }; above = omega (arith, ints); below = omega (arith, ints) }

-- where one run crosses 0 in shorter steps than the other has, nine sums stay from lo to hi
nine_crossing : (lo hi : ℤ) (p q : Progression) → IsLongRun p → IsLongRun q → Crossing p → Near p lo hi → Near q lo hi → p.stride < q.stride → HoldsNine (Between (Sum (Steps p) (Steps q)) lo hi)
nine_crossing lo hi p q l m c n o s =
    nine_values (Between (Sum (Steps p) (Steps q)) lo hi)
    (λ k. cond (int_lt (q.low +ℤ pos (k * q.stride)) (pos 0)) c.after c.before +ℤ (q.low +ℤ pos (k * q.stride)))
    (λ i j a b e. other p c q.low q.stride s i j a (int_lt (q.low +ℤ pos (i * q.stride)) (pos 0)) (int_lt (q.low +ℤ pos (j * q.stride)) (pos 0)) e)
    (λ k b.
    let y = q.low +ℤ pos (k * q.stride) in
    let h = at_first q m k b in
    let r = stays p lo hi y c n (low_end q lo hi y o h) (high_end q lo hi y o h) (int_lt y (pos 0)) (λ t. lt_true y (pos 0) t) (λ t. lt_false y (pos 0) t) in
    record { has = record { left = r.has.left; right = y; has_left = r.has.has_left; has_right = h; is = r.has.is ∙ ap (λ z. r.has.left +ℤ z) r.has.has_right }; above = r.above; below = r.below })
  where
    low_end : (q : Progression) (lo hi y : ℤ) → Near q lo hi → Steps q y → lo ≤ℤ y
    low_end q lo hi y o h = let a = o.low in let b : q.low ≤ℤ y = h.above in omega (arith, ints)

    high_end : (q : Progression) (lo hi y : ℤ) → Near q lo hi → Steps q y → y ≤ℤ (hi +ℤ pos 1)
    high_end q lo hi y o h = let a = o.high in let b : y ≤ℤ q.high = h.below in omega (arith, ints)

    other : (p : Progression) (c : Crossing p) (low : ℤ) (s : ℕ) → p.stride < s → (i j : ℕ) → suc i ≤ j → (t u : Bool) →
        cond u c.after c.before +ℤ (low +ℤ pos (j * s)) ≡ cond t c.after c.before +ℤ (low +ℤ pos (i * s)) → ⊥
    other p c low s h i j a true true e = let d : suc i * s ≤ j * s = mul-le (suc i) s j s a (omega arith) in let f = c.next in omega (arith, ints)
    other p c low s h i j a true false e = let d : suc i * s ≤ j * s = mul-le (suc i) s j s a (omega arith) in let f = c.next in omega (arith, ints)
    other p c low s h i j a false true e = let d : suc i * s ≤ j * s = mul-le (suc i) s j s a (omega arith) in let f = c.next in omega (arith, ints)
    other p c low s h i j a false false e = let d : suc i * s ≤ j * s = mul-le (suc i) s j s a (omega arith) in let f = c.next in omega (arith, ints)

swapped : (P Q : ℤ → Type 0) (lo hi n : ℤ) → Between (Sum P Q) lo hi n → Between (Sum Q P) lo hi n
swapped P Q lo hi n b = record {
  has = record { left = b.has.right; right = b.has.left; has_left = b.has.has_right; has_right = b.has.has_left; is = b.has.is ∙ turn b.has.left b.has.right };
  above = b.above;
  below = b.below;
}
  where
    turn : (x y : ℤ) → x +ℤ y ≡ y +ℤ x
    turn x y = omega (arith, ints)

-- ---- the hull of all sums

split : (a b x y : ℤ) → a ≤ℤ x → b ≤ℤ y → apart (a +ℤ b) (x +ℤ y) ≡ apart a x + apart b y
unfolding apart
split a b x y h k = omega (arith, ints)

sum_in_hull : (p q : Progression) (n : ℤ) → Sum (Steps p) (Steps q) n → Steps (sum_hull p q) n
unfolding sum_hull
sum_in_hull p q n s =
    let g = gcd_is p.stride q.stride in
    let a = at_place p s.left s.has_left in
    let b = at_place q s.right s.has_right in
    let c : p.low ≤ℤ s.left = s.has_left.above in
    let d : q.low ≤ℤ s.right = s.has_right.above in
    let e : s.left ≤ℤ p.high = s.has_left.below in
    let f : s.right ≤ℤ q.high = s.has_right.below in
    let i = s.is in
    record {
      above = omega (arith, ints);
      below = omega (arith, ints);
      meets = subst (λ z. gcd p.stride q.stride ∣ apart (p.low +ℤ q.low) z) (sym i)
          (subst (λ k. gcd p.stride q.stride ∣ k) (sym (split p.low q.low s.left s.right c d))
          (dvd-add (gcd p.stride q.stride) (dvd_trans (gcd p.stride q.stride) g.0 s.has_left.meets) (dvd_trans (gcd p.stride q.stride) g.1 s.has_right.meets)));
    }

pub hull_long : (lo hi : ℤ) (p q : Progression) → IsLongRun p → IsLongRun q → IsNumber (p.low +ℤ q.low) → IsNumber (p.high +ℤ q.high) → IsLongRun (sum_hull p q)
unfolding sum_hull
hull_long lo hi p q l m a b =
    let g = gcd_is p.stride q.stride in
    let c = l.long in
    let d = m.long in
    let e : gcd p.stride q.stride ≤ p.stride = le_of_dvd l.moves g.0 in
    let f = sum_in_hull p q (p.high +ℤ q.high) (record { left = p.high; right = q.high; has_left = Steps-high p l; has_right = Steps-high q m; is = refl }) in
    record {
      first = a;
      last = b;
      moves = positive (gcd p.stride q.stride) p.stride l.moves g.0;
      long = (let k : 8 * gcd p.stride q.stride ≤ 8 * p.stride = mul-le 8 (gcd p.stride q.stride) 8 p.stride (omega arith) e in omega (arith, ints));
      meets = mod-eq-zero_of_dvd (gcd p.stride q.stride) f.meets;
    }

-- where both strides are one, the hull has only sums
same_stride : (p q : Progression) → IsLongRun p → IsLongRun q → p.stride ≡ q.stride → (n : ℤ) → Steps (sum_hull p q) n → Sum (Steps p) (Steps q) n
unfolding sum_hull
same_stride p q l m e n h =
    let g : gcd p.stride q.stride ≡ p.stride = same_from_IsGcd p.stride q.stride (gcd p.stride q.stride) p.stride (gcd_is p.stride q.stride) (dvd_refl p.stride, subst (λ x. p.stride ∣ x) e (dvd_refl p.stride), λ d a b. a) in
    let k = at_place (record { low = p.low +ℤ q.low; high = p.high +ℤ q.high; stride = gcd p.stride q.stride }) n h in
    let t = at_place p p.high (Steps-high p l) in
    let f : n ≡ (p.low +ℤ q.low) +ℤ pos (k.0 * p.stride) = k.1 ∙ ap (λ x. (p.low +ℤ q.low) +ℤ pos (k.0 * x)) g in
    let b : n ≤ℤ (p.high +ℤ q.high) = h.below in
    elim (cases_lt t.0 k.0) [
      | inr c ↦
          let d : k.0 * p.stride ≤ t.0 * p.stride = mul-le k.0 p.stride t.0 p.stride c (omega arith) in
          let i = t.1 in
          record {
            left = p.low +ℤ pos (k.0 * p.stride);
            right = q.low;
            has_left = from_place p (p.low +ℤ pos (k.0 * p.stride)) k.0 refl (omega (arith, ints));
            has_right = Steps-low q m;
            is = omega (arith, ints);
          }
      | inl c ↦
          let d : (k.0 - t.0) + t.0 ≡ k.0 = omega arith in
          let i = t.1 in
          let j : (k.0 - t.0) * p.stride + t.0 * p.stride ≡ k.0 * p.stride = add_times (k.0 - t.0) t.0 k.0 p.stride d in
          let o : (k.0 - t.0) * q.stride ≡ (k.0 - t.0) * p.stride = ap (λ x. (k.0 - t.0) * x) (sym e) in
          record {
            left = p.high;
            right = q.low +ℤ pos ((k.0 - t.0) * p.stride);
            has_left = Steps-high p l;
            has_right = from_place q (q.low +ℤ pos ((k.0 - t.0) * p.stride)) (k.0 - t.0) (ap (λ x. q.low +ℤ pos x) (sym o)) (omega (arith, ints));
            is = omega (arith, ints);
          }
    ]
  where
    add_times : (a b c s : ℕ) → a + b ≡ c → a * s + b * s ≡ c * s
    add_times a b c s e = let h : (a + b) * s ≡ c * s = ap (λ x. x * s) e in omega arith

-- what may be asked of two runs
pub record CanSum (lo hi : ℤ) (p q : Progression) : Type 0 where
  pub left : IsLongRun p
  pub right : IsLongRun q
  pub least : IsNumber lo
  pub greatest : IsNumber hi
  pub low : IsNumber (p.low +ℤ q.low)
  pub high : IsNumber (p.high +ℤ q.high)

sum_number : (lo hi : ℤ) (p q : Progression) → CanSum lo hi p q → (x y : ℤ) → Steps p x → Steps q y → IsNumber (x +ℤ y)
sum_number lo hi p q c x y h k =
    let a : p.low ≤ℤ x = h.above in
    let b : x ≤ℤ p.high = h.below in
    let d : q.low ≤ℤ y = k.above in
    let e : y ≤ℤ q.high = k.below in
    IsNumber-between (p.low +ℤ q.low) (p.high +ℤ q.high) (x +ℤ y) c.low c.high (omega (arith, ints)) (omega (arith, ints))

pub firsts-steps : (p : Progression) → IsLongRun p → (n : ℤ) → Among (firsts p) n → Steps p n
firsts-steps p l n m =
    let a = steps_from-at p.low p.stride 8 n m in
    subst (Steps p) (sym a.is) (at_first p l a.place (omega (arith, a.within)))

pub lasts-steps : (p : Progression) → IsLongRun p → (n : ℤ) → Among (lasts p) n → Steps p n
lasts-steps p l n m =
    let a = steps_from-at (p.high +ℤ neg_ℤ (pos (7 * p.stride))) p.stride 8 n m in
    let b = a.within in
    let e = a.is in
    at_last p l (7 - a.place) (omega arith) n (from_below p.high n a.place (7 - a.place) p.stride e (omega arith))
  where
    from_below : (high n : ℤ) (i j s : ℕ) → n ≡ (high +ℤ neg_ℤ (pos (7 * s))) +ℤ pos (i * s) → i + j ≡ 7 → n +ℤ pos (j * s) ≡ high
    from_below high n i j s e f = let h : (i + j) * s ≡ 7 * s = ap (λ x. x * s) f in omega (arith, ints)

few-valid : (first : ℤ) (p : Progression) → IsLongRun p → ((n : ℤ) → Among (steps_from first p.stride 8) n → Steps p n) → IsValid (Few (record { items = steps_from first p.stride 8 }))
few-valid first p l f = record {
  small = let e = length-steps_from first p.stride 8 in omega arith;
  ascending = steps_from-ascending first p.stride 8 l.moves;
  numbers = AllNumbers-from_among (steps_from first p.stride 8) (λ n m. Steps-number p n l (f n m));
}

-- the sums of these few numbers are all sums from lo to hi
few_sums : (lo hi a b : ℤ) (p q : Progression) → CanSum lo hi p q →
    ((n : ℤ) → Among (steps_from a p.stride 8) n → Steps p n) → ((n : ℤ) → Among (steps_from b q.stride 8) n → Steps q n) →
    ((x y : ℤ) → Steps p x → Steps q y → lo ≤ℤ (x +ℤ y) → (x +ℤ y) ≤ℤ hi → Among (steps_from a p.stride 8) x × Among (steps_from b q.stride 8) y) →
    Makes (Between (Sum (Steps p) (Steps q)) lo hi) (sums_onto lo hi none (Few (record { items = steps_from a p.stride 8 })) (steps_from b q.stride 8))
few_sums lo hi a b p q c f g h =
    Makes-same (Between (Sum (Among (steps_from a p.stride 8)) (Among (steps_from b q.stride 8))) lo hi) (Between (Sum (Steps p) (Steps q)) lo hi) (sums_onto lo hi none (Few (record { items = steps_from a p.stride 8 })) (steps_from b q.stride 8))
    (λ n k. record { has = record { left = k.has.left; right = k.has.right; has_left = f k.has.left k.has.has_left; has_right = g k.has.right k.has.has_right; is = k.has.is }; above = k.above; below = k.below })
    (λ n k.
    let r = h k.has.left k.has.right k.has.has_left k.has.has_right (subst (λ z. lo ≤ℤ z) k.has.is k.above) (subst (λ z. z ≤ℤ hi) k.has.is k.below) in
    record { has = record { left = k.has.left; right = k.has.right; has_left = r.0; has_right = r.1; is = k.has.is }; above = k.above; below = k.below })
    (sums_from_none lo hi (Few (record { items = steps_from a p.stride 8 })) (steps_from b q.stride 8) (record {
      valid = few-valid a p c.left f;
      low = c.least;
      high = c.greatest;
      sums = λ x y k m. sum_number lo hi p q c x y (f x k) (g y m);
    }))

-- a sum up to hi is made of the first numbers
near_first : (hi : ℤ) (p : Progression) (x y low : ℤ) → Steps p x → low ≤ℤ y → hi <ℤ ((p.low +ℤ low) +ℤ pos (8 * p.stride)) → (x +ℤ y) ≤ℤ hi → 0 < p.stride → Among (firsts p) x
near_first hi p x y low s a b c m =
    let q = at_place p x s in
    let e = q.1 in
    let d : q.0 * p.stride < 8 * p.stride = omega (arith, ints) in
    steps_from-among p.low p.stride 8 q.0 x (below_times q.0 8 p.stride d) e
  where
    below_times : (i j s : ℕ) → i * s < j * s → i < j
    below_times i j s h = elim (cases_lt i j) [ inl k ↦ k | inr k ↦ let m : j * s ≤ i * s = mul-le j s i s k (omega arith) in absurd (omega arith) ]

-- a sum from lo on is made of the last numbers
near_last : (lo : ℤ) (p : Progression) (x y high : ℤ) → IsLongRun p → Steps p x → y ≤ℤ high → (p.high +ℤ high) <ℤ (lo +ℤ pos (8 * p.stride)) → lo ≤ℤ (x +ℤ y) → Among (lasts p) x
near_last lo p x y high l s a b c =
    let q = from_end p l x s in
    let e = q.is in
    let d : q.place * p.stride < 8 * p.stride = omega (arith, ints) in
    let f : q.place < 8 = below_times q.place 8 p.stride d in
    steps_from-among (p.high +ℤ neg_ℤ (pos (7 * p.stride))) p.stride 8 (7 - q.place) x (omega arith) (from_above p.high x q.place (7 - q.place) p.stride e (omega arith))
  where
    below_times : (i j s : ℕ) → i * s < j * s → i < j
    below_times i j s h = elim (cases_lt i j) [ inl k ↦ k | inr k ↦ let m : j * s ≤ i * s = mul-le j s i s k (omega arith) in absurd (omega arith) ]

    from_above : (high n : ℤ) (i j s : ℕ) → n +ℤ pos (i * s) ≡ high → i + j ≡ 7 → n ≡ (high +ℤ neg_ℤ (pos (7 * s))) +ℤ pos (j * s)
    from_above high n i j s e f = let h : (i + j) * s ≡ 7 * s = ap (λ x. x * s) f in omega (arith, ints)

and_true : (x y z : Bool) → (x && (y && z)) ≡ true → (x ≡ true) × (y ≡ true) × (z ≡ true)
and_true true true true e = (refl, refl, refl)
and_true true true false e = cc
and_true true false z e = cc
and_true false y z e = cc

and_false : (x y z : Bool) → (x && (y && z)) ≡ false → (x ≡ false) ⊎ ((y ≡ false) ⊎ (z ≡ false))
and_false true true true e = cc
and_false true true false e = inr (inr refl)
and_false true false z e = inr (inl refl)
and_false false y z e = inl refl

hull_exactly : (lo hi : ℤ) (p q : Progression) → CanSum lo hi p q → Exactly (Between (Steps (sum_hull p q)) lo hi) (run_clipped lo hi (sum_hull p q))
hull_exactly lo hi p q c = run_clipped-exactly lo hi (sum_hull p q) (hull_long lo hi p q c.left c.right c.low c.high) c.least c.greatest

hull_holds : (lo hi : ℤ) (p q : Progression) → CanSum lo hi p q → (n : ℤ) → Between (Sum (Steps p) (Steps q)) lo hi n → Has (run_clipped lo hi (sum_hull p q)) n
hull_holds lo hi p q c n b = (hull_exactly lo hi p q c).holds n (record { has = sum_in_hull p q n b.has; above = b.above; below = b.below })

hull_nine : (lo hi : ℤ) (p q : Progression) → CanSum lo hi p q → HoldsNine (Between (Sum (Steps p) (Steps q)) lo hi) → Fits (Between (Sum (Steps p) (Steps q)) lo hi) (run_clipped lo hi (sum_hull p q))
hull_nine lo hi p q c h = Fits-nine (Between (Sum (Steps p) (Steps q)) lo hi) (run_clipped lo hi (sum_hull p q)) (hull_exactly lo hi p q c).valid (hull_holds lo hi p q c) h

hull_same : (lo hi : ℤ) (p q : Progression) → CanSum lo hi p q → p.stride ≡ q.stride → Fits (Between (Sum (Steps p) (Steps q)) lo hi) (run_clipped lo hi (sum_hull p q))
hull_same lo hi p q c e =
    let x = hull_exactly lo hi p q c in
    record {
      valid = x.valid;
      holds = hull_holds lo hi p q c;
      sharp = inl (λ n h. let b = x.only n h in record { has = same_stride p q c.left c.right e n b.has; above = b.above; below = b.below });
    }

one_right : (P Q : ℤ → Type 0) (y lo hi : ℤ) → Q y → HoldsNine (Between (Sum P (λ n. n ≡ y)) lo hi) → HoldsNine (Between (Sum P Q) lo hi)
one_right P Q y lo hi h nine =
    HoldsNine-map (Between (Sum P (λ n. n ≡ y)) lo hi) (Between (Sum P Q) lo hi)
    (λ n b. record { has = record { left = b.has.left; right = b.has.right; has_left = b.has.has_left; has_right = subst Q (sym b.has.has_right) h; is = b.has.is }; above = b.above; below = b.below }) nine

one_left : (P Q : ℤ → Type 0) (y lo hi : ℤ) → P y → HoldsNine (Between (Sum Q (λ n. n ≡ y)) lo hi) → HoldsNine (Between (Sum P Q) lo hi)
one_left P Q y lo hi h nine = HoldsNine-map (Between (Sum Q P) lo hi) (Between (Sum P Q) lo hi) (λ n b. swapped Q P lo hi n b) (one_right Q P y lo hi h nine)

pub turned : (a b : ℤ) → a +ℤ b ≡ b +ℤ a
turned a b = omega (arith, ints)

-- nine sums where the first sum is not below lo, and more than the first numbers count
low_nine : (lo hi : ℤ) (p q : Progression) → CanSum lo hi p q → lo ≤ℤ (p.low +ℤ q.low) →
    (((p.low +ℤ q.low) +ℤ pos (8 * p.stride)) ≤ℤ hi) ⊎ (((p.low +ℤ q.low) +ℤ pos (8 * q.stride)) ≤ℤ hi) → HoldsNine (Between (Sum (Steps p) (Steps q)) lo hi)
low_nine lo hi p q c a (inl h) = one_right (Steps p) (Steps q) q.low lo hi (Steps-low q c.right) (nine_first lo hi p q.low c.left a h)
low_nine lo hi p q c a (inr h) =
    one_left (Steps p) (Steps q) p.low lo hi (Steps-low p c.left)
    (nine_first lo hi q p.low c.right (subst (λ z. lo ≤ℤ z) (turned p.low q.low) a) (subst (λ z. (z +ℤ pos (8 * q.stride)) ≤ℤ hi) (turned p.low q.low) h))

high_nine : (lo hi : ℤ) (p q : Progression) → CanSum lo hi p q → (p.high +ℤ q.high) ≤ℤ hi →
    ((lo +ℤ pos (8 * p.stride)) ≤ℤ (p.high +ℤ q.high)) ⊎ ((lo +ℤ pos (8 * q.stride)) ≤ℤ (p.high +ℤ q.high)) → HoldsNine (Between (Sum (Steps p) (Steps q)) lo hi)
high_nine lo hi p q c a (inl h) = one_right (Steps p) (Steps q) q.high lo hi (Steps-high q c.right) (nine_last lo hi p q.high c.left a h)
high_nine lo hi p q c a (inr h) =
    one_left (Steps p) (Steps q) p.high lo hi (Steps-high p c.left)
    (nine_last lo hi q p.high c.right (subst (λ z. z ≤ℤ hi) (turned p.high q.high) a) (subst (λ z. (lo +ℤ pos (8 * q.stride)) ≤ℤ z) (turned p.high q.high) h))

-- where the first sum is below lo and the last one above hi
cut_twice : (lo hi : ℤ) (p q : Progression) → CanSum lo hi p q → Near p lo hi → Near q lo hi → (p.low +ℤ q.low) <ℤ lo → hi <ℤ (p.high +ℤ q.high) →
    Fits (Between (Sum (Steps p) (Steps q)) lo hi) (run_clipped lo hi (sum_hull p q))
cut_twice lo hi p q c m n a b =
    let d = m.low in
    let e = m.high in
    let f = n.low in
    let g = n.high in
    elim (cases_lt p.stride q.stride) [
      | inl l ↦ hull_nine lo hi p q c (nine_crossing lo hi p q c.left c.right (crossing p c.left (omega (arith, ints)) (omega (arith, ints))) m n l)
      | inr l ↦ elim (cases_lt q.stride p.stride) [
        | inl k ↦ hull_nine lo hi p q c (HoldsNine-map (Between (Sum (Steps q) (Steps p)) lo hi) (Between (Sum (Steps p) (Steps q)) lo hi) (λ z w. swapped (Steps q) (Steps p) lo hi z w)
            (nine_crossing lo hi q p c.right c.left (crossing q c.right (omega (arith, ints)) (omega (arith, ints))) n m k))
        | inr k ↦ hull_same lo hi p q c (omega arith)
      ]
    ]

pub run_sums-fits : (lo hi : ℤ) (p q : Progression) → CanSum lo hi p q → Near p lo hi → Near q lo hi → Fits (Between (Sum (Steps p) (Steps q)) lo hi) (run_sums lo hi p q)
unfolding run_sums
run_sums-fits lo hi p q c m n =
    by_tests (starts_low lo hi p q) (ends_high lo hi p q)
    (λ e. and_true (int_le lo (p.low +ℤ q.low)) (int_lt hi ((p.low +ℤ q.low) +ℤ pos (8 * p.stride))) (int_lt hi ((p.low +ℤ q.low) +ℤ pos (8 * q.stride))) e)
    (λ e. and_false (int_le lo (p.low +ℤ q.low)) (int_lt hi ((p.low +ℤ q.low) +ℤ pos (8 * p.stride))) (int_lt hi ((p.low +ℤ q.low) +ℤ pos (8 * q.stride))) e)
    (λ e. and_true (int_le (p.high +ℤ q.high) hi) (int_lt (p.high +ℤ q.high) (lo +ℤ pos (8 * p.stride))) (int_lt (p.high +ℤ q.high) (lo +ℤ pos (8 * q.stride))) e)
    (λ e. and_false (int_le (p.high +ℤ q.high) hi) (int_lt (p.high +ℤ q.high) (lo +ℤ pos (8 * p.stride))) (int_lt (p.high +ℤ q.high) (lo +ℤ pos (8 * q.stride))) e)
  where
    a : ℤ
    a = p.low +ℤ q.low

    b : ℤ
    b = p.high +ℤ q.high

    from_low : int_lt hi (a +ℤ pos (8 * p.stride)) ≡ true → int_lt hi (a +ℤ pos (8 * q.stride)) ≡ true → (x y : ℤ) → Steps p x → Steps q y → lo ≤ℤ (x +ℤ y) → (x +ℤ y) ≤ℤ hi → Among (firsts p) x × Among (firsts q) y
    from_low f g x y h k u v = (
      near_first hi p x y q.low h k.above (lt_true hi (a +ℤ pos (8 * p.stride)) f) v c.left.moves,
      near_first hi q y x p.low k h.above (subst (λ z. hi <ℤ (z +ℤ pos (8 * q.stride))) (turned p.low q.low) (lt_true hi (a +ℤ pos (8 * q.stride)) g)) (subst (λ z. z ≤ℤ hi) (turned x y) v) c.right.moves,
    )

    from_high : int_lt b (lo +ℤ pos (8 * p.stride)) ≡ true → int_lt b (lo +ℤ pos (8 * q.stride)) ≡ true → (x y : ℤ) → Steps p x → Steps q y → lo ≤ℤ (x +ℤ y) → (x +ℤ y) ≤ℤ hi → Among (lasts p) x × Among (lasts q) y
    from_high f g x y h k u v = (
      near_last lo p x y q.high c.left h k.below (lt_true b (lo +ℤ pos (8 * p.stride)) f) u,
      near_last lo q y x p.high c.right k h.below (subst (λ z. z <ℤ (lo +ℤ pos (8 * q.stride))) (turned p.high q.high) (lt_true b (lo +ℤ pos (8 * q.stride)) g)) (subst (λ z. lo ≤ℤ z) (turned x y) u),
    )

    rest : (int_le lo a ≡ false) ⊎ ((int_lt hi (a +ℤ pos (8 * p.stride)) ≡ false) ⊎ (int_lt hi (a +ℤ pos (8 * q.stride)) ≡ false)) →
        (int_le b hi ≡ false) ⊎ ((int_lt b (lo +ℤ pos (8 * p.stride)) ≡ false) ⊎ (int_lt b (lo +ℤ pos (8 * q.stride)) ≡ false)) →
        Fits (Between (Sum (Steps p) (Steps q)) lo hi) (run_clipped lo hi (sum_hull p q))
    rest low high = by_lt_z a lo
        (λ l. by_lt_z hi b
        (λ k. cut_twice lo hi p q c m n l k)
        (λ k. elim high [
          | inl f ↦ absurd (over hi b (le_false b hi f) k)
          | inr f ↦ hull_nine lo hi p q c (high_nine lo hi p q c k (elim f [ inl g ↦ inl (lt_false b (lo +ℤ pos (8 * p.stride)) g) | inr g ↦ inr (lt_false b (lo +ℤ pos (8 * q.stride)) g) ]))
        ]))
        (λ l. elim low [
          | inl f ↦ absurd (over a lo (le_false lo a f) l)
          | inr f ↦ hull_nine lo hi p q c (low_nine lo hi p q c l (elim f [ inl g ↦ inl (lt_false hi (a +ℤ pos (8 * p.stride)) g) | inr g ↦ inr (lt_false hi (a +ℤ pos (8 * q.stride)) g) ]))
        ])
      where
        over : (x y : ℤ) → x <ℤ y → y ≤ℤ x → ⊥
        over x y h k = omega (arith, ints)

    by_tests : (s t : Bool) →
        (s ≡ true → (int_le lo a ≡ true) × (int_lt hi (a +ℤ pos (8 * p.stride)) ≡ true) × (int_lt hi (a +ℤ pos (8 * q.stride)) ≡ true)) →
        (s ≡ false → (int_le lo a ≡ false) ⊎ ((int_lt hi (a +ℤ pos (8 * p.stride)) ≡ false) ⊎ (int_lt hi (a +ℤ pos (8 * q.stride)) ≡ false))) →
        (t ≡ true → (int_le b hi ≡ true) × (int_lt b (lo +ℤ pos (8 * p.stride)) ≡ true) × (int_lt b (lo +ℤ pos (8 * q.stride)) ≡ true)) →
        (t ≡ false → (int_le b hi ≡ false) ⊎ ((int_lt b (lo +ℤ pos (8 * p.stride)) ≡ false) ⊎ (int_lt b (lo +ℤ pos (8 * q.stride)) ≡ false))) →
        Fits (Between (Sum (Steps p) (Steps q)) lo hi)
        (cond s (sums_onto lo hi none (Few (record { items = firsts p })) (firsts q)) (cond t (sums_onto lo hi none (Few (record { items = lasts p })) (lasts q)) (run_clipped lo hi (sum_hull p q))))
    by_tests true t f g h k =
        let x = f refl in
        Makes-fits (Between (Sum (Steps p) (Steps q)) lo hi) (sums_onto lo hi none (Few (record { items = firsts p })) (firsts q))
        (few_sums lo hi p.low q.low p q c (firsts-steps p c.left) (firsts-steps q c.right) (from_low x.1 x.2))
    by_tests false true f g h k =
        let x = h refl in
        Makes-fits (Between (Sum (Steps p) (Steps q)) lo hi) (sums_onto lo hi none (Few (record { items = lasts p })) (lasts q))
        (few_sums lo hi (p.high +ℤ neg_ℤ (pos (7 * p.stride))) (q.high +ℤ neg_ℤ (pos (7 * q.stride))) p q c (lasts-steps p c.left) (lasts-steps q c.right) (from_high x.1 x.2))
    by_tests false false f g h k = rest (g refl) (k refl)

-- ---- where no sum is cut

-- all sums lie from lo to hi
pub record Inside (P Q : ℤ → Type 0) (lo hi : ℤ) : Type 0 where
  pub above : (x y : ℤ) → P x → Q y → lo ≤ℤ (x +ℤ y)
  pub below : (x y : ℤ) → P x → Q y → (x +ℤ y) ≤ℤ hi

uncut : (P Q : ℤ → Type 0) (lo hi : ℤ) (s : Shape) → Inside P Q lo hi → Makes (Between (Sum P Q) lo hi) s → Makes (Sum P Q) s
uncut P Q lo hi s i m =
    Makes-same (Between (Sum P Q) lo hi) (Sum P Q) s (λ n b. b.has)
    (λ n h. record {
      has = h;
      above = subst (λ z. lo ≤ℤ z) (sym h.is) (i.above h.left h.right h.has_left h.has_right);
      below = subst (λ z. z ≤ℤ hi) (sym h.is) (i.below h.left h.right h.has_left h.has_right);
    }) m

step_left : (a b : ℤ) (s : ℕ) → apart (a +ℤ b) ((a +ℤ pos (1 * s)) +ℤ b) ≡ s
unfolding apart
step_left a b s = omega (arith, ints)

step_right : (a b : ℤ) (s : ℕ) → apart (a +ℤ b) (a +ℤ (b +ℤ pos (1 * s))) ≡ s
unfolding apart
step_right a b s = omega (arith, ints)

hull_spans : (p q : Progression) → IsLongRun p → IsLongRun q → Spans (Sum (Steps p) (Steps q)) (sum_hull p q)
unfolding sum_hull
hull_spans p q l m = record {
  first = record { left = p.low; right = q.low; has_left = Steps-low p l; has_right = Steps-low q m; is = refl };
  last = record { left = p.high; right = q.high; has_left = Steps-high p l; has_right = Steps-high q m; is = refl };
  covers = λ n s. sum_in_hull p q n s;
  finest = λ d f.
      let a = f ((p.low +ℤ pos (1 * p.stride)) +ℤ q.low) (record { left = p.low +ℤ pos (1 * p.stride); right = q.low; has_left = at_first p l 1 (omega arith); has_right = Steps-low q m; is = refl }) in
      let b = f (p.low +ℤ (q.low +ℤ pos (1 * q.stride))) (record { left = p.low; right = q.low +ℤ pos (1 * q.stride); has_left = Steps-low p l; has_right = at_first q m 1 (omega arith); is = refl }) in
      (gcd_is p.stride q.stride).2 d (subst (λ z. d ∣ z) (step_left p.low q.low p.stride) a) (subst (λ z. d ∣ z) (step_right p.low q.low q.stride) b);
}

shuffle : (a b : ℤ) (k : ℕ) (hi : ℤ) → ((a +ℤ pos k) +ℤ b) ≤ℤ hi → ((a +ℤ b) +ℤ pos k) ≤ℤ hi
shuffle a b k hi h = omega (arith, ints)

hull_makes : (lo hi : ℤ) (p q : Progression) → CanSum lo hi p q → Inside (Steps p) (Steps q) lo hi → Makes (Sum (Steps p) (Steps q)) (run_clipped lo hi (sum_hull p q))
hull_makes lo hi p q c i =
    let x = hull_exactly lo hi p q c in
    let a = i.above p.low q.low (Steps-low p c.left) (Steps-low q c.right) in
    let b = i.below p.high q.high (Steps-high p c.left) (Steps-high q c.right) in
    let nine : HoldsNine (Sum (Steps p) (Steps q)) = HoldsNine-map (Between (Sum (Steps p) (Steps q)) lo hi) (Sum (Steps p) (Steps q)) (λ n h. h.has) (low_nine lo hi p q c a (inl (shuffle p.low q.low (8 * p.stride) hi (i.below (p.low +ℤ pos (8 * p.stride)) q.low (at_first p c.left 8 (omega arith)) (Steps-low q c.right))))) in
    let l = Spans-IsLeast (Sum (Steps p) (Steps q)) (sum_hull p q) nine (hull_spans p q c.left c.right) in
    record {
      valid = x.valid;
      least = record {
        holds = λ n h. hull_holds lo hi p q c n (record {
          has = h;
          above = subst (λ z. lo ≤ℤ z) (sym h.is) (i.above h.left h.right h.has_left h.has_right);
          below = subst (λ z. z ≤ℤ hi) (sym h.is) (i.below h.left h.right h.has_left h.has_right);
        });
        least = λ u valid all n h. l.least u valid all n (x.only n h).has;
      };
      sharp = inr nine;
    }

pub run_sums-makes : (lo hi : ℤ) (p q : Progression) → CanSum lo hi p q → Inside (Steps p) (Steps q) lo hi → Makes (Sum (Steps p) (Steps q)) (run_sums lo hi p q)
unfolding run_sums
run_sums-makes lo hi p q c i =
    by_tests (starts_low lo hi p q) (ends_high lo hi p q)
    (λ e. let x = and_true (int_le lo (p.low +ℤ q.low)) (int_lt hi ((p.low +ℤ q.low) +ℤ pos (8 * p.stride))) (int_lt hi ((p.low +ℤ q.low) +ℤ pos (8 * q.stride))) e in
    over ((p.low +ℤ q.low) +ℤ pos (8 * p.stride)) hi (lt_true hi ((p.low +ℤ q.low) +ℤ pos (8 * p.stride)) x.1)
    (shuffle p.low q.low (8 * p.stride) hi (i.below (p.low +ℤ pos (8 * p.stride)) q.low (at_first p c.left 8 (omega arith)) (Steps-low q c.right))))
    (λ e. let x = and_true (int_le (p.high +ℤ q.high) hi) (int_lt (p.high +ℤ q.high) (lo +ℤ pos (8 * p.stride))) (int_lt (p.high +ℤ q.high) (lo +ℤ pos (8 * q.stride))) e in
    under p.high q.high (8 * p.stride) lo (lt_true (p.high +ℤ q.high) (lo +ℤ pos (8 * p.stride)) x.1)
    (i.above (p.high -ℤ pos (8 * p.stride)) q.high (at_last p c.left 8 (omega arith) (p.high -ℤ pos (8 * p.stride)) (ends p.high (8 * p.stride))) (Steps-high q c.right)))
  where
    over : (x y : ℤ) → y <ℤ x → x ≤ℤ y → ⊥
    over x y h k = omega (arith, ints)

    under : (a b : ℤ) (k : ℕ) (lo : ℤ) → (a +ℤ b) <ℤ (lo +ℤ pos k) → lo ≤ℤ ((a -ℤ pos k) +ℤ b) → ⊥
    under a b k lo h l = omega (arith, ints)

    ends : (high : ℤ) (d : ℕ) → (high -ℤ pos d) +ℤ pos d ≡ high
    ends high d = omega (arith, ints)

    by_tests : (s t : Bool) → (s ≡ true → ⊥) → (t ≡ true → ⊥) →
        Makes (Sum (Steps p) (Steps q))
        (cond s (sums_onto lo hi none (Few (record { items = firsts p })) (firsts q)) (cond t (sums_onto lo hi none (Few (record { items = lasts p })) (lasts q)) (run_clipped lo hi (sum_hull p q))))
    by_tests true t f g = absurd (f refl)
    by_tests false true f g = absurd (g refl)
    by_tests false false f g = hull_makes lo hi p q c i

-- ---- any two sets

-- what may be asked of two sets
pub record CanSums (lo hi : ℤ) (s t : Shape) : Type 0 where
  pub left : IsValid s
  pub right : IsValid t
  pub least : IsNumber lo
  pub greatest : IsNumber hi
  pub sums : (x y : ℤ) → Has s x → Has t y → IsNumber (x +ℤ y)

can_run : (lo hi : ℤ) (p q : Progression) → CanSums lo hi (Many p) (Many q) → CanSum lo hi p q
can_run lo hi p q c = record {
  left = c.left;
  right = c.right;
  least = c.least;
  greatest = c.greatest;
  low = c.sums p.low q.low (Steps-low p c.left) (Steps-low q c.right);
  high = c.sums p.high q.high (Steps-high p c.left) (Steps-high q c.right);
}

-- the numbers of a set lie from lo to one above hi
pub record Lies (lo hi : ℤ) (s : Shape) : Type 0 where
  pub above : (n : ℤ) → Has s n → lo ≤ℤ n
  pub below : (n : ℤ) → Has s n → n ≤ℤ (hi +ℤ pos 1)

pub sums-fits : (lo hi : ℤ) (s t : Shape) → CanSums lo hi s t → Lies lo hi s → Lies lo hi t → Fits (Between (Sum (Has s) (Has t)) lo hi) (sums lo hi s t)
unfolding sums
sums-fits lo hi s (Few w) c a b =
    Makes-fits (Between (Sum (Has s) (Among w.items)) lo hi) (sums_onto lo hi none s w.items)
    (sums_from_none lo hi s w.items (record { valid = c.left; low = c.least; high = c.greatest; sums = c.sums }))
sums-fits lo hi (Few v) (Many q) c a b =
    Fits-same (Between (Sum (Steps q) (Among v.items)) lo hi) (Between (Sum (Among v.items) (Steps q)) lo hi) (sums_onto lo hi none (Many q) v.items)
    (λ n h. swapped (Steps q) (Among v.items) lo hi n h) (λ n h. swapped (Among v.items) (Steps q) lo hi n h)
    (Makes-fits (Between (Sum (Steps q) (Among v.items)) lo hi) (sums_onto lo hi none (Many q) v.items)
    (sums_from_none lo hi (Many q) v.items (record { valid = c.right; low = c.least; high = c.greatest; sums = λ x y h k. subst IsNumber (turned y x) (c.sums y x k h) })))
sums-fits lo hi (Many p) (Many q) c a b =
    run_sums-fits lo hi p q (can_run lo hi p q c)
    (record { low = a.above p.low (Steps-low p c.left); high = a.below p.high (Steps-high p c.left) })
    (record { low = b.above q.low (Steps-low q c.right); high = b.below q.high (Steps-high q c.right) })

sum_turned : (P Q : ℤ → Type 0) (n : ℤ) → Sum P Q n → Sum Q P n
sum_turned P Q n h = record { left = h.right; right = h.left; has_left = h.has_right; has_right = h.has_left; is = h.is ∙ turned h.left h.right }

pub sums-makes : (lo hi : ℤ) (s t : Shape) → CanSums lo hi s t → Inside (Has s) (Has t) lo hi → Makes (Sum (Has s) (Has t)) (sums lo hi s t)
unfolding sums
sums-makes lo hi s (Few w) c i =
    uncut (Has s) (Among w.items) lo hi (sums_onto lo hi none s w.items) i
    (sums_from_none lo hi s w.items (record { valid = c.left; low = c.least; high = c.greatest; sums = c.sums }))
sums-makes lo hi (Few v) (Many q) c i =
    Makes-same (Sum (Steps q) (Among v.items)) (Sum (Among v.items) (Steps q)) (sums_onto lo hi none (Many q) v.items)
    (λ n h. sum_turned (Steps q) (Among v.items) n h) (λ n h. sum_turned (Among v.items) (Steps q) n h)
    (uncut (Steps q) (Among v.items) lo hi (sums_onto lo hi none (Many q) v.items)
    (record { above = λ x y h k. subst (λ z. lo ≤ℤ z) (turned y x) (i.above y x k h); below = λ x y h k. subst (λ z. z ≤ℤ hi) (turned y x) (i.below y x k h) })
    (sums_from_none lo hi (Many q) v.items (record { valid = c.right; low = c.least; high = c.greatest; sums = λ x y h k. subst IsNumber (turned y x) (c.sums y x k h) })))
sums-makes lo hi (Many p) (Many q) c i = run_sums-makes lo hi p q (can_run lo hi p q c) i
