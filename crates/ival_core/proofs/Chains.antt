-- Why a chain of widenings ends: the rank falls.
use Rattle.std.proofs.Common.{◌≡◌, ◌⊎◌, ◌↔◌, ℕ, zero, suc, ◌+◌, ◌-◌, ◌*◌, ◌/◌, ◌%◌, ◌^◌, ◌<◌, ◌≤◌, Bool, true, false, cond, ℤ, pos, negsuc, ◌+ℤ◌, List, [], ◌∷◌, length, refl, sym, subst, ap, ◌∙◌, inl, inr, arith}
use Rattle.std.proofs.Math.Nat.{dvd-mul_left, div-mul_cancel, le_of_dvd, pow-le-pow_right, pow-succ'}
use Rattle.std.proofs.lemmas.Bool.{cases_lt}
use Rattle.std.proofs.lemmas.Nat.Gcd.{dvd_antisymm}
use Rattle.std.proofs.lemmas.Int.{ints}
use Rattle.std.proofs.lemmas.Nat.{mul-le, div-add-mod', mod_below, leading_length}
use Rattle.std.specs.Int.{◌∣◌, int_rem_euclid}
use Rattle.std.specs.Prelude.{int_le}
use lib.Count.{count_leading_zeros}
use lib.Signed.{◌<ℤ◌, ◌≤ℤ◌}
use Rattle.ival_core.specs.declared.value.Progression.{Progression}
use Rattle.ival_core.specs.declared.value.Shape.{Shape}
use Rattle.ival_core.specs.declared.value.Shape.TheVariants.{Few, Many}
use Rattle.ival_core.specs.declared.value.Ival.{Ival}
use Rattle.ival_core.specs.Chains.{stops, stops_below, stops_above, how_many, digits, moves, rank, IsChain, Falls, longest_chain}
use Rattle.ival_core.specs.Sets.{Among, AllAbove, IsAscending, IsLongRun, IsSmallSet, IsValid, Has, Steps, apart}
use Rattle.ival_core.specs.Ivals.{Holds, Includes, IsJoin, IsBounds, IsCongruence, IsWidening, Stays, MovesTo}
use Rattle.ival_core.specs.Ranges.{InRange}
use Rattle.ival_core.specs.Widenings.{IsMarkBelow, IsMarkAbove}
use Rattle.ival_core.proofs.Canonical.{same_ival}
use Rattle.ival_core.proofs.Congruences.{low_same, high_same}
use Rattle.ival_core.proofs.Counting.{Inside, AllAbove-among, fits, not_head}
use Rattle.ival_core.proofs.Distances.{apart_is, apart_onto, meets_on, meets_back}
use Rattle.ival_core.proofs.Inclusion.{Wider, Wider-from, Wider-steps, run_outside}
use Rattle.ival_core.proofs.Queries.{IsBounds-many}
use Rattle.ival_core.proofs.Remainders.{leaving, leaves_same, same_leaves}
use Rattle.ival_core.proofs.Runs.{Steps-low, Steps-high, Steps-second, Steps-at_divisor}

-- ---- counts

weight-le : (b c : Bool) → (b ≡ true → c ≡ true) → cond b 1 0 ≤ cond c 1 0
weight-le true c h = subst (λ d. 1 ≤ cond d 1 0) (sym (h refl)) (omega arith)
weight-le false c h = omega arith

weight-lt : (b c : Bool) → b ≡ false → c ≡ true → cond b 1 0 < cond c 1 0
weight-lt b c e f = subst (λ d. cond d 1 0 < cond c 1 0) (sym e) (subst (λ d. 0 < cond d 1 0) (sym f) (omega arith))

add-le : (a b c d : ℕ) → a ≤ b → c ≤ d → a + c ≤ b + d
add-le a b c d h k = omega arith

add-lt : (a b c d : ℕ) → a < b → c ≤ d → a + c < b + d
add-lt a b c d h k = omega arith

lt-add : (a b c d : ℕ) → a ≤ b → c < d → a + c < b + d
lt-add a b c d h k = omega arith

count-le : (p q : ℤ → Bool) (xs : List ℤ) → ((x : ℤ) → p x ≡ true → q x ≡ true) → how_many p xs ≤ how_many q xs
count-le p q [] h = omega arith
count-le p q (x ∷ xs) h =
    let a : cond (p x) 1 0 ≤ cond (q x) 1 0 = weight-le (p x) (q x) (h x) in
    let b : how_many p xs ≤ how_many q xs = count-le p q xs h in
    add-le (cond (p x) 1 0) (cond (q x) 1 0) (how_many p xs) (how_many q xs) a b

how_many-length : (p : ℤ → Bool) (xs : List ℤ) → how_many p xs ≤ length xs
how_many-length p [] = omega arith
how_many-length p (x ∷ xs) =
    let h : how_many p xs ≤ length xs = how_many-length p xs in
    let w : cond (p x) 1 0 ≤ 1 = weight-one (p x) in
    (let s : cond (p x) 1 0 + how_many p xs ≤ 1 + length xs = add-le (cond (p x) 1 0) 1 (how_many p xs) (length xs) w h in omega (arith, s))
  where
    weight-one : (b : Bool) → cond b 1 0 ≤ 1
    weight-one true = omega arith
    weight-one false = omega arith

count-lt : (p q : ℤ → Bool) (xs : List ℤ) (m : ℤ) → ((x : ℤ) → p x ≡ true → q x ≡ true) → Among xs m → p m ≡ false → q m ≡ true → how_many p xs < how_many q xs
count-lt p q [] m h k e f = absurd k
count-lt p q (x ∷ xs) m h (inl i) e f =
    let a : cond (p x) 1 0 < cond (q x) 1 0 = weight-lt (p x) (q x) (ap p (sym i) ∙ e) (ap q (sym i) ∙ f) in
    let b : how_many p xs ≤ how_many q xs = count-le p q xs h in
    add-lt (cond (p x) 1 0) (cond (q x) 1 0) (how_many p xs) (how_many q xs) a b
count-lt p q (x ∷ xs) m h (inr k) e f =
    let a : cond (p x) 1 0 ≤ cond (q x) 1 0 = weight-le (p x) (q x) (h x) in
    let b : how_many p xs < how_many q xs = count-lt p q xs m h k e f in
    lt-add (cond (p x) 1 0) (cond (q x) 1 0) (how_many p xs) (how_many q xs) a b

le-yes : (a b : ℤ) → a ≤ℤ b → int_le a b ≡ true
le-yes a b h = grind (arith, ints)

le-no : (a b : ℤ) → b <ℤ a → int_le a b ≡ false
le-no a b h = grind (arith, ints)

yes-le : (a b : ℤ) → int_le a b ≡ true → a ≤ℤ b
yes-le a b h = omega (arith, ints)

-- a lower bound that falls leaves no more stops below it, and one less where it passes a stop
pub below-le : (marks : List ℤ) (low now : ℤ) (stride : ℕ) → now ≤ℤ low → stops_below marks now stride ≤ stops_below marks low stride
unfolding stops_below
below-le marks low now stride l =
    count-le (λ m. int_le (m +ℤ pos stride) now) (λ m. int_le (m +ℤ pos stride) low) (stops marks) (λ x h. le-yes (x +ℤ pos stride) low (let k : (x +ℤ pos stride) ≤ℤ now = yes-le (x +ℤ pos stride) now h in omega (arith, ints)))

pub below-lt : (marks : List ℤ) (low now m : ℤ) (stride : ℕ) → now ≤ℤ low → Among (stops marks) m → now <ℤ (m +ℤ pos stride) → (m +ℤ pos stride) ≤ℤ low → stops_below marks now stride < stops_below marks low stride
unfolding stops_below
below-lt marks low now m stride l k a b =
    count-lt (λ m. int_le (m +ℤ pos stride) now) (λ m. int_le (m +ℤ pos stride) low) (stops marks) m (λ x h. le-yes (x +ℤ pos stride) low (let k : (x +ℤ pos stride) ≤ℤ now = yes-le (x +ℤ pos stride) now h in omega (arith, ints))) k
    (le-no (m +ℤ pos stride) now a) (le-yes (m +ℤ pos stride) low b)

pub above-le : (marks : List ℤ) (high now : ℤ) (stride : ℕ) → high ≤ℤ now → stops_above marks now stride ≤ stops_above marks high stride
unfolding stops_above
above-le marks high now stride l =
    count-le (λ m. int_le (now +ℤ pos stride) m) (λ m. int_le (high +ℤ pos stride) m) (stops marks) (λ x h. le-yes (high +ℤ pos stride) x (let k : (now +ℤ pos stride) ≤ℤ x = yes-le (now +ℤ pos stride) x h in omega (arith, ints)))

pub above-lt : (marks : List ℤ) (high now m : ℤ) (stride : ℕ) → high ≤ℤ now → Among (stops marks) m → m <ℤ (now +ℤ pos stride) → (high +ℤ pos stride) ≤ℤ m → stops_above marks now stride < stops_above marks high stride
unfolding stops_above
above-lt marks high now m stride l k a b =
    count-lt (λ m. int_le (now +ℤ pos stride) m) (λ m. int_le (high +ℤ pos stride) m) (stops marks) m (λ x h. le-yes (high +ℤ pos stride) x (let k : (now +ℤ pos stride) ≤ℤ x = yes-le (now +ℤ pos stride) x h in omega (arith, ints))) k
    (le-no (now +ℤ pos stride) m a) (le-yes (high +ℤ pos stride) m b)

below-few : (marks : List ℤ) (low : ℤ) (stride : ℕ) → stops_below marks low stride ≤ length marks + 2
unfolding stops_below
below-few marks low stride = let h : how_many (λ m. int_le (m +ℤ pos stride) low) (stops marks) ≤ length (stops marks) = how_many-length (λ m. int_le (m +ℤ pos stride) low) (stops marks) in omega arith

above-few : (marks : List ℤ) (high : ℤ) (stride : ℕ) → stops_above marks high stride ≤ length marks + 2
unfolding stops_above
above-few marks high stride = let h : how_many (λ m. int_le (high +ℤ pos stride) m) (stops marks) ≤ length (stops marks) = how_many-length (λ m. int_le (high +ℤ pos stride) m) (stops marks) in omega arith

-- ---- digits

record Digits (n m : ℕ) : Type 0 where
  below : n < 2 ^ m
  above : 2 ^ m ≤ 2 * n + 1

digits-is : (n : ℕ) → n < 2 ^ 128 → Digits n (digits n)
unfolding digits
digits-is n h =
    let (m, e, a, b) = leading_length 128 n h in
    let d : m ≡ 128 - count_leading_zeros 128 n = omega arith in
    subst (Digits n) d (record { below = a; above = b })

digits-few : (n : ℕ) → n < 2 ^ 119 → digits n ≤ 119
digits-few n h =
    let d : Digits n (digits n) = digits-is n (omega arith) in
    elim (cases_lt 119 (digits n)) [ inl l ↦ absurd (over n (digits n) h d l) | inr l ↦ l ]
  where
    over : (n m : ℕ) → n < 2 ^ 119 → Digits n m → 119 < m → ⊥
    over n m h d l =
        let p : 2 ^ 120 ≤ 2 ^ m = pow-le-pow_right (omega arith) l in
        let a = d.above in
        omega arith

digits-fall : (a b : ℕ) → 0 < a → 2 * a ≤ b → b < 2 ^ 119 → digits a < digits b
digits-fall a b p h l =
    let x : Digits a (digits a) = digits-is a (omega arith) in
    let y : Digits b (digits b) = digits-is b (omega arith) in
    elim (cases_lt (digits a) (digits b)) [ inl q ↦ q | inr q ↦ absurd (over a b (digits a) (digits b) p h x y q) ]
  where
    over : (a b m n : ℕ) → 0 < a → 2 * a ≤ b → Digits a m → Digits b n → n ≤ m → ⊥
    over a b zero n p h x y q = let l = x.below in absurd (omega arith)
    over a b (suc m) n p h x y q =
        let k : 2 ^ n ≤ 2 ^ suc m = pow-le-pow_right (omega arith) q in
        let e : 2 ^ suc m ≡ 2 * 2 ^ m = pow-succ' 2 m in
        let u = x.above in
        let v = y.below in
        omega arith

-- ---- ranks

stride_below : (p : Progression) → IsLongRun p → p.stride < 2 ^ 119
stride_below p l =
    let a = l.first.least in
    let b = l.last.greatest in
    let c = l.long in
    omega (arith, ints)

rank-many : (marks : List ℤ) (p : Progression) → IsLongRun p → rank marks (Many p) < 120 * moves marks
rank-many marks p l =
    let d : digits p.stride ≤ 119 = digits-few p.stride (stride_below p l) in
    let m : digits p.stride * moves marks ≤ 119 * moves marks = mul-le (digits p.stride) (moves marks) 119 (moves marks) d (omega arith) in
    let a : stops_below marks p.low p.stride ≤ length marks + 2 = below-few marks p.low p.stride in
    let b : stops_above marks p.high p.stride ≤ length marks + 2 = above-few marks p.high p.stride in
    omega arith

-- no rank is greater
pub rank_small : (marks : List ℤ) (s : Shape) → IsValid s → rank marks s ≤ longest_chain marks
rank_small marks (Few v) h = omega arith
rank_small marks (Many p) h = let l : rank marks (Many p) < 120 * moves marks = rank-many marks p h in omega arith

-- a finer stride has a lower rank, whatever the bounds
rank-finer : (marks : List ℤ) (p q : Progression) → IsLongRun p → IsLongRun q → 2 * q.stride ≤ p.stride → rank marks (Many q) < rank marks (Many p)
rank-finer marks p q l k h =
    let d : digits q.stride < digits p.stride = digits-fall q.stride p.stride k.moves h (stride_below p l) in
    let m : suc (digits q.stride) * moves marks ≤ digits p.stride * moves marks = mul-le (suc (digits q.stride)) (moves marks) (digits p.stride) (moves marks) d (omega arith) in
    let a : stops_below marks q.low q.stride ≤ length marks + 2 = below-few marks q.low q.stride in
    let b : stops_above marks q.high q.stride ≤ length marks + 2 = above-few marks q.high q.stride in
    omega arith

-- a proper divisor is at most a half
half : (a b : ℕ) → 0 < b → a ∣ b → (a ≡ b) ⊎ (2 * a ≤ b)
half a b p h = by_quotient a b (b / a) p (div-mul_cancel a h)
  where
    by_quotient : (a b k : ℕ) → 0 < b → k * a ≡ b → (a ≡ b) ⊎ (2 * a ≤ b)
    by_quotient a b zero p e = absurd (omega arith)
    by_quotient a b (suc zero) p e = inl (omega arith)
    by_quotient a b (suc (suc k)) p e = inr (omega arith)

-- ---- small sets

-- an ascending list inside another one of the same length is that list
same_length : (xs ys : List ℤ) → IsAscending xs → IsAscending ys → Inside xs ys → length ys ≤ length xs → xs ≡ ys
same_length [] [] a b h l = refl
same_length [] (y ∷ ys) a b h l = absurd (omega arith)
same_length (x ∷ xs) [] a b h l = absurd (h.has x (inl refl))
same_length (x ∷ xs) (y ∷ ys) a b h l =
    elim (h.has x (inl refl)) [
      | inl e ↦
          let above : (n : ℤ) → Among xs n → y <ℤ n = λ n m. subst (λ z. z <ℤ n) e (AllAbove-among x xs a.0 n m) in
          let f : Inside xs ys = not_head xs y ys above (record { has = λ n m. h.has n (inr m) }) in
          ap (λ z. z ∷ xs) e ∙ ap (λ zs. y ∷ zs) (same_length xs ys a.1 b.1 f (omega arith))
      | inr k ↦
          let low : y <ℤ x = AllAbove-among y ys b.0 x k in
          let f : Inside (x ∷ xs) ys = not_head (x ∷ xs) y ys (λ n m. above_both y x xs a.0 low n m) h in
          let less : length (x ∷ xs) ≤ length ys = fits (x ∷ xs) ys a b.1 f in
          absurd (omega arith)
    ]
  where
    above_both : (y x : ℤ) (xs : List ℤ) → AllAbove x xs → y <ℤ x → (n : ℤ) → Among (x ∷ xs) n → y <ℤ n
    above_both y x xs h low n (inl e) = subst (λ z. y <ℤ z) (sym e) low
    above_both y x xs h low n (inr m) = let l : x <ℤ n = AllAbove-among x xs h n m in omega (arith, ints)

-- ---- the numbers next to an end

-- a number some moduli below another leaves the same
on_step : (f r rem : ℤ) (m k : ℕ) → 0 < m → r ≡ f +ℤ pos (k * m) → int_rem_euclid r (pos m) ≡ rem → int_rem_euclid f (pos m) ≡ rem
on_step f r rem m k p e h =
    let x = leaving f m p in
    let d : m ∣ apart f r = subst (λ y. m ∣ y) (sym (ap (apart f) e ∙ apart_onto f (k * m))) (dvd-mul_left m k) in
    x.is ∙ sym (same_leaves f r m x.rest p x.below d x.is) ∙ h

-- the least number of a range with a number r in it lies less than a modulus above its lower end
near_lower : (lower upper rem r : ℤ) (m : ℕ) → 0 < m → InRange lower upper rem (pos m) r → (f : ℤ) × (f <ℤ (lower +ℤ pos m)) × InRange lower upper rem (pos m) f
near_lower lower upper rem r m p i =
    let e : r ≡ lower +ℤ pos (apart lower r) = apart_is lower r i.above in
    let s = div-add-mod' (apart lower r) m in
    let b : apart lower r % m < m = mod_below (apart lower r) m p in (
      lower +ℤ pos (apart lower r % m),
      omega (arith, ints),
      record {
        above = omega (arith, ints);
        below = (let u : r ≤ℤ upper = i.below in omega (arith, ints));
        leaves = on_step (lower +ℤ pos (apart lower r % m)) r rem m (apart lower r / m) p (omega (arith, ints)) i.leaves;
      },
    )

up_step : (r f rem : ℤ) (m k : ℕ) → 0 < m → f ≡ r +ℤ pos (k * m) → int_rem_euclid r (pos m) ≡ rem → int_rem_euclid f (pos m) ≡ rem
up_step r f rem m k p e h =
    let x = leaving r m p in
    let d : m ∣ apart r f = subst (λ y. m ∣ y) (sym (ap (apart r) e ∙ apart_onto r (k * m))) (dvd-mul_left m k) in
    same_leaves r f m x.rest p x.below d x.is ∙ sym x.is ∙ h

near_upper : (lower upper rem r : ℤ) (m : ℕ) → 0 < m → InRange lower upper rem (pos m) r → (f : ℤ) × (upper <ℤ (f +ℤ pos m)) × InRange lower upper rem (pos m) f
near_upper lower upper rem r m p i =
    let e : upper ≡ r +ℤ pos (apart r upper) = apart_is r upper i.below in
    let s = div-add-mod' (apart r upper) m in
    let b : apart r upper % m < m = mod_below (apart r upper) m p in (
      r +ℤ pos (apart r upper / m * m),
      omega (arith, ints),
      record {
        above = (let l : lower ≤ℤ r = i.above in omega (arith, ints));
        below = omega (arith, ints);
        leaves = up_step r (r +ℤ pos (apart r upper / m * m)) rem m (apart r upper / m) p refl i.leaves;
      },
    )

-- ---- one widening

-- what is known of a and v where both are long and the stride stays
record Steady (marks : List ℤ) (p q : Progression) : Type 0 where
  long_p : IsLongRun p
  long_q : IsLongRun q
  wider : Wider q p
  same : q.stride ≡ p.stride

-- a bound that passes a stop lowers the rank
rank-lower : (marks : List ℤ) (p q : Progression) (m : ℤ) → Steady marks p q → Among (stops marks) m → q.low <ℤ (m +ℤ pos p.stride) → (m +ℤ pos p.stride) ≤ℤ p.low → rank marks (Many q) < rank marks (Many p)
rank-lower marks p q m s k a b =
    let low = s.wider.low in
    let high = s.wider.high in
    let x : stops_below marks q.low p.stride < stops_below marks p.low p.stride = below-lt marks p.low q.low m p.stride low k a b in
    let y : stops_above marks q.high p.stride ≤ stops_above marks p.high p.stride = above-le marks p.high q.high p.stride high in
    subst (λ t. digits t * moves marks + stops_below marks q.low t + stops_above marks q.high t < rank marks (Many p)) (sym s.same) (omega arith)

rank-upper : (marks : List ℤ) (p q : Progression) (m : ℤ) → Steady marks p q → Among (stops marks) m → m <ℤ (q.high +ℤ pos p.stride) → (p.high +ℤ pos p.stride) ≤ℤ m → rank marks (Many q) < rank marks (Many p)
rank-upper marks p q m s k a b =
    let low = s.wider.low in
    let high = s.wider.high in
    let x : stops_below marks q.low p.stride ≤ stops_below marks p.low p.stride = below-le marks p.low q.low p.stride low in
    let y : stops_above marks q.high p.stride < stops_above marks p.high p.stride = above-lt marks p.high q.high m p.stride high k a b in
    subst (λ t. digits t * moves marks + stops_below marks q.low t + stops_above marks q.high t < rank marks (Many p)) (sym s.same) (omega arith)

-- the join of the widening, where it is long
record Joined (p q r : Progression) (joined : Ival) : Type 0 where
  shape : joined.shape ≡ Many r
  long : IsLongRun r
  over : Wider r p
  under : Wider q r

-- the modulus of a long set is no greater than its stride
modulus_small : (joined : Ival) (r : Progression) (rem modulus : ℤ) → joined.shape ≡ Many r → IsLongRun r → IsCongruence joined rem modulus → (m : ℕ) × (modulus ≡ pos m) × (0 < m) × (m ≤ r.stride)
modulus_small joined r rem (pos m) e l c =
    let p : 0 < m = (let a = c.rest in let b = c.below in omega (arith, ints)) in
    let x : int_rem_euclid r.low (pos m) ≡ rem = c.leaves r.low (subst (λ s. Has s r.low) (sym e) (Steps-low r l)) in
    let y : int_rem_euclid (r.low +ℤ pos r.stride) (pos m) ≡ rem = c.leaves (r.low +ℤ pos r.stride) (subst (λ s. Has s (r.low +ℤ pos r.stride)) (sym e) (Steps-second r l)) in
    let k = leaving r.low m p in
    let d : m ∣ apart r.low (r.low +ℤ pos r.stride) = leaves_same r.low (r.low +ℤ pos r.stride) m k.rest p k.is (y ∙ sym x ∙ k.is) in
    (m, refl, p, le_of_dvd l.moves (Steps-at_divisor m r.low r.stride d))
modulus_small joined r rem (negsuc m) e l c = let a = c.rest in let b = c.below in absurd (omega (arith, ints))

-- the next number of a run beyond another run's start or end is a stride away
stride_before : (p r : Progression) → r.low <ℤ p.low → r.stride ∣ apart r.low p.low → (r.low +ℤ pos r.stride) ≤ℤ p.low
stride_before p r l d =
    let e : p.low ≡ r.low +ℤ pos (apart r.low p.low) = apart_is r.low p.low (omega (arith, ints)) in
    let k : r.stride ≤ apart r.low p.low = le_of_dvd (omega (arith, ints)) d in
    omega (arith, ints)

stride_after : (p r : Progression) → p.high <ℤ r.high → r.stride ∣ apart p.high r.high → (p.high +ℤ pos r.stride) ≤ℤ r.high
stride_after p r l d =
    let e : r.high ≡ p.high +ℤ pos (apart p.high r.high) = apart_is p.high r.high (omega (arith, ints)) in
    let k : r.stride ≤ apart p.high r.high = le_of_dvd (omega (arith, ints)) d in
    omega (arith, ints)

ends_meet : (p r : Progression) → Wider r p → IsLongRun p → IsLongRun r → r.stride ∣ apart p.high r.high
ends_meet p r w l k =
    let s : Steps r p.high = Wider-steps r p w p.high (Steps-high p l) in
    let t : Steps r r.high = Steps-high r k in
    meets_on r.stride p.high r.low r.high (meets_back r.stride r.low p.high s.meets) t.meets

-- an unstable lower bound passes the stop that it goes to
falls-lower : (marks : List ℤ) (joined v : Ival) (p q r : Progression) (low high : ℤ) → Steady marks p q → Joined p q r joined → r.stride ≡ p.stride → v.shape ≡ Many q → low ≡ p.low → (w : MovesTo marks low high joined v) → w.least ≡ r.low → w.least <ℤ low → rank marks (Many q) < rank marks (Many p)
falls-lower marks joined v p q r low high s j t e i w x l =
    let (m, me, mp, ml) = modulus_small joined r w.rem w.modulus j.shape j.long w.congruence in
    let mark : IsMarkBelow marks w.least w.lower = w.lower_is.moves l in
    let numbers : (n : ℤ) → Holds v n ↔ InRange w.lower w.upper w.rem (pos (modulus_small joined r w.rem w.modulus j.shape j.long w.congruence).0) n =
    subst (λ y. (n : ℤ) → Holds v n ↔ InRange w.lower w.upper w.rem y n) me w.numbers in
    let inside = (numbers r.low).0 (subst (λ y. Has y r.low) (sym e) (Wider-steps q r j.under r.low (Steps-low r j.long))) in
    let (f, fn, fi) = near_lower w.lower w.upper w.rem r.low (modulus_small joined r w.rem w.modulus j.shape j.long w.congruence).0 mp inside in
    let held : Steps q (near_lower w.lower w.upper w.rem r.low (modulus_small joined r w.rem w.modulus j.shape j.long w.congruence).0 mp inside).0 = subst (λ y. Has y (near_lower w.lower w.upper w.rem r.low (modulus_small joined r w.rem w.modulus j.shape j.long w.congruence).0 mp inside).0) e ((numbers f).1 fi) in
    let a : q.low ≤ℤ (near_lower w.lower w.upper w.rem r.low (modulus_small joined r w.rem w.modulus j.shape j.long w.congruence).0 mp inside).0 = held.above in
    let b : (r.low +ℤ pos r.stride) ≤ℤ p.low = stride_before p r (omega (arith, ints)) j.over.start in
    let c : w.lower ≤ℤ w.least = mark.below in
    rank-lower marks p q w.lower s (elim mark.mark [ inl k ↦ inr (inr k) | inr k ↦ inl k ]) (omega (arith, ints)) (omega (arith, ints))

falls-upper : (marks : List ℤ) (joined v : Ival) (p q r : Progression) (low high : ℤ) → Steady marks p q → Joined p q r joined → r.stride ≡ p.stride → v.shape ≡ Many q → high ≡ p.high → (w : MovesTo marks low high joined v) → w.greatest ≡ r.high → high <ℤ w.greatest → rank marks (Many q) < rank marks (Many p)
falls-upper marks joined v p q r low high s j t e i w x l =
    let (m, me, mp, ml) = modulus_small joined r w.rem w.modulus j.shape j.long w.congruence in
    let mark : IsMarkAbove marks w.greatest w.upper = w.upper_is.moves l in
    let numbers : (n : ℤ) → Holds v n ↔ InRange w.lower w.upper w.rem (pos (modulus_small joined r w.rem w.modulus j.shape j.long w.congruence).0) n =
    subst (λ y. (n : ℤ) → Holds v n ↔ InRange w.lower w.upper w.rem y n) me w.numbers in
    let inside = (numbers r.low).0 (subst (λ y. Has y r.low) (sym e) (Wider-steps q r j.under r.low (Steps-low r j.long))) in
    let (f, fn, fi) = near_upper w.lower w.upper w.rem r.low (modulus_small joined r w.rem w.modulus j.shape j.long w.congruence).0 mp inside in
    let held : Steps q (near_upper w.lower w.upper w.rem r.low (modulus_small joined r w.rem w.modulus j.shape j.long w.congruence).0 mp inside).0 = subst (λ y. Has y (near_upper w.lower w.upper w.rem r.low (modulus_small joined r w.rem w.modulus j.shape j.long w.congruence).0 mp inside).0) e ((numbers f).1 fi) in
    let a : (near_upper w.lower w.upper w.rem r.low (modulus_small joined r w.rem w.modulus j.shape j.long w.congruence).0 mp inside).0 ≤ℤ q.high = held.below in
    let b : (p.high +ℤ pos r.stride) ≤ℤ r.high = stride_after p r (omega (arith, ints)) (ends_meet p r j.over s.long_p j.long) in
    let c : w.greatest ≤ℤ w.upper = mark.above in
    rank-upper marks p q w.upper s (elim mark.mark [ inl k ↦ inr (inr k) | inr k ↦ inr (inl k) ]) (omega (arith, ints)) (omega (arith, ints))

-- ---- the law

-- where both are long, and the stride stays
steady_falls : (marks : List ℤ) (a b v : Ival) (p q : Progression) → IsWidening a b marks v → a.shape ≡ Many p → v.shape ≡ Many q → Steady marks p q → (v ≡ a) ⊎ (rank marks (Many q) < rank marks (Many p))
steady_falls marks a b v p q w e f s =
    elim w.how [
      | inl n ↦ absurd (n.0 p.low (subst (λ t. Has t p.low) (sym e) (Steps-low p s.long_p)))
      | inr h ↦
          let low : h.low ≡ p.low = low_same a h.low h.high p.low p.high h.bounds (IsBounds-many a p e) in
          let high : h.high ≡ p.high = high_same a h.low h.high p.low p.high h.bounds (IsBounds-many a p e) in
          elim h.way [
            | inl k ↦ inl (kept marks a v p q e f s h.low h.high w.joined k low high)
            | inr k ↦ inr (moved marks a b v w.joined w.join w.holds p q e f s h.low h.high low high k w.joined.shape refl)
          ]
    ]
  where
    -- the join is the answer, and has the bounds and the stride of a
    kept : (marks : List ℤ) (a v : Ival) (p q : Progression) → a.shape ≡ Many p → v.shape ≡ Many q → Steady marks p q → (low high : ℤ) (joined : Ival) → Stays low high joined v → low ≡ p.low → high ≡ p.high → v ≡ a
    kept marks a v p q e f s low high joined k x y =
        let shape : joined.shape ≡ Many q = sym (ap (λ u. u.shape) k.same) ∙ f in
        let least : k.least ≡ q.low = low_same joined k.least k.greatest q.low q.high k.bounds (IsBounds-many joined q shape) in
        let greatest : k.greatest ≡ q.high = high_same joined k.least k.greatest q.low q.high k.bounds (IsBounds-many joined q shape) in
        let l = k.low_kept in
        let h = k.high_kept in
        let m = s.wider.low in
        let n = s.wider.high in
        let same_low : q.low ≡ p.low = omega (arith, ints) in
        let same_high : q.high ≡ p.high = omega (arith, ints) in
        same_ival v a (f
        ∙ ap (λ z. Many (record { low = z; high = q.high; stride = q.stride })) same_low
        ∙ ap (λ z. Many (record { low = p.low; high = z; stride = q.stride })) same_high
        ∙ ap (λ z. Many (record { low = p.low; high = p.high; stride = z })) s.same
        ∙ sym e)

    -- some bound of the join is unstable
    moved : (marks : List ℤ) (a b v joined : Ival) → IsJoin a b joined → Includes v joined → (p q : Progression) → a.shape ≡ Many p → v.shape ≡ Many q → Steady marks p q → (low high : ℤ) → low ≡ p.low → high ≡ p.high → MovesTo marks low high joined v → (t : Shape) → joined.shape ≡ t → rank marks (Many q) < rank marks (Many p)
    moved marks a b v joined j i p q e f s low high x y k (Few few) g =
        absurd (run_outside p few.items s.long_p (subst IsValid g joined.valid) (λ n h. subst (λ t. Has t n) g (j.first n (subst (λ t. Has t n) (sym e) h))))
    moved marks a b v joined j i p q e f s low high x y k (Many r) g =
        let long : IsLongRun r = subst IsValid g joined.valid in
        let over : Wider r p = Wider-from r p s.long_p (λ n h. subst (λ t. Has t n) g (j.first n (subst (λ t. Has t n) (sym e) h))) in
        let under : Wider q r = Wider-from q r long (λ n h. subst (λ t. Has t n) f (i n (subst (λ t. Has t n) (sym g) h))) in
        let all : Joined p q r joined = record { shape = g; long = long; over = over; under = under } in
        let stride : r.stride ≡ p.stride = dvd_antisymm over.stride (subst (λ z. z ∣ r.stride) s.same under.stride) in
        let least : k.least ≡ r.low = low_same joined k.least k.greatest r.low r.high k.bounds (IsBounds-many joined r g) in
        let greatest : k.greatest ≡ r.high = high_same joined k.least k.greatest r.low r.high k.bounds (IsBounds-many joined r g) in
        elim k.unstable [
          | inl l ↦ falls-lower marks joined v p q r low high s all stride f x k least l
          | inr l ↦ falls-upper marks joined v p q r low high s all stride f y k greatest l
        ]

pub widening_falls : (marks : List ℤ) (a b v : Ival) → IsWidening a b marks v → Falls marks a v
widening_falls marks a b v w = by_shapes marks a b v w (λ n h. w.holds n (w.join.first n h)) a.shape v.shape refl refl
  where
    by_shapes : (marks : List ℤ) (a b v : Ival) → IsWidening a b marks v → Includes v a → (s t : Shape) → a.shape ≡ s → v.shape ≡ t → Falls marks a v
    by_shapes marks a b v w i (Few x) (Few y) e f =
        let sa : IsSmallSet x.items = subst IsValid e a.valid in
        let sv : IsSmallSet y.items = subst IsValid f v.valid in
        let inside : Inside x.items y.items = record { has = λ n m. subst (λ t. Has t n) f (i n (subst (λ t. Has t n) (sym e) m)) } in
        record {
          falls = elim (cases_lt (length x.items) (length y.items)) [
            | inl l ↦ inr (subst (λ t. rank marks v.shape < rank marks t) (sym e) (subst (λ t. rank marks t < rank marks (Few x)) (sym f) (let k = sv.small in omega arith)))
            | inr l ↦ inl (same_ival v a (f ∙ ap (λ z. Few (record { items = z })) (sym (same_length x.items y.items sa.ascending sv.ascending inside l)) ∙ sym e))
          ];
        }
    by_shapes marks a b v w i (Few x) (Many q) e f =
        let l : rank marks (Many q) < 120 * moves marks = rank-many marks q (subst IsValid f v.valid) in
        record { falls = inr (subst (λ t. rank marks v.shape < rank marks t) (sym e) (subst (λ t. rank marks t < rank marks (Few x)) (sym f) (omega arith))) }
    by_shapes marks a b v w i (Many p) (Few y) e f =
        absurd (run_outside p y.items (subst IsValid e a.valid) (subst IsValid f v.valid) (λ n h. subst (λ t. Has t n) f (i n (subst (λ t. Has t n) (sym e) h))))
    by_shapes marks a b v w i (Many p) (Many q) e f =
        let long_p : IsLongRun p = subst IsValid e a.valid in
        let long_q : IsLongRun q = subst IsValid f v.valid in
        let wider : Wider q p = Wider-from q p long_p (λ n h. subst (λ t. Has t n) f (i n (subst (λ t. Has t n) (sym e) h))) in
        record {
          falls = elim (half q.stride p.stride long_p.moves wider.stride) [
            | inl k ↦ elim (steady_falls marks a b v p q w e f (record { long_p = long_p; long_q = long_q; wider = wider; same = k })) [
              | inl z ↦ inl z
              | inr z ↦ inr (subst (λ t. rank marks v.shape < rank marks t) (sym e) (subst (λ t. rank marks t < rank marks (Many p)) (sym f) z))
            ]
            | inr k ↦ inr (subst (λ t. rank marks v.shape < rank marks t) (sym e) (subst (λ t. rank marks t < rank marks (Many p)) (sym f) (rank-finer marks p q long_p long_q k)))
          ];
        }

-- the law: a chain of widenings that each change the set is no longer than its first rank
pub chain_ranked : (marks : List ℤ) (v : Ival) (rest : List Ival) → IsChain marks v rest → length rest ≤ rank marks v.shape
chain_ranked marks v [] c = omega arith
chain_ranked marks v (w ∷ rest) c =
    let k : length rest ≤ rank marks w.shape = chain_ranked marks w rest c.2 in
    elim (widening_falls marks v c.0.0 w c.0.1).falls [
      | inl e ↦ absurd (c.1 e)
      | inr l ↦ omega arith
    ]

pub chain_ends : (marks : List ℤ) (v : Ival) (rest : List Ival) → IsChain marks v rest → length rest ≤ longest_chain marks
chain_ends marks v rest c =
    let a : length rest ≤ rank marks v.shape = chain_ranked marks v rest c in
    let b : rank marks v.shape ≤ longest_chain marks = rank_small marks v.shape v.valid in
    omega arith

-- ---- what makes a widening

pub widening_none : (a b : Ival) (marks : List ℤ) (joined : Ival) → IsJoin a b joined → ((n : ℤ) → Holds a n → ⊥) → IsWidening a b marks joined
widening_none a b marks joined j f = record { joined = joined; join = j; holds = λ n h. h; how = inl (f, refl) }

pub widening_some : (a b : Ival) (marks : List ℤ) (joined v : Ival) (low high : ℤ) → IsJoin a b joined → Includes v joined → IsBounds a low high → Stays low high joined v ⊎ MovesTo marks low high joined v → IsWidening a b marks v
widening_some a b marks joined v low high j i bounds way = record {
  joined = joined;
  join = j;
  holds = i;
  how = inr (record { low = low; high = high; bounds = bounds; way = way });
}
