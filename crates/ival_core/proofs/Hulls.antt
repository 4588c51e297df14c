-- The least progression that holds some numbers.
use Rattle.std.proofs.Common.{◌≡◌, ◌⊎◌, ℕ, ◌+◌, ◌*◌, ◌<◌, ◌≤◌, ℤ, pos, ◌+ℤ◌, ◌-ℤ◌, List, [], ◌∷◌, length, take, take_all, get_or, refl, sym, subst, ◌∙◌, inl, inr, arith}
use Rattle.std.proofs.lemmas.Int.{ints, by_lt_z, clamps}
use Rattle.std.specs.Int.{◌∣◌, int_min, int_max, IsGcd}
use Rattle.std.specs.Prelude.{unsigned_abs}
use Rattle.std.proofs.Math.Nat.{dvd_trans, dvd-zero, eq-zero_of_zero-dvd}
use Rattle.std.proofs.lemmas.Nat.Gcd.{mod-eq-zero_of_dvd}
use lib.Signed.{◌<ℤ◌, ◌≤ℤ◌, ≤ℤ_refl}
use Rattle.ival_core.specs.declared.value.Progression.{Progression}
use Rattle.ival_core.specs.declared.value.Shape.{Shape}
use Rattle.ival_core.specs.declared.value.Shape.TheVariants.{Few, Many}
use Rattle.ival_core.specs.Sets.{apart, Steps, IsNumber, IsLongRun, IsValid, IsLeast, HoldsNine, Has, Among, steps_from}
use Rattle.ival_core.specs.Hulls.{Spans, IsHull}
use Rattle.ival_core.proofs.Counting.{Inside, fits, Among-take_left, Among-take_more}
use Rattle.ival_core.proofs.Ends.{Among-at}
use Rattle.ival_core.proofs.Distances.{meets_self, meets_back, meets_on, apart_is, apart-swap}
use Rattle.ival_core.proofs.Runs.{length-steps_from, Steps-low, Steps-high, Steps-second, Steps-at_divisor, Steps-among, steps_from-ascending}

-- no progression that holds all of P is smaller
pub Spans-within : (P : ℤ → Type 0) (p u : Progression) → Spans P p → ((n : ℤ) → P n → Steps u n) → (n : ℤ) → Steps p n → Steps u n
Spans-within P p u h all n s =
    let low : Steps u p.low = all p.low h.first in
    let high : Steps u p.high = all p.high h.last in
    let fine : u.stride ∣ p.stride = h.finest u.stride (λ k m. meets_on u.stride p.low u.low k (meets_back u.stride u.low p.low low.meets) (all k m).meets) in
    record {
      above = let a : p.low ≤ℤ n = s.above in let b : u.low ≤ℤ p.low = low.above in omega (arith, ints);
      below = let a : n ≤ℤ p.high = s.below in let b : p.high ≤ℤ u.high = high.below in omega (arith, ints);
      meets = meets_on u.stride u.low p.low n low.meets (dvd_trans u.stride fine s.meets);
    }

pub Spans-same : (P Q : ℤ → Type 0) (p : Progression) → ((n : ℤ) → P n → Q n) → ((n : ℤ) → Q n → P n) → Spans P p → Spans Q p
Spans-same P Q p f g h = record {
  first = f p.low h.first;
  last = f p.high h.last;
  covers = λ n m. h.covers n (g n m);
  finest = λ d k. h.finest d (λ n m. k n (f n m));
}

pub Spans-one : (n : ℤ) → Spans (λ k. k ≡ n) (record { low = n; high = n; stride = 0 })
Spans-one n = record {
  first = refl;
  last = refl;
  covers = λ k e. record {
    above = subst (λ x. n ≤ℤ x) (sym e) (≤ℤ_refl n);
    below = subst (λ x. x ≤ℤ n) (sym e) (≤ℤ_refl n);
    meets = subst (λ x. 0 ∣ apart n x) (sym e) (meets_self 0 n);
  };
  finest = λ d k. dvd-zero d;
}

-- a long run spans its own numbers
pub Spans-run : (p : Progression) → IsLongRun p → Spans (Steps p) p
Spans-run p l = record {
  first = Steps-low p l;
  last = Steps-high p l;
  covers = λ n s. s;
  finest = λ d k. Steps-at_divisor d p.low p.stride (k (p.low +ℤ pos p.stride) (Steps-second p l));
}

-- the low end is that of one of the two, and so is the high end
record Corners (p q r : Progression) : Type 0 where
  low_is : (r.low ≡ p.low) ⊎ (r.low ≡ q.low)
  low_p : r.low ≤ℤ p.low
  low_q : r.low ≤ℤ q.low
  high_is : (r.high ≡ p.high) ⊎ (r.high ≡ q.high)
  high_p : p.high ≤ℤ r.high
  high_q : q.high ≤ℤ r.high

corners : (p q r : Progression) → IsHull p q r → Corners p q r
corners p q r u =
    let e = u.low in
    let f = u.high in
    record {
      low_is = by_lt_z p.low q.low (λ l. inl (omega (arith, ints, clamps, e))) (λ l. inr (omega (arith, ints, clamps, e)));
      low_p = omega (arith, ints, clamps, e);
      low_q = omega (arith, ints, clamps, e);
      high_is = by_lt_z p.high q.high (λ l. inr (omega (arith, ints, clamps, f))) (λ l. inl (omega (arith, ints, clamps, f)));
      high_p = omega (arith, ints, clamps, f);
      high_q = omega (arith, ints, clamps, f);
    }

-- the stride of the hull divides the distances from its low end to both starts
record Started (p q r : Progression) : Type 0 where
  to_p : r.stride ∣ apart r.low p.low
  to_q : r.stride ∣ apart r.low q.low

started : (p q r : Progression) → IsHull p q r → Started p q r
started p q r u =
    elim (corners p q r u).low_is [
      | inl e ↦ record {
        to_p = subst (λ x. r.stride ∣ apart x p.low) (sym e) (meets_self r.stride p.low);
        to_q = subst (λ x. r.stride ∣ apart x q.low) (sym e) u.between;
      }
      | inr e ↦ record {
        to_p = subst (λ x. r.stride ∣ apart x p.low) (sym e) (meets_back r.stride p.low q.low u.between);
        to_q = subst (λ x. r.stride ∣ apart x q.low) (sym e) (meets_self r.stride q.low);
      }
    ]

-- a progression inside another in its bounds, start and stride
pub Steps-wider : (p r : Progression) (n : ℤ) → r.low ≤ℤ p.low → p.high ≤ℤ r.high → r.stride ∣ apart r.low p.low → r.stride ∣ p.stride → Steps p n → Steps r n
Steps-wider p r n l h m d s = record {
  above = let a : p.low ≤ℤ n = s.above in omega (arith, ints);
  below = let b : n ≤ℤ p.high = s.below in omega (arith, ints);
  meets = meets_on r.stride r.low p.low n m (dvd_trans r.stride d s.meets);
}

-- the hull of two progressions spans what the two span
pub Spans-hull : (P Q : ℤ → Type 0) (p q r : Progression) → Spans P p → Spans Q q → IsHull p q r → Spans (λ n. P n ⊎ Q n) r
Spans-hull P Q p q r h k u =
    let c : Corners p q r = corners p q r u in
    let s : Started p q r = started p q r u in
    record {
      first = elim c.low_is [ inl e ↦ inl (subst P (sym e) h.first) | inr e ↦ inr (subst Q (sym e) k.first) ];
      last = elim c.high_is [ inl e ↦ inl (subst P (sym e) h.last) | inr e ↦ inr (subst Q (sym e) k.last) ];
      covers = λ n m. elim m [
        | inl a ↦ Steps-wider p r n c.low_p c.high_p s.to_p u.first (h.covers n a)
        | inr b ↦ Steps-wider q r n c.low_q c.high_q s.to_q u.second (k.covers n b)
      ];
      finest = λ d f.
          let p_back : d ∣ apart p.low r.low = meets_back d r.low p.low (f p.low (inl h.first)) in
          let q_back : d ∣ apart q.low r.low = meets_back d r.low q.low (f q.low (inr k.first)) in
          u.greatest d
          (h.finest d (λ n m. meets_on d p.low r.low n p_back (f n (inl m))))
          (k.finest d (λ n m. meets_on d q.low r.low n q_back (f n (inr m))))
          (meets_on d p.low r.low q.low p_back (f q.low (inr k.first)));
    }

-- where 9 numbers have P, a progression that spans P has a stride, and is long
pub Spans-long : (P : ℤ → Type 0) (r : Progression) → HoldsNine P → ((n : ℤ) → P n → IsNumber n) → Spans P r → IsLongRun r
Spans-long P r nine numbers h =
    let moves : 0 < r.stride = by_zero r.stride (λ e. none_still r nine e h) in
    record {
      first = numbers r.low h.first;
      last = numbers r.high h.last;
      moves = moves;
      long = by_lt_z r.high (r.low +ℤ pos (8 * r.stride)) (λ l. absurd (not_short r nine moves l h)) (λ l. l);
      meets = mod-eq-zero_of_dvd r.stride (h.covers r.high h.last).meets;
    }
  where
    by_zero : (k : ℕ) → (k ≡ 0 → ⊥) → 0 < k
    by_zero k h = grind arith

    still : (r : Progression) (n : ℤ) → r.stride ≡ 0 → Steps r n → n ≡ r.low
    still r n e s =
        let z : apart r.low n ≡ 0 = eq-zero_of_zero-dvd (subst (λ k. k ∣ apart r.low n) e s.meets) in
        let i : n ≡ r.low +ℤ pos (apart r.low n) = apart_is r.low n s.above in
        omega (arith, ints)

    none_still : (r : Progression) → HoldsNine P → r.stride ≡ 0 → Spans P r → ⊥
    none_still r nine e h =
        let inside : Inside nine.some (r.low ∷ []) = record { has = λ n m. inl (still r n e (h.covers n (nine.held n m))) } in
        let less : length nine.some ≤ 1 = fits nine.some (r.low ∷ []) nine.ascending (tt, tt) inside in
        let k = nine.nine in
        absurd (omega arith)

    not_short : (r : Progression) → HoldsNine P → 0 < r.stride → r.high <ℤ (r.low +ℤ pos (8 * r.stride)) → Spans P r → ⊥
    not_short r nine moves l h =
        let inside : Inside nine.some (steps_from r.low r.stride 8) = record { has = λ n m. Steps-among r 8 n moves (h.covers n (nine.held n m)) l } in
        let less : length nine.some ≤ length (steps_from r.low r.stride 8) = fits nine.some (steps_from r.low r.stride 8) nine.ascending (steps_from-ascending r.low r.stride 8 moves) inside in
        let e = length-steps_from r.low r.stride 8 in
        let k = nine.nine in
        absurd (omega arith)

-- a progression that spans 9 numbers and more is the least set round them
pub Spans-IsLeast : (P : ℤ → Type 0) (r : Progression) → HoldsNine P → Spans P r → IsLeast P (Many r)
Spans-IsLeast P r nine h = record { holds = h.covers; least = least P r nine h }
  where
    least : (P : ℤ → Type 0) (r : Progression) → HoldsNine P → Spans P r → (u : Shape) → IsValid u → ((n : ℤ) → P n → Has u n) → (n : ℤ) → Has (Many r) n → Has u n
    least P r nine h (Few v) valid all n s =
        let inside : Inside nine.some v.items = record { has = λ k m. all k (nine.held k m) } in
        let less : length nine.some ≤ length v.items = fits nine.some v.items nine.ascending valid.ascending inside in
        let e = nine.nine in
        let small = valid.small in
        absurd (omega arith)
    least P r nine h (Many u) valid all n s = Spans-within P r u h all n s

pub IsHull-from : (p q : Progression) (low high : ℤ) (strides distance stride : ℕ) →
    low ≡ int_min p.low q.low → high ≡ int_max p.high q.high → IsGcd p.stride q.stride strides →
    distance ≡ unsigned_abs (p.low -ℤ q.low) → IsGcd strides distance stride →
    IsHull p q (record { low = low; high = high; stride = stride })
unfolding apart
IsHull-from p q low high strides distance stride e f g d h =
    let swap : distance ≡ apart p.low q.low = d ∙ apart-swap q.low p.low in
    record {
      low = e;
      high = f;
      first = dvd_trans stride h.0 g.0;
      second = dvd_trans stride h.0 g.1;
      between = subst (λ x. stride ∣ x) swap h.1;
      greatest = λ k a b m. h.2 k (g.2 k a b) (subst (λ x. k ∣ x) (sym swap) m);
    }

-- a loop over the numbers that takes each into the hull
pub Spans-next : (xs : List ℤ) (i : ℕ) (d : ℤ) (p q r : Progression) → i < length xs →
    Spans (λ n. (n ≡ get_or xs 0 d) ⊎ Among (take i xs) n) p → Spans (λ n. n ≡ get_or xs i d) q → IsHull p q r →
    Spans (λ n. (n ≡ get_or xs 0 d) ⊎ Among (take (i + 1) xs) n) r
Spans-next xs i d p q r l h k u =
    Spans-same (λ n. ((n ≡ get_or xs 0 d) ⊎ Among (take i xs) n) ⊎ (n ≡ get_or xs i d)) (λ n. (n ≡ get_or xs 0 d) ⊎ Among (take (i + 1) xs) n) r
    (λ n m. elim m [ inl a ↦ elim a [ inl e ↦ inl e | inr b ↦ inr (Among-take_left xs i d n l (inl b)) ] | inr e ↦ inr (Among-take_left xs i d n l (inr e)) ])
    (λ n m. elim m [ inl e ↦ inl (inl e) | inr b ↦ elim (Among-take_more xs i d n l b) [ inl a ↦ inl (inr a) | inr e ↦ inr e ] ])
    (Spans-hull (λ n. (n ≡ get_or xs 0 d) ⊎ Among (take i xs) n) (λ n. n ≡ get_or xs i d) p q r h k u)

pub Spans-all : (xs : List ℤ) (i : ℕ) (d : ℤ) (p : Progression) → 0 < length xs → length xs ≤ i →
    Spans (λ n. (n ≡ get_or xs 0 d) ⊎ Among (take i xs) n) p → Spans (Among xs) p
Spans-all xs i d p l e h =
    Spans-same (λ n. (n ≡ get_or xs 0 d) ⊎ Among (take i xs) n) (Among xs) p
    (λ n m. elim m [ inl e ↦ subst (Among xs) (sym e) (Among-at xs 0 d l) | inr b ↦ subst (λ ys. Among ys n) (take_all i xs e) b ])
    (λ n m. inr (subst (λ ys. Among ys n) (sym (take_all i xs e)) m)) h
