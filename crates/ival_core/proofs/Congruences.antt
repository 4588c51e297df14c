-- The remainder and the modulus of an `Ival`.
use Rattle.std.proofs.Common.{◌≡◌, ◌≤◌, ℤ, pos, List, length, refl, sym, subst, ap, ◌∙◌, arith}
use Rattle.std.proofs.lemmas.Int.{ints}
use Rattle.std.specs.Int.{int_rem_euclid}
use lib.Signed.{◌<ℤ◌, ◌≤ℤ◌, ≤ℤ_refl}
use Rattle.arrayvec.specs.ArrayVec.{ArrayVec}
use Rattle.ival_core.specs.declared.value.Progression.{Progression}
use Rattle.ival_core.specs.declared.value.Shape.TheVariants.{Few, Many}
use Rattle.ival_core.specs.declared.value.Ival.{Ival}
use Rattle.ival_core.specs.Ranges.{InRange, IsRange}
use Rattle.ival_core.specs.Sets.{IsNumber, Steps, Has, IsLongRun}
use Rattle.ival_core.specs.Ivals.{Holds, HoldsMany, IsBounds, IsNumbers, IsCongruence}
use Rattle.ival_core.proofs.Counting.{Inside, fits}
use Rattle.ival_core.proofs.Queries.{long_run, small_set, HoldsMany-many, IsBounds-many}
use Rattle.ival_core.proofs.Remainders.{Leaving, leaving, same_leaves, leaves_same}

-- 9 numbers are not among 8
pub many_not_few : (v : Ival) (xs : List ℤ) → HoldsMany v → IsNumbers v xs → ⊥
many_not_few v xs m h =
    let inside : Inside m.some xs = record { has = λ n k. (h.same n).0 (m.held n k) } in
    let less : length m.some ≤ length xs = fits m.some xs m.ascending h.ascending inside in
    let nine = m.nine in
    let small = h.small in
    absurd (omega arith)

-- an `Ival` has one lower and one upper bound
pub low_same : (v : Ival) (a b c d : ℤ) → IsBounds v a b → IsBounds v c d → a ≡ c
low_same v a b c d h k =
    let x : a ≤ℤ c = (h.between c k.first).0 in
    let y : c ≤ℤ a = (k.between a h.first).0 in
    omega (arith, ints)

pub high_same : (v : Ival) (a b c d : ℤ) → IsBounds v a b → IsBounds v c d → b ≡ d
high_same v a b c d h k =
    let x : d ≤ℤ b = (h.between d k.last).1 in
    let y : b ≤ℤ d = (k.between b h.last).1 in
    omega (arith, ints)

numbers_few : (v : Ival) (few : ArrayVec ℤ) → v.shape ≡ Few few → IsNumbers v few.items
numbers_few v few e =
    let s = small_set v few e in
    record {
      small = s.small;
      ascending = s.ascending;
      same = λ n. ((λ h. subst (λ s. Has s n) e h), (λ m. subst (λ s. Has s n) (sym e) m));
    }

pub IsCongruence-few : (v : Ival) (few : ArrayVec ℤ) → v.shape ≡ Few few → IsCongruence v (pos 0) (pos 1)
IsCongruence-few v few e = record {
  rest = ≤ℤ_refl (pos 0);
  below = omega (arith, ints);
  number = record { least = omega (arith, ints); greatest = omega (arith, ints) };
  leaves = λ n h. by_one n (leaving n 1 (omega arith));
  many = λ m low high n b i. absurd (many_not_few v few.items m (numbers_few v few e));
  few = λ xs h. (refl, refl);
}
  where
    by_one : (n : ℤ) → Leaving n 1 → int_rem_euclid n (pos 1) ≡ pos 0
    by_one n l = let b = l.below in let z : l.rest ≡ 0 = omega arith in l.is ∙ ap pos z

pub IsCongruence-many : (v : Ival) (p : Progression) → v.shape ≡ Many p → IsCongruence v (int_rem_euclid p.low (pos p.stride)) (pos p.stride)
IsCongruence-many v p e =
    let l : IsLongRun p = long_run v p e in
    let k : Leaving p.low p.stride = leaving p.low p.stride l.moves in
    record {
      rest = subst (λ r. pos 0 ≤ℤ r) (sym k.is) (let m = l.moves in omega (arith, ints));
      below = subst (λ r. r <ℤ pos p.stride) (sym k.is) (let b = k.below in omega (arith, ints));
      number = (let a = l.first.least in let b = l.last.greatest in let c = l.long in record { least = omega (arith, ints); greatest = omega (arith, ints) });
      leaves = λ n h.
          let s : Steps p n = subst (λ s. Has s n) e h in
          same_leaves p.low n p.stride k.rest l.moves k.below s.meets k.is ∙ sym k.is;
      many = λ m low high n b i. all v p e l k low high n b i;
      few = λ xs h. absurd (many_not_few v xs (HoldsMany-many v p e) h);
    }
  where
    all : (v : Ival) (p : Progression) → v.shape ≡ Many p → IsLongRun p → Leaving p.low p.stride → (low high n : ℤ) → IsBounds v low high → InRange low high (int_rem_euclid p.low (pos p.stride)) (pos p.stride) n → Holds v n
    all v p e l k low high n b i =
        let x : low ≡ p.low = low_same v low high p.low p.high b (IsBounds-many v p e) in
        let y : high ≡ p.high = high_same v low high p.low p.high b (IsBounds-many v p e) in
        subst (λ s. Has s n) (sym e) (record {
          above = subst (λ z. z ≤ℤ n) x i.above;
          below = subst (λ z. n ≤ℤ z) y i.below;
          meets = leaves_same p.low n p.stride k.rest l.moves k.is (i.leaves ∙ k.is);
        })

pub IsCongruence-of : (v : Ival) (p : Progression) (c : ℤ × ℤ) → v.shape ≡ Many p → c ≡ (int_rem_euclid p.low (pos p.stride), pos p.stride) → IsCongruence v c.0 c.1
IsCongruence-of v p c e f = subst (λ x. IsCongruence v x.0 x.1) (sym f) (IsCongruence-many v p e)

-- a range round the bounds of v, with the congruence of v, may be asked for, and holds v
pub range_of : (v : Ival) (least greatest low high rem modulus : ℤ) → IsBounds v least greatest → IsCongruence v rem modulus → low ≤ℤ least → IsNumber low → greatest ≤ℤ high → IsNumber high → IsRange low high rem modulus
range_of v least greatest low high rem modulus b c l p h q = record {
  order = (let x : least ≤ℤ greatest = (b.between least b.first).1 in omega (arith, ints));
  low = p;
  high = q;
  remains = c.number;
  rest = c.rest;
  below = c.below;
}

pub range_holds : (v : Ival) (least greatest low high rem modulus n : ℤ) → IsBounds v least greatest → IsCongruence v rem modulus → low ≤ℤ least → greatest ≤ℤ high → Holds v n → InRange low high rem modulus n
range_holds v least greatest low high rem modulus n b c l h m =
    let x : least ≤ℤ n = (b.between n m).0 in
    let y : n ≤ℤ greatest = (b.between n m).1 in
    record { above = omega (arith, ints); below = omega (arith, ints); leaves = c.leaves n m }
