-- The shape that holds the numbers from a first one on in equal steps.
use Rattle.std.proofs.Common.{◌≡◌, ◌↔◌, ℕ, suc, ◌+◌, ◌*◌, ◌%◌, ◌/◌, ◌<◌, ◌≤◌, ℤ, pos, ◌+ℤ◌, ◌-ℤ◌, Bool, true, false, sym, subst, ap, inl, inr, arith}
use Rattle.std.proofs.Math.Nat.{div-mul_cancel, dvd-mul_left}
use Rattle.std.proofs.lemmas.Nat.{mul-le, div-add-mod', mod_below}
use Rattle.std.proofs.lemmas.Nat.Gcd.{mod-eq-zero_of_dvd}
use Rattle.std.proofs.lemmas.Bool.{cases_lt}
use Rattle.std.proofs.lemmas.Int.{ints}
use Rattle.std.specs.Int.{◌∣◌, w128}
use Rattle.std.proofs.lemmas.Bool.{lt-ltb, le-ltb}
use mir.Val.{to_z, of_z}
use Rattle.std.specs.Prelude.{if◌then◌else◌, nat_lt, unsigned_abs}
use lib.Signed.{◌<ℤ◌, ◌≤ℤ◌}
use Rattle.ival_core.specs.declared.value.Shape.TheVariants.{Few, Many}
use Rattle.ival_core.specs.Sets.{apart, steps_from, Steps, Has, IsNumber, IsLongRun, IsSmallSet}
use Rattle.ival_core.specs.declared.value.Ival.{Ival}
use Rattle.ival_core.specs.Ivals.{Holds}
use Rattle.ival_core.specs.Ranges.{run_shape}
use Rattle.ival_core.proofs.Distances.{apart_is, apart_onto}
use Rattle.ival_core.proofs.Insertion.{AllNumbers-from_among}
use Rattle.ival_core.proofs.Runs.{At, steps_from-at, Steps-from_at, Steps-among, length-steps_from, steps_from-ascending}

-- the whole steps from first to high stay below high, and one more doesn't
record Reaches (first high : ℤ) (stride more : ℕ) : Type 0 where
  inside : (first +ℤ pos (more * stride)) ≤ℤ high
  outside : high <ℤ (first +ℤ pos (suc more * stride))

reaches : (first high : ℤ) (stride : ℕ) → first ≤ℤ high → 0 < stride → Reaches first high stride (apart first high / stride)
reaches first high stride h m =
    let e : high ≡ first +ℤ pos (apart first high) = apart_is first high h in
    let d = div-add-mod' (apart first high) stride in
    let r : apart first high % stride < stride = mod_below (apart first high) stride m in
    record { inside = omega (arith, ints); outside = omega (arith, ints) }

pub run_inside : (first high : ℤ) (stride : ℕ) → first ≤ℤ high → 0 < stride → (first +ℤ pos (apart first high / stride * stride)) ≤ℤ high
run_inside first high stride h m = (reaches first high stride h m).inside

pub run_shape-has : (first high : ℤ) (stride : ℕ) → first ≤ℤ high → 0 < stride → (n : ℤ) →
    Has (run_shape first stride (apart first high / stride)) n ↔ Steps (record { low = first; high = high; stride = stride }) n
run_shape-has first high stride h m n = by_size first high stride (apart first high / stride) m (reaches first high stride h m) n (nat_lt (apart first high / stride) 8)
  where
    by_size : (first high : ℤ) (stride more : ℕ) → 0 < stride → Reaches first high stride more → (n : ℤ) (b : Bool) →
        Has (if b then Few (record { items = steps_from first stride (more + 1) }) else Many (record { low = first; high = first +ℤ pos (more * stride); stride = stride })) n
        ↔ Steps (record { low = first; high = high; stride = stride }) n
    by_size first high stride more m r n true = (
      (λ a.
          let at = steps_from-at first stride (more + 1) n a in
          let e = at.is in
          let i = r.inside in
          let l : at.place * stride ≤ more * stride = mul-le at.place stride more stride (omega (arith, at.within)) (omega arith) in
          Steps-from_at (record { low = first; high = high; stride = stride }) at.place n e (omega (arith, ints, e, l))),
      (λ s.
          let o = r.outside in
          let l : high <ℤ (first +ℤ pos ((more + 1) * stride)) = omega (arith, ints) in
          Steps-among (record { low = first; high = high; stride = stride }) (more + 1) n m s l),
    )
    by_size first high stride more m r n false = (
      (λ s. let b : n ≤ℤ (first +ℤ pos (more * stride)) = s.below in let i = r.inside in
          record { above = s.above; below = omega (arith, ints); meets = s.meets }),
      (λ s. record { above = s.above; below = last_below first high stride more n r s; meets = s.meets }),
    )
      where
        last_below : (first high : ℤ) (stride more : ℕ) (n : ℤ) → Reaches first high stride more → Steps (record { low = first; high = high; stride = stride }) n → n ≤ℤ (first +ℤ pos (more * stride))
        last_below first high stride more n r s =
            let e : n ≡ first +ℤ pos (apart first n) = apart_is first n s.above in
            let k : apart first n / stride * stride ≡ apart first n = div-mul_cancel stride s.meets in
            let b : n ≤ℤ high = s.below in
            let o = r.outside in
            let l : apart first n / stride * stride < suc more * stride = omega (arith, ints) in
            let q : apart first n / stride ≤ more = below_product (apart first n / stride) more stride l in
            let z : apart first n / stride * stride ≤ more * stride = mul-le (apart first n / stride) stride more stride q (omega arith) in
            omega (arith, ints)
          where
            below_product : (a b k : ℕ) → a * k < suc b * k → a ≤ b
            below_product a b k l = elim (cases_lt b a) [ inl g ↦ absurd (over a b k l g) | inr g ↦ g ]
              where
                over : (a b k : ℕ) → a * k < suc b * k → b < a → ⊥
                over a b k l g = let m : suc b * k ≤ a * k = mul-le (suc b) k a k g (omega arith) in omega arith

pub IsNumber-between : (low high n : ℤ) → IsNumber low → IsNumber high → low ≤ℤ n → n ≤ℤ high → IsNumber n
IsNumber-between low high n a b l h =
    let x = a.least in
    let y = b.greatest in
    record { least = omega (arith, ints); greatest = omega (arith, ints) }

-- the numbers up to the last one are a small set, where they are few
pub steps_from-small : (first : ℤ) (stride more : ℕ) → IsNumber first → IsNumber (first +ℤ pos (more * stride)) → 0 < stride → more < 8 → IsSmallSet (steps_from first stride (more + 1))
steps_from-small first stride more a b m l = record {
  small = let e = length-steps_from first stride (more + 1) in omega arith;
  ascending = steps_from-ascending first stride (more + 1) m;
  numbers = AllNumbers-from_among (steps_from first stride (more + 1)) (λ n k. at first stride more n a b (steps_from-at first stride (more + 1) n k));
}
  where
    at : (first : ℤ) (stride more : ℕ) (n : ℤ) → IsNumber first → IsNumber (first +ℤ pos (more * stride)) → At first stride (more + 1) n → IsNumber n
    at first stride more n a b r =
        let e = r.is in
        let l : r.place * stride ≤ more * stride = mul-le r.place stride more stride (omega (arith, r.within)) (omega arith) in
        IsNumber-between first (first +ℤ pos (more * stride)) n a b (omega (arith, ints, e)) (omega (arith, ints, e, l))

-- and they are a long run, where they are more
pub run_from-long : (first : ℤ) (stride more : ℕ) → IsNumber first → IsNumber (first +ℤ pos (more * stride)) → 0 < stride → 8 ≤ more → IsLongRun (record { low = first; high = first +ℤ pos (more * stride); stride = stride })
run_from-long first stride more a b m l =
    let k : 8 * stride ≤ more * stride = mul-le 8 stride more stride l (omega arith) in
    record {
      first = a;
      last = b;
      moves = m;
      long = omega (arith, ints);
      meets = mod-eq-zero_of_dvd stride (subst (λ x. stride ∣ x) (sym (apart_onto first (more * stride))) (dvd-mul_left stride more));
    }

pub run_shape-few : (first : ℤ) (stride more : ℕ) → more < 8 → run_shape first stride more ≡ Few (record { items = steps_from first stride (more + 1) })
run_shape-few first stride more l = ap (λ b. if b then Few (record { items = steps_from first stride (more + 1) }) else Many (record { low = first; high = first +ℤ pos (more * stride); stride = stride })) (lt-ltb more 8 l)

pub run_shape-many : (first : ℤ) (stride more : ℕ) → 8 ≤ more → run_shape first stride more ≡ Many (record { low = first; high = first +ℤ pos (more * stride); stride = stride })
run_shape-many first stride more l = ap (λ b. if b then Few (record { items = steps_from first stride (more + 1) }) else Many (record { low = first; high = first +ℤ pos (more * stride); stride = stride })) (le-ltb more 8 l)

-- the number at a place, as a program computes it
pub step_value : (first : ℤ) (stride more k : ℕ) → IsNumber first → IsNumber (first +ℤ pos (more * stride)) → k < more + 1 →
    to_z w128 (of_z w128 (to_z w128 (of_z w128 first) +ℤ to_z w128 (k * stride))) ≡ first +ℤ pos (k * stride)
step_value first stride more k a b l =
    let p : k * stride ≤ more * stride = mul-le k stride more stride (omega arith) (omega arith) in
    let x = a.least in
    let y = a.greatest in
    let z = b.greatest in
    omega (arith, ints)

-- the number of whole steps from first to high, as a program computes it, and the number that they lead to
pub steps_to : (first high : ℤ) (stride d : ℕ) → d ≡ unsigned_abs (high -ℤ first) → d / stride ≡ apart first high / stride
unfolding apart
steps_to first high stride d e = ap (λ x. x / stride) e

pub last_number : (first high : ℤ) (stride more : ℕ) → IsNumber first → IsNumber high → first ≤ℤ high → 0 < stride → more ≡ apart first high / stride → IsNumber (first +ℤ pos (more * stride))
last_number first high stride more a b h m e =
    subst (λ k. IsNumber (first +ℤ pos (k * stride))) (sym e)
    (IsNumber-between first high (first +ℤ pos (apart first high / stride * stride)) a b (omega (arith, ints)) (run_inside first high stride h m))

pub run_from-has : (v : Ival) (first high : ℤ) (stride : ℕ) → first ≤ℤ high → 0 < stride → v.shape ≡ run_shape first stride (apart first high / stride) →
    (n : ℤ) → Holds v n ↔ Steps (record { low = first; high = high; stride = stride }) n
run_from-has v first high stride h m e n =
    let k = run_shape-has first high stride h m n in
    ((λ x. k.0 (subst (λ s. Has s n) e x)), (λ x. subst (λ s. Has s n) (sym e) (k.1 x)))
