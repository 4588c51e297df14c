-- When one progression lies in another.
use Rattle.std.proofs.Common.{◌≡◌, ◌↔◌, ℕ, ◌%◌, ◌≤◌, ℤ, pos, ◌+ℤ◌, ◌-ℤ◌, List, length, IsTrue, nat_eq, subst, ap, ◌∙◌, arith, eq-eqb}
use Rattle.std.specs.Int.{◌∣◌}
use Rattle.std.specs.Prelude.{unsigned_abs}
use Rattle.std.proofs.lemmas.Nat.Gcd.{dvd_of_mod-eq-zero, mod-eq-zero_of_dvd}
use borrow.Author.Tests.{eqb-true}
use lib.Signed.{◌≤ℤ◌}
use Rattle.arrayvec.specs.ArrayVec.{ArrayVec}
use Rattle.ival_core.specs.declared.value.Progression.{Progression}
use Rattle.ival_core.specs.declared.value.Shape.TheVariants.{Few}
use Rattle.ival_core.specs.declared.value.Ival.{Ival}
use Rattle.ival_core.specs.Sets.{apart, Steps, IsLongRun, IsSmallSet, Has, Among, steps_from}
use Rattle.ival_core.specs.Ivals.{Holds}
use Rattle.ival_core.proofs.Counting.{Inside, fits}
use Rattle.ival_core.proofs.Distances.{meets_back, meets_on}
use Rattle.ival_core.proofs.Runs.{Steps-low, Steps-high, Steps-second, Steps-at_divisor, Steps-nine, length-steps_from, steps_from-ascending}
use Rattle.ival_core.proofs.Hulls.{Steps-wider}
use Rattle.ival_core.proofs.Queries.{small_set}

-- wide reaches at least as far as p, in steps that p's are made of, and meets p's start
pub record Wider (wide p : Progression) : Type 0 where
  pub low : wide.low ≤ℤ p.low
  pub high : p.high ≤ℤ wide.high
  pub stride : wide.stride ∣ p.stride
  pub start : wide.stride ∣ apart wide.low p.low

pub Wider-steps : (wide p : Progression) → Wider wide p → (n : ℤ) → Steps p n → Steps wide n
Wider-steps wide p w n s = Steps-wider p wide n w.low w.high w.start w.stride s

pub Wider-from : (wide p : Progression) → IsLongRun p → ((n : ℤ) → Steps p n → Steps wide n) → Wider wide p
Wider-from wide p l h =
    let low : Steps wide p.low = h p.low (Steps-low p l) in
    let next : Steps wide (p.low +ℤ pos p.stride) = h (p.low +ℤ pos p.stride) (Steps-second p l) in
    record {
      low = low.above;
      high = (h p.high (Steps-high p l)).below;
      stride = Steps-at_divisor wide.stride p.low p.stride (meets_on wide.stride p.low wide.low (p.low +ℤ pos p.stride) (meets_back wide.stride wide.low p.low low.meets) next.meets);
      start = low.meets;
    }

pub Wider-tested : (wide p : Progression) (d : ℕ) → IsLongRun p → wide.low ≤ℤ p.low → p.high ≤ℤ wide.high → p.stride % wide.stride ≡ 0 → d ≡ unsigned_abs (p.low -ℤ wide.low) →
    IsTrue (nat_eq (d % wide.stride) 0) ↔ ((n : ℤ) → Steps p n → Steps wide n)
unfolding apart
Wider-tested wide p d l low high stride e = (
  (λ t. Wider-steps wide p (record {
    low = low;
    high = high;
    stride = dvd_of_mod-eq-zero wide.stride stride;
    start = subst (λ x. wide.stride ∣ x) e (dvd_of_mod-eq-zero wide.stride (eqb-true (d % wide.stride) 0 t));
  })),
  (λ h. eq-eqb (d % wide.stride) 0 (ap (λ x. x % wide.stride) e ∙ mod-eq-zero_of_dvd wide.stride (Wider-from wide p l h).start)),
)

-- a long run lies in no small set
pub run_outside : (p : Progression) (xs : List ℤ) → IsLongRun p → IsSmallSet xs → ((n : ℤ) → Steps p n → Among xs n) → ⊥
run_outside p xs l s h =
    let inside : Inside (steps_from p.low p.stride 9) xs = record { has = λ n m. h n (Steps-nine p l n m) } in
    let less : length (steps_from p.low p.stride 9) ≤ length xs = fits (steps_from p.low p.stride 9) xs (steps_from-ascending p.low p.stride 9 l.moves) s.ascending inside in
    let nine = length-steps_from p.low p.stride 9 in
    let small = s.small in
    absurd (omega arith)

pub run_not_few : (p : Progression) (v : Ival) (few : ArrayVec ℤ) → IsLongRun p → v.shape ≡ Few few → ((n : ℤ) → Steps p n → Holds v n) → ⊥
run_not_few p v few l e h = run_outside p few.items l (small_set v few e) (λ n s. subst (λ t. Has t n) e (h n s))
