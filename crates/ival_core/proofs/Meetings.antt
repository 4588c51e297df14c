-- The numbers that two progressions share.
use Rattle.std.proofs.Common.{◌≡◌, ◌↔◌, ℕ, zero, suc, ◌+◌, ◌*◌, ◌^◌, ◌/◌, ◌<◌, ◌≤◌, ℤ, pos, ◌+ℤ◌, ◌-ℤ◌, refl, sym, subst, ap, ◌∙◌, arith}
use Rattle.std.proofs.Math.Nat.{dvd-mul_right, div-mul_cancel, le_of_dvd, eq-zero_of_zero-dvd}
use Rattle.std.proofs.lemmas.Nat.{mul-le, le-div}
use Rattle.std.proofs.lemmas.Int.{ints, clamps}
use Rattle.std.specs.Int.{◌∣◌, IsGcd, int_min, w128}
use mir.Val.{to_z, of_z}
use Rattle.std.specs.Prelude.{Some, None, unsigned_abs}
use lib.Signed.{◌<ℤ◌, ◌≤ℤ◌, ≤ℤ_refl}
use Rattle.ival_core.specs.declared.value.Progression.{Progression}
use Rattle.ival_core.specs.Sets.{apart, Steps, IsLongRun, IsNumber}
use Rattle.ival_core.specs.Solutions.{IsGap, IsFirstCommon, Leaves, IsLeastSolution, MeetsBoth}
use Rattle.ival_core.proofs.Distances.{apart_is, apart_onto, meets_back, meets_on, meets_self}
use Rattle.ival_core.proofs.Gcds.{common_multiple, multiple_divides}
use Rattle.ival_core.proofs.Solving.{whole_from, from_whole}

-- the distances along an ascending way add up
way : (a b c : ℤ) → a ≤ℤ b → b ≤ℤ c → apart a c ≡ apart a b + apart b c
unfolding apart
way a b c h k = omega (arith, ints)

-- ---- what both strides meet

pub MeetsBoth-run : (first high : ℤ) (one other g : ℕ) → 0 < g → IsGcd one other g → (n : ℤ) →
    Steps (record { low = first; high = high; stride = one / g * other }) n ↔ MeetsBoth first high one other n
MeetsBoth-run first high one other g m h n = (
  (λ s.
      let k = common_multiple one other g (apart first n) h s.meets in
      record { above = s.above; below = s.below; meets_one = k.0; meets_other = k.1 }),
  (λ b. record { above = b.above; below = b.below; meets = multiple_divides one other g (apart first n) m h b.meets_one b.meets_other }),
)

-- where the common step is longer than the way, only the first number is left
pub MeetsBoth-first : (first high : ℤ) (one other g d : ℕ) → first ≤ℤ high → 0 < g → 0 < other → IsGcd one other g → d ≡ unsigned_abs (high -ℤ first) → d / other < one / g →
    (n : ℤ) → (n ≡ first) ↔ MeetsBoth first high one other n
MeetsBoth-first first high one other g d order m o h e l n = (
  (λ k. record {
    above = subst (λ x. first ≤ℤ x) (sym k) (≤ℤ_refl first);
    below = subst (λ x. x ≤ℤ high) (sym k) order;
    meets_one = subst (λ x. one ∣ apart first x) (sym k) (meets_self one first);
    meets_other = subst (λ x. other ∣ apart first x) (sym k) (meets_self other first);
  }),
  (λ b. by_distance first high n other (one / g) d o (apart first n) b.above b.below refl e l (multiple_divides one other g (apart first n) m h b.meets_one b.meets_other)),
)
  where
    by_distance : (first high n : ℤ) (other part d : ℕ) → 0 < other → (k : ℕ) → first ≤ℤ n → n ≤ℤ high → apart first n ≡ k → d ≡ unsigned_abs (high -ℤ first) → d / other < part → part * other ∣ k → n ≡ first
    by_distance first high n other part d o zero above below e f l h = let i = apart_is first n above in omega (arith, ints)
    by_distance first high n other part d o (suc k) above below e f l h =
        let i = apart_is first n above in
        let p : part * other ≤ suc k = le_of_dvd (omega arith) h in
        let q : part * other ≤ d = omega (arith, ints) in
        let r : part ≤ d / other = le-div part d other o q in
        absurd (omega arith)

pub common_moves : (one other g : ℕ) → 0 < one → 0 < other → g ∣ one → 0 < one / g * other
common_moves one other g p q h =
    let e : one / g * g ≡ one = div-mul_cancel g h in
    by_part (one / g) g one other p q e
  where
    by_part : (a g one other : ℕ) → 0 < one → 0 < other → a * g ≡ one → 0 < a * other
    by_part zero g one other p q e = absurd (omega arith)
    by_part (suc a) g one other p q e = omega arith

pub gcd_moves : (one g : ℕ) → 0 < one → g ∣ one → 0 < g
gcd_moves one zero p h = let z : one ≡ 0 = eq-zero_of_zero-dvd h in absurd (omega arith)
gcd_moves one (suc g) p h = omega arith

-- ---- where the upper of two runs starts above the lower

-- a shared number is some steps of upper above its start, which leave the gap
record Counted (upper lower : Progression) (gap : ℕ) (n : ℤ) : Type 0 where
  count : ℕ
  is : n ≡ upper.low +ℤ pos (upper.stride * count)
  leaves : Leaves upper.stride gap lower.stride count

counted : (upper lower : Progression) (gap : ℕ) (n : ℤ) → 0 < lower.stride → lower.low ≤ℤ upper.low → IsGap (apart lower.low upper.low) gap lower.stride → Steps upper n → Steps lower n → Counted upper lower gap n
counted upper lower gap n m h g s t =
    let k : apart upper.low n / upper.stride * upper.stride ≡ apart upper.low n = div-mul_cancel upper.stride s.meets in
    let r : upper.stride * (apart upper.low n / upper.stride) ≡ apart upper.low n = turn upper.stride (apart upper.low n / upper.stride) ∙ k in
    let w : apart lower.low n ≡ apart lower.low upper.low + upper.stride * (apart upper.low n / upper.stride) = way lower.low upper.low n h s.above ∙ ap (λ x. apart lower.low upper.low + x) (sym r) in
    record {
      count = apart upper.low n / upper.stride;
      is = apart_is upper.low n s.above ∙ ap (λ x. upper.low +ℤ pos x) (sym r);
      leaves = from_whole (apart lower.low upper.low) gap lower.stride (upper.stride * (apart upper.low n / upper.stride)) m g (subst (λ x. lower.stride ∣ x) w t.meets);
    }
  where
    turn : (a b : ℕ) → a * b ≡ b * a
    turn a b = omega arith

-- where no count serves within the way, nothing is shared
pub none_shared : (upper lower : Progression) (gap bound : ℕ) (high n : ℤ) → 0 < lower.stride → lower.low ≤ℤ upper.low → upper.low ≤ℤ high → IsGap (apart lower.low upper.low) gap lower.stride →
    bound ≡ unsigned_abs (high -ℤ upper.low) → n ≤ℤ high → IsLeastSolution upper.stride gap lower.stride bound None → Steps upper n → Steps lower n → ⊥
none_shared upper lower gap bound high n m h k g e l f s t =
    let c = counted upper lower gap n m h g s t in
    let i : n ≡ upper.low +ℤ pos (upper.stride * c.count) = c.is in
    let b : bound < upper.stride * c.count = f c.count c.leaves in
    absurd (omega (arith, ints))

pub some_shared : (upper lower : Progression) (gap bound count : ℕ) (high : ℤ) → 0 < lower.stride → lower.low ≤ℤ upper.low → upper.low ≤ℤ high → IsGap (apart lower.low upper.low) gap lower.stride →
    bound ≡ unsigned_abs (high -ℤ upper.low) → IsLeastSolution upper.stride gap lower.stride bound (Some count) → IsFirstCommon upper lower high (upper.low +ℤ pos (upper.stride * count))
some_shared upper lower gap bound count high m h r g e f =
    let whole : lower.stride ∣ apart lower.low upper.low + upper.stride * count = whole_from (apart lower.low upper.low) gap lower.stride (upper.stride * count) g f.0 in
    let up : upper.low ≤ℤ (upper.low +ℤ pos (upper.stride * count)) = omega (arith, ints) in
    let w : apart lower.low (upper.low +ℤ pos (upper.stride * count)) ≡ apart lower.low upper.low + upper.stride * count =
    way lower.low upper.low (upper.low +ℤ pos (upper.stride * count)) h up ∙ ap (λ x. apart lower.low upper.low + x) (apart_onto upper.low (upper.stride * count)) in
    let b : upper.stride * count ≤ bound = f.1 in
    record {
      above = up;
      below = omega (arith, ints);
      on_upper = subst (λ x. upper.stride ∣ x) (sym (apart_onto upper.low (upper.stride * count))) (dvd-mul_right upper.stride count);
      on_lower = subst (λ x. lower.stride ∣ x) (sym w) whole;
      least = λ n s t. none_before upper lower gap count n m h g f.2 s t;
    }
  where
    none_before : (upper lower : Progression) (gap count : ℕ) (n : ℤ) → 0 < lower.stride → lower.low ≤ℤ upper.low → IsGap (apart lower.low upper.low) gap lower.stride →
        ((i : ℕ) → Leaves upper.stride gap lower.stride i → count ≤ i) → Steps upper n → Steps lower n → (upper.low +ℤ pos (upper.stride * count)) ≤ℤ n
    none_before upper lower gap count n m h g f s t =
        let c = counted upper lower gap n m h g s t in
        let i : n ≡ upper.low +ℤ pos (upper.stride * c.count) = c.is in
        let l : count ≤ c.count = f c.count c.leaves in
        let p : upper.stride * count ≤ upper.stride * c.count = mul-le upper.stride count upper.stride c.count (omega arith) l in
        omega (arith, ints)

-- the shared numbers are those that meet the first of them, up to the lower of both ends
pub common_both : (upper lower : Progression) (first high : ℤ) → lower.low ≤ℤ upper.low → high ≡ int_min upper.high lower.high → IsFirstCommon upper lower high first → (n : ℤ) →
    MeetsBoth first high upper.stride lower.stride n ↔ (Steps upper n × Steps lower n)
common_both upper lower first high h e s n = (
  (λ b.
      let a : first ≤ℤ n = b.above in
      let l : n ≤ℤ high = b.below in
      let u : upper.low ≤ℤ first = s.above in (
        record { above = omega (arith, ints); below = omega (arith, ints, clamps); meets = meets_on upper.stride upper.low first n s.on_upper b.meets_one },
        record { above = omega (arith, ints); below = omega (arith, ints, clamps); meets = meets_on lower.stride lower.low first n s.on_lower b.meets_other },
      )),
  (λ p.
      let x : Steps upper n = p.0 in
      let y : Steps lower n = p.1 in
      let l : n ≤ℤ upper.high = x.below in
      let k : n ≤ℤ lower.high = y.below in
      record {
        above = s.least n x y;
        below = omega (arith, ints, clamps);
        meets_one = meets_on upper.stride first upper.low n (meets_back upper.stride upper.low first s.on_upper) x.meets;
        meets_other = meets_on lower.stride first lower.low n (meets_back lower.stride lower.low first s.on_lower) y.meets;
      }),
)

-- a number of both lies up to the lower of both ends
pub below_both : (upper lower : Progression) (high n : ℤ) → high ≡ int_min upper.high lower.high → Steps upper n → Steps lower n → n ≤ℤ high
below_both upper lower high n e s t =
    let l : n ≤ℤ upper.high = s.below in
    let k : n ≤ℤ lower.high = t.below in
    omega (arith, ints, clamps)

-- a long run is not wider than the numbers that an `Ival` may hold
pub stride_small : (p : Progression) → IsLongRun p → p.stride < 2 ^ 122
stride_small p l =
    let a = l.first.least in
    let b = l.last.greatest in
    let c = l.long in
    omega (arith, ints)

-- the gap to the lower run, at the distance as a program computes it
pub gap_at : (upper lower : ℤ) (gap stride d : ℕ) → d ≡ unsigned_abs (upper -ℤ lower) → IsGap d gap stride → IsGap (apart lower upper) gap stride
unfolding apart
gap_at upper lower gap stride d e g = subst (λ x. IsGap x gap stride) e g

-- the first common number as a program computes it
pub step_to : (low high : ℤ) (stride count d : ℕ) → IsNumber low → IsNumber high → low ≤ℤ high → d ≡ unsigned_abs (high -ℤ low) → stride * count ≤ d →
    to_z w128 (of_z w128 (to_z w128 (of_z w128 low) +ℤ to_z w128 (stride * count))) ≡ low +ℤ pos (stride * count)
step_to low high stride count d a b o e l =
    let x = a.least in
    let y = a.greatest in
    let z = b.greatest in
    let w = b.least in
    omega (arith, ints)

-- where the upper run starts above the lower of both ends, nothing is shared
pub low_above : (upper lower : Progression) (high n : ℤ) → high ≡ int_min upper.high lower.high → high <ℤ upper.low → Steps upper n → Steps lower n → ⊥
low_above upper lower high n e l s t =
    let a : upper.low ≤ℤ n = s.above in
    let b : n ≤ℤ high = below_both upper lower high n e s t in
    absurd (omega (arith, ints))
