-- The least solution of a congruence, by Euclid's steps.
use Rattle.std.proofs.Common.{◌≡◌, ℕ, zero, suc, ◌+◌, ◌-◌, ◌*◌, ◌%◌, ◌/◌, ◌<◌, ◌≤◌, Bool, true, false, refl, sym, subst, ap, ◌∙◌, arith}
use Rattle.std.proofs.Math.Nat.{dvd-add, dvd-sub, dvd-mul_left, div-mul_cancel, dvd-mul_right, le_of_dvd, zero-mul, zero-mod, mul-zero, le_of_mul-le-mul_right}
use Rattle.std.proofs.lemmas.Nat.{mul-le, div-add-mod', mod_below, mul-mod_first, mod-mul-add}
use borrow.Author.Tests.{ltb-true, ltb-false}
use Rattle.std.specs.Int.{◌∣◌}
use Rattle.std.specs.Prelude.{Some, None, if◌then◌else◌, nat_lt}
use Rattle.ival_core.specs.Solutions.{IsGap, Leaves, IsLeastSolution, lifted_count}

-- less · count is rest and some turns round modulus
record Turned (less rest modulus count : ℕ) : Type 0 where
  turns : ℕ
  is : less * count ≡ rest + modulus * turns

turned : (step rest modulus count : ℕ) → Leaves step rest modulus count → Turned (step % modulus) rest modulus count
turned step rest modulus count h =
    let e : (step % modulus * count) % modulus ≡ rest = mul-mod_first step count modulus ∙ h in
    let d = div-add-mod' (step % modulus * count) modulus in
    record { turns = step % modulus * count / modulus; is = omega arith }

back : (step rest modulus count turns : ℕ) → rest < modulus → step % modulus * count ≡ rest + modulus * turns → Leaves step rest modulus count
back step rest modulus count turns l e =
    sym (mul-mod_first step count modulus) ∙ ap (λ x. x % modulus) (e ∙ flip rest modulus turns) ∙ mod-mul-add turns modulus rest l
  where
    flip : (a b c : ℕ) → a + b * c ≡ c * b + a
    flip a b c = omega arith

-- turns · modulus leaves the gap modulo less exactly where less divides rest + modulus · turns
pub whole_from : (rest gap less x : ℕ) → IsGap rest gap less → x % less ≡ gap → less ∣ rest + x
whole_from rest gap less x w e =
    let d = div-add-mod' x less in
    let s : rest + x ≡ (rest + gap) + x / less * less = omega arith in
    subst (λ y. less ∣ y) (sym s) (dvd-add less w.whole (dvd-mul_left less (x / less)))

pub from_whole : (rest gap less x : ℕ) → 0 < less → IsGap rest gap less → less ∣ rest + x → x % less ≡ gap
from_whole rest gap less x m w h =
    let d = div-add-mod' x less in
    let b : x % less < less = mod_below x less m in
    let s : (rest + x) - x / less * less ≡ rest + x % less = omega arith in
    let k : less ∣ rest + x % less = subst (λ y. less ∣ y) s (dvd-sub less h (dvd-mul_left less (x / less))) in
    same_gap less rest (x % less) gap b w.below k w.whole
  where
    zero_below : (m d : ℕ) → m ∣ d → d < m → d ≡ 0
    zero_below m d h l = by_case m d h l
      where
        by_case : (m d : ℕ) → m ∣ d → d < m → d ≡ 0
        by_case m zero h l = refl
        by_case m (suc d) h l = let k : m ≤ suc d = le_of_dvd (omega arith) h in absurd (omega arith)

    same_gap : (m r a b : ℕ) → a < m → b < m → m ∣ r + a → m ∣ r + b → a ≡ b
    same_gap m r a b p q h k =
        let x : (r + a) - (r + b) ≡ 0 = zero_below m ((r + a) - (r + b)) (dvd-sub m h k) (omega arith) in
        let y : (r + b) - (r + a) ≡ 0 = zero_below m ((r + b) - (r + a)) (dvd-sub m k h) (omega arith) in
        omega arith

-- where no turn within the bound fits, no count does
pub none_lifted : (step rest modulus bound gap : ℕ) → rest < modulus → 0 < step % modulus → IsGap rest gap (step % modulus) →
    IsLeastSolution modulus gap (step % modulus) bound None → IsLeastSolution step rest modulus bound None
none_lifted step rest modulus bound gap l m w h count e =
    let t = turned step rest modulus count e in
    let i : step % modulus * count ≡ rest + modulus * t.turns = t.is in
    let g : (modulus * t.turns) % (step % modulus) ≡ gap =
    from_whole rest gap (step % modulus) (modulus * t.turns) m w (subst (λ y. step % modulus ∣ y) i (dvd-mul_right (step % modulus) count)) in
    let b : bound < modulus * t.turns = h t.turns g in
    let k : step % modulus * count ≤ step * count = mul-le (step % modulus) count step count (mod_le step modulus) (omega arith) in
    omega arith
  where
    mod_le : (a b : ℕ) → a % b ≤ a
    mod_le a b = let d = div-add-mod' a b in omega arith

-- the least turns give the least count
pub some_lifted : (step rest modulus bound gap turns : ℕ) → rest < modulus → 0 < step → 0 < step % modulus → IsGap rest gap (step % modulus) →
    IsLeastSolution modulus gap (step % modulus) bound (Some turns) → IsLeastSolution step rest modulus bound (lifted_count step rest modulus bound turns)
some_lifted step rest modulus bound gap turns l p m w h =
    let whole : step % modulus ∣ rest + modulus * turns = whole_from rest gap (step % modulus) (modulus * turns) w h.0 in
    let e : (rest + modulus * turns) / (step % modulus) * (step % modulus) ≡ rest + modulus * turns = div-mul_cancel (step % modulus) whole in
    by_size step rest modulus bound ((rest + modulus * turns) / (step % modulus)) p
    (back step rest modulus ((rest + modulus * turns) / (step % modulus)) turns l (turn_round (step % modulus) ((rest + modulus * turns) / (step % modulus)) ∙ e))
    (λ count k. least step rest modulus gap turns ((rest + modulus * turns) / (step % modulus)) count m w e h.2 k)
    (nat_lt (bound / step) ((rest + modulus * turns) / (step % modulus))) refl
  where
    turn_round : (a b : ℕ) → a * b ≡ b * a
    turn_round a b = omega arith

    least : (step rest modulus gap turns count other : ℕ) → 0 < step % modulus → IsGap rest gap (step % modulus) → count * (step % modulus) ≡ rest + modulus * turns →
        ((i : ℕ) → Leaves modulus gap (step % modulus) i → turns ≤ i) → Leaves step rest modulus other → count ≤ other
    least step rest modulus gap turns count other m w e f k =
        let t = turned step rest modulus other k in
        let i : step % modulus * other ≡ rest + modulus * t.turns = t.is in
        let g : (modulus * t.turns) % (step % modulus) ≡ gap =
        from_whole rest gap (step % modulus) (modulus * t.turns) m w (subst (λ y. step % modulus ∣ y) i (dvd-mul_right (step % modulus) other)) in
        let s : turns ≤ t.turns = f t.turns g in
        let q : modulus * turns ≤ modulus * t.turns = mul-le modulus turns modulus t.turns (omega arith) s in
        le_of_mul-le-mul_right {m = count} {n = other} {k = step % modulus} (omega arith) m

    by_size : (step rest modulus bound count : ℕ) → 0 < step → Leaves step rest modulus count → ((other : ℕ) → Leaves step rest modulus other → count ≤ other) →
        (b : Bool) → nat_lt (bound / step) count ≡ b → IsLeastSolution step rest modulus bound (if b then None else Some count)
    by_size step rest modulus bound count p h f true e = λ other k.
        let l : bound / step < count = ltb-true (bound / step) count e in
        let c : count ≤ other = f other k in
        let d = div-add-mod' bound step in
        let r : bound % step < step = mod_below bound step p in
        let q : suc (bound / step) * step ≤ other * step = mul-le (suc (bound / step)) step other step (omega arith) (omega arith) in
        omega arith
    by_size step rest modulus bound count p h f false e =
        let l : count ≤ bound / step = ltb-false (bound / step) count e in
        let d = div-add-mod' bound step in
        let q : count * step ≤ bound / step * step = mul-le count step (bound / step) step l (omega arith) in
        (h, omega arith, f)

-- a step that is a multiple of modulus leaves no rest
pub none_whole : (step rest modulus bound : ℕ) → 0 < rest → step % modulus ≡ 0 → IsLeastSolution step rest modulus bound None
none_whole step rest modulus bound p e count h =
    let z : (step % modulus * count) % modulus ≡ rest = mul-mod_first step count modulus ∙ h in
    let y : (0 * count) % modulus ≡ rest = subst (λ x. (x * count) % modulus ≡ rest) e z in
    let x : rest ≡ 0 = sym y ∙ zero_of count modulus in
    absurd (omega arith)
  where
    zero_of : (count modulus : ℕ) → (0 * count) % modulus ≡ 0
    zero_of count modulus = simp (zero-mul, zero-mod)

-- no rest is left by no step
pub some_zero : (step modulus bound : ℕ) → IsLeastSolution step 0 modulus bound (Some 0)
some_zero step modulus bound = (simp (mul-zero, zero-mod), omega arith, λ count h. omega arith)

-- what the rest lacks to the next multiple
pub IsGap-from : (rest modulus : ℕ) → 0 < modulus → (rest % modulus ≡ 0 → ⊥) → IsGap rest (modulus - rest % modulus) modulus
IsGap-from rest modulus p h =
    let d = div-add-mod' rest modulus in
    let b : rest % modulus < modulus = mod_below rest modulus p in
    let e : rest + (modulus - rest % modulus) ≡ suc (rest / modulus) * modulus = omega arith in
    record {
      below = omega arith;
      whole = subst (λ y. modulus ∣ y) (sym e) (dvd-mul_left modulus (suc (rest / modulus)));
    }
