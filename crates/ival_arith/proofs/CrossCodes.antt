-- How products of two runs are computed.
use Rattle.std.proofs.Common.{◌≡◌, ℕ, zero, suc, ◌+◌, ◌-◌, ◌*◌, ◌/◌, ◌<◌, ◌≤◌, ◌^◌, Bool, true, false, cond, ℤ, pos, ◌+ℤ◌, [], Option, Some, None, refl, sym, subst, ap, ◌∙◌, arith}
use Rattle.std.specs.Prelude.{neg_ℤ, unsigned_abs, nat_lt}
use Rattle.std.proofs.lemmas.Int.{ints}
use Rattle.std.proofs.lemmas.Nat.{mul-le, pow_pos}
use Rattle.c_base.specs.Integers.{FitsBits}
use Rattle.ival_core.proofs.Runs.{Steps-low, Steps-high}
use Rattle.ival_arith.proofs.Words.{powers}
use Rattle.std.proofs.lemmas.Bool.{lt-ltb, le-ltb}
use Rattle.ival_core.specs.declared.value.Progression.{Progression}
use Rattle.ival_core.specs.declared.value.Shape.{Shape}
use Rattle.ival_core.specs.declared.value.Shape.TheVariants.{Many}
use Rattle.ival_core.specs.Sets.{apart, steps_from, IsLongRun, IsValid, Has}
use Rattle.ival_core.specs.Joined.{joined}
use Rattle.ival_arith.specs.Pieces.{clipped}
use Rattle.ival_arith.specs.Values.{line, lines_onto, set_lines, zero_products, least_factor, near_products, IsShortRun}

lines_more : (signed : Bool) (width : ℕ) (s : Shape) (q : Progression) (low : ℤ) (stride count : ℕ) → 0 < count → lines_onto signed width s q (steps_from low stride count) ≡ lines_onto signed width (joined s (line signed width q low)) q (steps_from (low +ℤ pos stride) stride (count - 1))
unfolding lines_onto
lines_more signed width s q low stride zero h = absurd (omega arith)
lines_more signed width s q low stride (suc c) h = let e : suc c - 1 ≡ c = omega arith in ap (λ k. lines_onto signed width (joined s (line signed width q low)) q (steps_from (low +ℤ pos stride) stride k)) (sym e)

no_lines : (signed : Bool) (width : ℕ) (s : Shape) (q : Progression) → lines_onto signed width s q [] ≡ s
unfolding lines_onto
no_lines signed width s q = refl

pub step_lines-none : (signed : Bool) (width : ℕ) (s r : Shape) (q : Progression) (low : ℤ) (stride count : ℕ) → count ≡ 0 → r ≡ s → r ≡ lines_onto signed width s q (steps_from low stride count)
step_lines-none signed width s r q low stride count e f = f ∙ sym (no_lines signed width s q) ∙ ap (λ k. lines_onto signed width s q (steps_from low stride k)) (sym e)

pub step_lines-some : (signed : Bool) (width : ℕ) (s m r : Shape) (q : Progression) (low : ℤ) (stride count : ℕ) → 0 < count → m ≡ joined s (line signed width q low) →
    r ≡ lines_onto signed width m q (steps_from (low +ℤ pos stride) stride (count - 1)) → r ≡ lines_onto signed width s q (steps_from low stride count)
step_lines-some signed width s m r q low stride count h e f = f ∙ ap (λ t. lines_onto signed width t q (steps_from (low +ℤ pos stride) stride (count - 1))) e ∙ sym (lines_more signed width s q low stride count h)

pub run_lines-some : (signed : Bool) (width : ℕ) (q p : Progression) (s r : Shape) (more : ℕ) → more ≡ apart p.low p.high / p.stride → more < 64 →
    r ≡ lines_onto signed width s q (steps_from p.low p.stride (more + 1)) → Some r ≡ set_lines signed width s q (Many p)
unfolding set_lines
run_lines-some signed width q p s r more e h f =
    ap Some f ∙ sym (ap (λ b. cond b (Some (lines_onto signed width s q (steps_from p.low p.stride (more + 1)))) None) (lt-ltb more 64 h))
    ∙ ap (λ k. cond (nat_lt k 64) (Some (lines_onto signed width s q (steps_from p.low p.stride (k + 1)))) None) e

pub run_lines-none : (signed : Bool) (width : ℕ) (q p : Progression) (s : Shape) (more : ℕ) → more ≡ apart p.low p.high / p.stride → 64 ≤ more → None ≡ set_lines signed width s q (Many p)
unfolding set_lines
run_lines-none signed width q p s more e h =
    sym (ap (λ b. cond b (Some (lines_onto signed width s q (steps_from p.low p.stride (more + 1)))) None) (le-ltb more 64 h))
    ∙ ap (λ k. cond (nat_lt k 64) (Some (lines_onto signed width s q (steps_from p.low p.stride (k + 1)))) None) e

pub near_products-is : (signed : Bool) (width : ℕ) (s t zeros near : Shape) (q : Progression) (o : Option Shape) → signed ≡ true → t ≡ Many q → zeros ≡ zero_products t →
    near ≡ clipped (neg_ℤ (pos (2 ^ (width - 1) / least_factor t))) (pos (2 ^ (width - 1) / least_factor t)) s → o ≡ set_lines signed width zeros q near → o ≡ near_products width s q
unfolding near_products
near_products-is signed width s t zeros near q o i e f g h =
    h ∙ ap (λ b. set_lines b width zeros q near) i ∙ ap (λ z. set_lines true width z q near) f ∙ ap (set_lines true width (zero_products t) q) g
    ∙ ap (λ u. set_lines true width (zero_products u) q (clipped (neg_ℤ (pos (2 ^ (width - 1) / least_factor u))) (pos (2 ^ (width - 1) / least_factor u)) s)) e

-- ---- runs of numbers from 0 on

-- steps and first numbers of such a run are small
pub record IsNarrow (p : Progression) : Type 0 where
  pub stride : 8 * p.stride < 2 ^ 64
  pub first : unsigned_abs p.low < 2 ^ 64
  pub second : unsigned_abs p.low + p.stride < 2 ^ 64

pub narrow : (p : Progression) → IsShortRun p → IsNarrow p
narrow p s =
    let a = s.above in let b = s.below in let l = s.long.long in let m = s.long.moves in
    record { stride = omega (arith, ints); first = omega (arith, ints); second = omega (arith, ints) }

pub narrow_product : (a b : ℕ) → a < 2 ^ 64 → b < 2 ^ 64 → a * b < 2 ^ 128
narrow_product a b h k = let m = mul-le a b (2 ^ 64 - 1) (2 ^ 64 - 1) (omega arith) (omega arith) in omega arith

pub short_run : (signed : Bool) (width : ℕ) (s : Shape) (p : Progression) → signed ≡ false → width ≤ 64 → s ≡ Many p → IsValid s → ((n : ℤ) → Has s n → FitsBits signed width n) → IsShortRun p
short_run true width s p e w f v t = cc
short_run false width s p e w f v t =
    let l : IsLongRun p = subst IsValid f v in
    let a = t p.low (subst (λ (u : Shape). Has u p.low) (sym f) (Steps-low p l)) in
    let b = t p.high (subst (λ (u : Shape). Has u p.high) (sym f) (Steps-high p l)) in
    let c = b.greatest in let q = powers width w in let r = pow_pos width in
    record { long = l; above = a.least; below = omega (arith, ints) }
