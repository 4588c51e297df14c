-- The least progression round some numbers.
use Rattle.std.specs.Prelude.{◌≡◌, ℕ, ℤ}
use Rattle.std.specs.Int.{◌∣◌, int_min, int_max}
use Rattle.ival_core.specs.declared.value.Progression.{Progression}
use Rattle.ival_core.specs.Sets.{apart, Steps}

-- p runs from a number with P to a number with P, over all of them, in the largest steps that do so
pub record Spans (P : ℤ → Type 0) (p : Progression) : Type 0 where
  pub first : P p.low
  pub last : P p.high
  pub covers : (n : ℤ) → P n → Steps p n
  pub finest : (d : ℕ) → ((n : ℤ) → P n → d ∣ apart p.low n) → d ∣ p.stride

-- r runs round p and q, and its stride is the greatest that divides both strides and the distance of their starts
pub record IsHull (p q r : Progression) : Type 0 where
  pub low : r.low ≡ int_min p.low q.low
  pub high : r.high ≡ int_max p.high q.high
  pub first : r.stride ∣ p.stride
  pub second : r.stride ∣ q.stride
  pub between : r.stride ∣ apart p.low q.low
  pub greatest : (d : ℕ) → d ∣ p.stride → d ∣ q.stride → d ∣ apart p.low q.low → d ∣ r.stride
