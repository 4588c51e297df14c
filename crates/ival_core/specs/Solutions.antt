-- Congruences that two progressions put on one number.
use Rattle.std.specs.Prelude.{◌≡◌, ℕ, ◌*◌, ◌%◌, ◌+◌, ◌/◌, ◌<◌, ◌≤◌, ℤ, ◌≤ℤ◌, nat_lt, if◌then◌else◌, Option, Some, None}
use Rattle.std.specs.Int.{◌∣◌}
use Rattle.ival_core.specs.declared.value.Progression.{Progression}
use Rattle.ival_core.specs.Sets.{apart, Steps}

-- gap is the least that makes a multiple of modulus of rest
pub record IsGap (rest gap modulus : ℕ) : Type 0 where
  pub below : gap < modulus
  pub whole : modulus ∣ rest + gap

-- step · count leaves rest modulo modulus
abbrev pub Leaves : ℕ → ℕ → ℕ → ℕ → Type 0
Leaves step rest modulus count = (step * count) % modulus ≡ rest

-- the least such count, where step · count is at most bound
abbrev pub IsLeastSolution : ℕ → ℕ → ℕ → ℕ → Option ℕ → Type 0
IsLeastSolution step rest modulus bound None = (count : ℕ) → Leaves step rest modulus count → bound < step * count
IsLeastSolution step rest modulus bound (Some least) =
    Leaves step rest modulus least × (step * least ≤ bound) × ((count : ℕ) → Leaves step rest modulus count → least ≤ count)

-- the count of steps that `turns` rounds come to, where step · count is at most bound
abbrev pub lifted_count : ℕ → ℕ → ℕ → ℕ → ℕ → Option ℕ
lifted_count step rest modulus bound turns =
    let count = (rest + modulus * turns) / (step % modulus) in
    if nat_lt (bound / step) count then None else Some count

-- n lies from first to high, and both one and other divide its distance from first
pub record MeetsBoth (first high : ℤ) (one other : ℕ) (n : ℤ) : Type 0 where
  pub above : first ≤ℤ n
  pub below : n ≤ℤ high
  pub meets_one : one ∣ apart first n
  pub meets_other : other ∣ apart first n

-- first lies in the steps of upper and in those of lower, and no number that both hold lies before it
pub record IsFirstCommon (upper lower : Progression) (high first : ℤ) : Type 0 where
  pub above : upper.low ≤ℤ first
  pub below : first ≤ℤ high
  pub on_upper : upper.stride ∣ apart upper.low first
  pub on_lower : lower.stride ∣ apart lower.low first
  pub least : (n : ℤ) → Steps upper n → Steps lower n → first ≤ℤ n
