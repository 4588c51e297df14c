-- Ranges in which single numbers lie.
use Rattle.std.specs.Prelude.{◌^◌, ℤ, pos, neg_ℤ, ◌≤ℤ◌, ◌<ℤ◌}

-- from -2^120 to 2^120
pub record IsWide (n : ℤ) : Type 0 where
  pub least : neg_ℤ (pos (2 ^ 120)) ≤ℤ n
  pub greatest : n ≤ℤ pos (2 ^ 120)

-- from -2^64 to 2^64 - 1, where the numbers of each integer type lie
pub record IsOperand (n : ℤ) : Type 0 where
  pub least : neg_ℤ (pos (2 ^ 64)) ≤ℤ n
  pub greatest : n <ℤ pos (2 ^ 64)
