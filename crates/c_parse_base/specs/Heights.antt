-- How deep trees are, counted up to a limit that lies above every limit of nesting.
use Rattle.std.specs.Prelude.{ℕ, min}

unfoldable pub capped : ℕ → ℕ
capped n = min n 1000000
