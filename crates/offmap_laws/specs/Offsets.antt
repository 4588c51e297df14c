-- Lists of offsets.
use Rattle.std.specs.Prelude.{◌≡◌, ◌⊎◌, ℕ, List, [], ◌∷◌}

abbrev pub IsAmong : List ℕ → ℕ → Type 0
IsAmong [] n = ⊥
IsAmong (x ∷ xs) n = (n ≡ x) ⊎ IsAmong xs n
