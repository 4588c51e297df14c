-- Where tokens are refused.
use Rattle.std.specs.Prelude.{ℕ, suc, ◌≡◌, ◌≤◌, ◌⊎◌, List, [], ◌∷◌, length, Option, Some, option_map, slice_get}
use Rattle.c_base.specs.declared.number.Span.{Span}
use Rattle.c_base.specs.declared.token.Token.{Token}

-- the place of a token, by its number from 0
abbrev pub place_of_token : List Token → ℕ → Option Span
place_of_token tokens i = option_map (λ (t : Token). t.span) (slice_get tokens i)

-- the place of one of the tokens from a start on, or of the last of all; the first place of a file where there is no token
abbrev pub IsRefusedAt : List Token → ℕ → Span → Type 0
IsRefusedAt [] start at = at ≡ record { line = 1; col = 1 }
IsRefusedAt (t ∷ more) start at = (i : ℕ) × ((start ≤ i) ⊎ (suc i ≡ length (t ∷ more))) × (place_of_token (t ∷ more) i ≡ Some at)
