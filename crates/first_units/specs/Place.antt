-- Places of tokens.
use Rattle.std.specs.Prelude.{ℕ, ◌≡◌, Bool, true, false, List, [], ◌∷◌, slice_get, Option, None, Some}
use Rattle.c_base.specs.declared.number.Span.{Span}
use Rattle.c_base.specs.declared.token.Token.{Token}

-- one of the tokens, by its place
pub record IsOneAt (tokens : List Token) (at : Span) : Type 0 where
  pub index : ℕ
  pub token : Token
  pub there : slice_get tokens index ≡ Some token
  pub place : token.span ≡ at

-- the place of a token; where there is none, the beginning of the file
abbrev pub IsPlaceIn : List Token → Span → Type 0
IsPlaceIn [] at = at ≡ record { line = 1; col = 1 }
IsPlaceIn (t ∷ ts) at = IsOneAt (t ∷ ts) at

abbrev pub is_there : Option Span → Bool
is_there None = false
is_there (Some at) = true
