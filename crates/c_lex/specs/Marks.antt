-- A piece of a file makes a punctuator exactly where it is spelled like it (C11 6.4.6).
use Rattle.std.specs.Prelude.{◌≡◌, ℕ, Bool, true, IsTrue, List, ◌++◌, length, take}
use Rattle.c_base.specs.declared.token.Punctuator.{Punctuator}
use Rattle.c_base.specs.declared.token.Punctuator.TheVariants.{DotDot, Implies, Equivalent}
use Rattle.c_lex.specs.declared.state.Context.{Context}
use Rattle.c_lex.specs.declared.state.State.TheVariants.{Mark}
use Rattle.c_lex.specs.Pieces.{is_inside, IsPiece}
use Rattle.c_lex.specs.Spellings.{spelling}

-- three punctuators stand inside annotations alone
abbrev pub is_allowed : Context → Punctuator → Bool
is_allowed c DotDot = is_inside c
is_allowed c Implies = is_inside c
is_allowed c Equivalent = is_inside c
is_allowed c _ = true

-- a piece that makes the punctuator is its spelling, and its spelling is a piece that makes it
pub record IsSpelled (p : Punctuator) : Type 0 where
  pub only : (c : Context) (fresh : Bool) (bytes : List ℕ) (n : ℕ) → IsPiece c fresh bytes n (Mark p) → take n bytes ≡ spelling p
  pub made : (c : Context) (fresh : Bool) (rest : List ℕ) → IsTrue (is_allowed c p) → IsPiece c fresh (spelling p ++ rest) (length (spelling p)) (Mark p)
