-- What the lexer answers: a file's tokens, or why it has none.
use Rattle.std.specs.Prelude.{◌≡◌, ℕ, ◌≤◌, ◌<◌, List, length}
use Rattle.c_base.specs.declared.token.Token.{Token}
use Rattle.c_lex.specs.declared.fault.LexFault.{LexFault}
use Rattle.c_lex.specs.declared.fault.LexFault.TheVariants.{BadByte, OpenComment, OpenString, BadNumber, TooMany, Memory}
use Rattle.c_lex.specs.Tokens.{AreTokensOf, HasFault}

-- the file is cut into these tokens, and into no others
pub record AreTheTokensOf (bytes : List ℕ) (ts : List Token) : Type 0 where
  pub cut : AreTokensOf bytes ts
  pub only : (others : List Token) → AreTokensOf bytes others → others ≡ ts

-- and there are at most 2,000,000
pub record AreAnswered (bytes : List ℕ) (ts : List Token) : Type 0 where
  pub all : AreTheTokensOf bytes ts
  pub few : length ts ≤ 2000000

-- the file is cut into no tokens, and this is the fault of the first piece that is wrong
pub record IsRefusedFor (bytes : List ℕ) (f : LexFault) : Type 0 where
  pub fault : HasFault bytes f
  pub only : (other : LexFault) → HasFault bytes other → other ≡ f
  pub none : (ts : List Token) → AreTokensOf bytes ts → ⊥

-- the file is cut into so many tokens, and these are more than 2,000,000
pub record AreTooMany (bytes : List ℕ) (count : ℕ) : Type 0 where
  pub ts : List Token
  pub all : AreTheTokensOf bytes ts
  pub so_many : length ts ≡ count
  pub many : 2000000 < count

abbrev pub IsRefusal : List ℕ → LexFault → Type 0
IsRefusal bytes (BadByte at) = IsRefusedFor bytes (BadByte at)
IsRefusal bytes (OpenComment at) = IsRefusedFor bytes (OpenComment at)
IsRefusal bytes (OpenString at) = IsRefusedFor bytes (OpenString at)
IsRefusal bytes (BadNumber at) = IsRefusedFor bytes (BadNumber at)
IsRefusal bytes (TooMany count) = AreTooMany bytes count
IsRefusal bytes Memory = Unit {0}
