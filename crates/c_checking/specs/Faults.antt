-- Why a tree has no types: the rule that its node breaks, and the node's place, which is that of its first token.
use Rattle.std.specs.Prelude.{ℕ, Result, Ok, Err}
use Rattle.c_base.specs.declared.number.Span.{Span}

-- what this tool's subset of C leaves out, and what C11's constraints forbid
pub data Fault : Type 0 where
  Profile : ℕ → Span → Fault
  Typing : ℕ → Span → Fault

infixl 10 ◌>>=◌
abbrev pub ◌>>=◌ : {A B : Type 0} → Result A Fault → (A → Result B Fault) → Result B Fault
(Ok x) >>= f = f x
(Err e) >>= f = Err e

abbrev pub fault : {A : Type 0} → ℕ → Span → Result A Fault
fault rule at = Err (Typing rule at)
