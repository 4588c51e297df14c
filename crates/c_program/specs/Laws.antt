-- Which uses of a function's name let a call by a pointer enter it.
use Rattle.std.specs.Prelude.{ℕ, ◌≡◌, true, false}
use Rattle.c_types.specs.Types.{CType}
use Rattle.c_program.specs.Syntax.{Variable, Address, Call, NoExpr, NextExpr}
use Rattle.c_program.specs.Names.{names}

-- a function whose address is an argument of a call is named by it
abbrev pub NamedAsArgument : ℕ → Type 0
NamedAsArgument f = (site g : ℕ) (t u : CType) → names f (Call site t (Variable g) (NextExpr (Address u (Variable f)) NoExpr)) ≡ true

-- a function that is called directly is not
abbrev pub NotNamedAsCalled : ℕ → Type 0
NotNamedAsCalled f = (site : ℕ) (t : CType) → names f (Call site t (Variable f) NoExpr) ≡ false
