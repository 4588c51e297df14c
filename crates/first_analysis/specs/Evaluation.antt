-- What expressions without effects give on Lp64 where every object is a variable of type int: numbers alone, without cells.
use Rattle.std.specs.Prelude.{ℕ, ◌≡◌, ◌≤◌, ◌==◌, Bool, cond, not, ℤ, Option, None, Some, Result, Ok, Err}
use Rattle.c_base.specs.declared.integer.IntKind.{IntKind}
use Rattle.c_base.specs.declared.integer.IntKind.TheVariants.{Int}
use Rattle.c_base.specs.declared.operators.BinOp.{BinOp}
use Rattle.c_base.specs.declared.kind.Kind.{Kind}
use Rattle.c_base.specs.declared.kind.Kind.TheVariants.{Initialization}
use Rattle.c_base.specs.declared.integer.Machine.TheVariants.{Lp64}
use Rattle.c_base.specs.Operators.{applied, is_zero}
use Rattle.c_memory.specs.declared.scalar.Scalar.TheVariants.{Integer}
use Rattle.c_program.specs.Syntax.{Variable, Expr, Number, Load, Binary, Assign}

-- what each variable holds: a number, or nothing yet
abbrev pub Env : Type 0
Env = ℕ → Option ℤ

abbrev pub set : Env → ℕ → ℤ → Env
set env base n = λ other. cond (other == base) (Some n) (env other)

abbrev pub content_value : Option ℤ → Result ℤ Kind
content_value None = Err Initialization
content_value (Some n) = Ok n

-- an operator on two results: the left operand stops first
abbrev pub combined : BinOp → IntKind → Result ℤ Kind → Result ℤ Kind → Result ℤ Kind
combined op kind (Err k) b = Err k
combined op kind (Ok a) (Err k) = Err k
combined op kind (Ok a) (Ok b) = applied op kind Lp64 a b

-- the number of an expression, or the kind with which its evaluation stops; other expressions aren't meant
abbrev pub value : Env → Expr → Result ℤ Kind
value env (Number kind n) = Ok n
value env (Load type (Variable base)) = content_value (env base)
value env (Binary op kind a b) = combined op kind (value env a) (value env b)
value env (Assign type p e) = value env e
value env e = Err Initialization

-- a number is true where it is not 0 (C11 6.8.4.1p2)
abbrev pub is_true : ℤ → Bool
is_true n = not (is_zero n)

-- the base is one of the variables from 1 to `count`
pub record IsVariable (count base : ℕ) : Type 0 where
  pub low : 1 ≤ base
  pub high : base ≤ count

-- the expression is of type int, has no effect, and names only these variables
abbrev pub IsPlain : ℕ → Expr → Type 0
IsPlain count (Number kind n) = kind ≡ Int
IsPlain count (Load type (Variable base)) = (type ≡ Integer Int) × IsVariable count base
IsPlain count (Binary op kind a b) = (kind ≡ Int) × IsPlain count a × IsPlain count b
IsPlain count e = ⊥
