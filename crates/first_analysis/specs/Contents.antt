-- What a variable may hold, by bounds and a flag, and the rows of all variables.
use Rattle.std.specs.Prelude.{ℕ, suc, ◌≡◌, ℤ, ◌≤ℤ◌, IsTrue, true, List, slice_get, Option, None, Some}
use Rattle.c_base.specs.declared.integer.IntKind.TheVariants.{Int}
use Rattle.c_base.specs.declared.integer.Machine.TheVariants.{Lp64}
use Rattle.c_base.specs.Integers.{fits_kind}
use Rattle.first_analysis.specs.declared.range.Range.{Range}
use Rattle.first_analysis.specs.declared.content.Content.{Content}
use Rattle.first_analysis.specs.Evaluation.{Env}

-- the number lies between the bounds
pub record IsWithin (r : Range) (n : ℤ) : Type 0 where
  pub above : r.low ≤ℤ n
  pub below : n ≤ℤ r.high

abbrev pub HoldsNumber : Option Range → ℤ → Type 0
HoldsNumber None n = ⊥
HoldsNumber (Some r) n = IsWithin r n

-- a number between the bounds, or nothing yet where the flag stands
abbrev pub Holds : Content → Option ℤ → Type 0
Holds c None = IsTrue c.uninit
Holds c (Some n) = HoldsNumber c.range n

abbrev pub IncludesRange : Option Range → Option Range → Type 0
IncludesRange b a = (n : ℤ) → HoldsNumber a n → HoldsNumber b n

-- one content holds what another holds
abbrev pub Includes : Content → Content → Type 0
Includes b a = (x : Option ℤ) → Holds a x → Holds b x

abbrev pub Row : Type 0
Row = List Content

abbrev pub FitsInt : Option ℤ → Type 0
FitsInt None = Unit {0}
FitsInt (Some n) = fits_kind Int Lp64 n ≡ true

-- each variable holds what the row says, and a number of int at most; the variables are numbered from 1
pub record HoldsRow (row : Row) (env : Env) : Type 0 where
  pub fits : (base : ℕ) → FitsInt (env base)
  pub each : (k : ℕ) (c : Content) → slice_get row k ≡ Some c → Holds c (env (suc k))

-- a statement that is not reached has no row
abbrev pub HoldsReached : Option Row → Env → Type 0
HoldsReached None env = ⊥
HoldsReached (Some row) env = HoldsRow row env
