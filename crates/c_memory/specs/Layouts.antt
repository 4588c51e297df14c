-- Where the objects of a program stand.
use Rattle.std.specs.Prelude.{ℕ, ◌^◌, Bool, List}
use Rattle.c_base.specs.declared.integer.Machine.{Machine}
use Rattle.c_base.specs.declared.integer.Machine.TheVariants.{Lp64}

-- One placement of a program's bases: the machine, the first bytes of the bases, their sizes in bytes, which of them can't be written, and
-- all of them. `IsLayout` of Syntax says which placements a program has.
pub record Layout : Type 0 where
  pub machine : Machine
  pub address : ℕ → ℕ
  pub size : ℕ → ℕ
  pub readonly : ℕ → Bool
  pub bases : List ℕ

-- objects end at this address or before
abbrev pub last_address : Machine → ℕ
last_address Lp64 = 2 ^ 47
