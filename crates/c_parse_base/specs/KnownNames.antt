-- The names that are declared, and which of them were declared before the innermost scope.
use Rattle.std.specs.Prelude.{ℕ, ◌-◌, Bool, List, drop, length}
use Rattle.c_tree.specs.WellFormed.{NameUse, Names}

abbrev pub a_use : List ℕ → Bool → NameUse
a_use name typedef = record { name = name; is_typedef = typedef }

-- the names, the newest first, and how many of them are older than the innermost scope
pub record Known : Type 0 where
  pub names : Names
  pub floor : ℕ

-- what is older than the innermost scope
abbrev pub kept : Known → Known
kept k = record { names = drop (length k.names - k.floor) k.names; floor = k.floor }
