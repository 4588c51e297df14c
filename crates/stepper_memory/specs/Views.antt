-- What the data of a memory stand for. Bits are not visited when objects die: each knows when it was written, and each base when it died
-- last; a bit that was made from the address of a base that has died since is dead.
use Rattle.std.specs.Prelude.{ℕ, ◌≤◌, nat_lt, Bool, List, [], map, cond, Option, None, Some, slice_get, unwrap_or}
use Rattle.std.specs.List.{list_any, AllByRecursion}
use Rattle.c_memory.specs.Values.{Cell, Uninit, Dead, Bit}
use Rattle.c_memory.specs.Memories.{Memory}
use Rattle.stepper_values.specs.declared.value.Cell.{Cell as CodeCell}
use Rattle.stepper_values.specs.declared.value.Cell.TheVariants.{Uninit as CodeUninit, Dead as CodeDead, Bit as CodeBit}
use Rattle.stepper_values.specs.Views.{bases_of}
use Rattle.stepper_memory.specs.declared.stored.Stored.{Stored}

-- when a base died last, where 0 is never
abbrev pub death_of : List ℕ → ℕ → ℕ
death_of deaths base = unwrap_or (slice_get deaths base) 0

-- one of the bases has died since
abbrev pub is_stale : List ℕ → ℕ → List ℕ → Bool
is_stale deaths since bases = list_any (λ base. nat_lt since (death_of deaths base)) bases

abbrev pub aged : List ℕ → ℕ → CodeCell → Cell
aged deaths since CodeUninit = Uninit
aged deaths since CodeDead = Dead
aged deaths since (CodeBit bit bases piece) = cond (is_stale deaths since bases) Dead (Bit bit (bases_of bases) piece)

abbrev pub seen : List ℕ → Stored → Cell
seen deaths s = aged deaths s.since s.cell

abbrev pub seen_base : List ℕ → Option (Option (List Stored)) → Option (List Cell)
seen_base deaths None = None
seen_base deaths (Some None) = None
seen_base deaths (Some (Some cells)) = Some (map (seen deaths) cells)

-- the memory whose bases have these cells, where none lives that has none
abbrev pub memory_of : List ℕ → List (Option (List Stored)) → Memory
memory_of deaths table = λ base. seen_base deaths (slice_get table base)

-- the deaths and the bits of all bases
abbrev pub Contents : Type 0
Contents = List ℕ × List (Option (List Stored))

-- the memory that they are
abbrev pub plain : Contents → Memory
plain c = memory_of c.0 c.1

-- ---- nothing is later than now

pub record IsBefore (now : ℕ) (s : Stored) : Type 0 where
  pub time : s.since ≤ now

abbrev pub AreBefore : ℕ → Option (List Stored) → Type 0
AreBefore now None = Unit {0}
AreBefore now (Some cells) = AllByRecursion (IsBefore now) cells

abbrev pub AllBefore : ℕ → List (Option (List Stored)) → Type 0
AllBefore now table = AllByRecursion (AreBefore now) table

pub record IsTimely (now : ℕ) (deaths : List ℕ) (table : List (Option (List Stored))) : Type 0 where
  pub died : AllByRecursion (λ d. d ≤ now) deaths
  pub cells : AllBefore now table
