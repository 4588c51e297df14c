-- What values and cells mean in a layout.
use Rattle.std.specs.Prelude.{ℕ, ◌^◌, ◌≡◌, ◌⊎◌, Bool, true, false, List, [], ◌∷◌, length, ℤ, pos, ◌+ℤ◌, ◌≤ℤ◌, ◌<ℤ◌}
use Rattle.std.specs.List.{AllByRecursion, list_any}
use Rattle.std.specs.FinSet.{contains}
use Rattle.c_base.specs.Integers.{residue}
use Rattle.c_memory.specs.Values.{Cell, Uninit, Dead, Bit, Value, nowhere, only, is_uninit, is_dead}
use Rattle.c_memory.specs.Layouts.{Layout}
use Rattle.c_memory.specs.Rows.{IsFlagged, AllowsSome}
use Rattle.ival_core.specs.Ivals.{Holds}
use Rattle.avalue_base.specs.Lists.{has_base}
use Rattle.avalue_base.specs.Values.{Address, AVal, Separate, Mixed, Cellv, parts_of, has_no_value, row_cell}
use Rattle.avalue_base.specs.Hues.{Hue, pointer_bits}

-- x is the address of a byte of the base, or what such a sum gives modulo the pointer's range
pub record MeansAddress (l : Layout) (a : Address) (x : Value) : Type 0 where
  pub offset : ℤ
  pub held : Holds a.offsets offset
  pub number : x.number ≡ pos (residue (2 ^ pointer_bits l.machine) (pos (l.address a.base) +ℤ offset))
  pub provenance : x.provenance ≡ only a.base

abbrev pub MeansSome : Layout → List Address → Value → Type 0
MeansSome l [] x = ⊥
MeansSome l (a ∷ addresses) x = MeansAddress l a x ⊎ MeansSome l addresses x

-- x is one of the values
abbrev pub Means : Layout → AVal → Value → Type 0
Means l (Separate numbers addresses) x = ((x.provenance ≡ nowhere) × Holds numbers x.number) ⊎ MeansSome l addresses x
Means l (Mixed bases) x = (q : ℕ) → contains x.provenance q ≡ true → has_base bases q ≡ true

-- the number has 64 bits
pub record IsWord (n : ℤ) : Type 0 where
  pub low : pos 0 ≤ℤ n
  pub high : n <ℤ pos (2 ^ 64)

abbrev pub AllowsBy : Layout → Cellv → Bool → List Cell → Type 0
AllowsBy l c true cells = AllByRecursion (IsFlagged (row_cell c)) cells
AllowsBy l c false cells = AllowsSome l (row_cell c) cells (parts_of c.value)

-- an element of k bits with this cell may be these cells
abbrev pub Allows : Layout → ℕ → Cellv → List Cell → Type 0
Allows l k c cells = (length cells ≡ k) × AllowsBy l c (has_no_value c.value) cells

-- a load of these k cells finds a flag of the cell, or gives one of its values
pub record Gives (l : Layout) (k : ℕ) (c : Cellv) (cells : List Cell) : Type 0 where
  pub count : length cells ≡ k
  pub uninit : list_any is_uninit cells ≡ true → c.uninit ≡ true
  pub dead : list_any is_dead cells ≡ true → c.dead ≡ true
  pub value : list_any is_uninit cells ≡ false → list_any is_dead cells ≡ false → AllowsSome l (row_cell c) cells (parts_of c.value)

-- what a hue, a cell without values, and a known bit say of one bit in memory
abbrev pub Tint : Hue → Cell → Type 0
Tint h Uninit = h.uninit ≡ true
Tint h Dead = h.dead ≡ true
Tint h (Bit b p i) = (q : ℕ) → contains p q ≡ true → has_base h.bases q ≡ true

abbrev pub Bare : Cell → Type 0
Bare Uninit = Unit {0}
Bare Dead = Unit {0}
Bare (Bit b p i) = ⊥

abbrev pub Sure : Bool → Cell → Type 0
Sure b Uninit = ⊥
Sure b Dead = ⊥
Sure b (Bit c p i) = (c ≡ b) × (p ≡ nowhere)
