-- What loads make of memory's bits.
use Rattle.std.specs.Prelude.{◌≡◌, true, false, List}
use Rattle.std.specs.List.{list_any}
use Rattle.c_memory.specs.Values.{Cell, Uninit, Dead, Bit, nowhere, is_uninit, is_dead}
use Rattle.offmap_laws.specs.Contents.{AllAlike}
use Rattle.avalue_base.specs.Singles.{SameCell}

-- the bit was made from an address
abbrev pub Bound : Cell → Type 0
Bound Uninit = ⊥
Bound Dead = ⊥
Bound (Bit b p i) = p ≡ nowhere → ⊥

-- a load of the first bits finds what a load of the second does: bits that are not written or dead, or else their value
pub record Reads (ls ks : List Cell) : Type 0 where
  pub uninit : list_any is_uninit ls ≡ true → list_any is_uninit ks ≡ true
  pub dead : list_any is_dead ls ≡ true → list_any is_dead ks ≡ true
  pub value : list_any is_uninit ls ≡ false → list_any is_dead ls ≡ false → (list_any is_uninit ks ≡ false) × (list_any is_dead ks ≡ false) × AllAlike SameCell ls ks
