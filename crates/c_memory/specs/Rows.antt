-- What a printed row says of a memory.
use Rattle.std.specs.Prelude.{ℕ, zero, suc, ◌-◌, ◌*◌, ◌/◌, ◌^◌, ◌≤◌, ◌≡◌, ◌⊎◌, ◌==◌, Bool, IsTrue, List, [], ◌∷◌, length, take, drop, filter, Contains, ℤ, pos, ◌+ℤ◌, ◌≤ℤ◌, Option, None, Some, IsSome}
use Rattle.std.specs.List.{AllByRecursion}
use Rattle.std.specs.FinSet.{contains}
use Rattle.c_base.specs.Integers.{residue, bits_from, in_byte_order}
use Rattle.c_memory.specs.declared.scalar.Scalar.TheVariants.{Pointer}
use Rattle.c_memory.specs.Scalars.{bits_of_scalar}
use Rattle.c_memory.specs.Values.{Cell, Uninit, Dead, Bit, Provenance, nowhere, only}
use Rattle.c_memory.specs.Layouts.{Layout}
use Rattle.c_memory.specs.Memories.{Memory}

-- at most 8 numbers, or the numbers from a low to a high bound that leave a remainder
pub data Numbers : Type 0 where
  Few : List ℤ → Numbers
  Many : ℤ → ℤ → ℕ → ℕ → Numbers

abbrev pub HoldsNumber : Numbers → ℤ → Type 0
HoldsNumber (Few ns) n = Contains ns n
HoldsNumber (Many low high remainder modulus) n = (low ≤ℤ n) × (n ≤ℤ high) × (residue modulus n ≡ remainder)

-- numbers made from no address; byte offsets into a base; or anything made from the addresses of some bases
pub data Part : Type 0 where
  Plain : Numbers → Part
  Address : ℕ → Numbers → Part
  Mix : List ℕ → Part

-- the values that an element may have, and whether its bits may be not written or dead
pub record RowCell : Type 0 where
  pub parts : List Part
  pub uninit : Bool
  pub dead : Bool

-- the bits `low` to `high` of a base, in elements of `size` bits with one cell
pub record Entry : Type 0 where
  pub base : ℕ
  pub low : ℕ
  pub high : ℕ
  pub size : Option ℕ
  pub cell : RowCell

-- a cell has this bit and provenance, or it is not written or dead where the row's cell says so; pieces are left aside
abbrev pub IsBit : RowCell → Bool → Provenance → Cell → Type 0
IsBit c b p Uninit = IsTrue c.uninit
IsBit c b p Dead = IsTrue c.dead
IsBit c b p (Bit bit provenance piece) = (bit ≡ b) × (provenance ≡ p)

abbrev pub AreBits : RowCell → Provenance → List Bool → List Cell → Type 0
AreBits c p [] [] = Unit {0}
AreBits c p [] (cell ∷ cells) = ⊥
AreBits c p (b ∷ bs) [] = ⊥
AreBits c p (b ∷ bs) (cell ∷ cells) = IsBit c b p cell × AreBits c p bs cells

-- any bit, of any provenance within the bases
abbrev pub IsMixed : RowCell → List ℕ → Cell → Type 0
IsMixed c bases Uninit = IsTrue c.uninit
IsMixed c bases Dead = IsTrue c.dead
IsMixed c bases (Bit bit provenance piece) = (base : ℕ) → IsTrue (contains provenance base) → Contains bases base

abbrev pub IsFlagged : RowCell → Cell → Type 0
IsFlagged c Uninit = IsTrue c.uninit
IsFlagged c Dead = IsTrue c.dead
IsFlagged c (Bit bit provenance piece) = ⊥

-- the cells are those of a number, from the machine's first byte on
abbrev pub AreBitsOf : Layout → RowCell → Provenance → ℤ → List Cell → Type 0
AreBitsOf l c p n cells =
    AreBits c p (in_byte_order l.machine (bits_from (residue (2 ^ length cells) n) (length cells))) cells

-- the cells of one element have a value of the part
abbrev pub AllowsPart : Layout → RowCell → List Cell → Part → Type 0
AllowsPart l c cells (Plain ns) = (n : ℤ) × HoldsNumber ns n × AreBitsOf l c nowhere n cells
AllowsPart l c cells (Address base offsets) =
    (length cells ≡ bits_of_scalar Pointer l.machine) ×
    ((o : ℤ) × HoldsNumber offsets o × AreBitsOf l c (only base) (pos (l.address base) +ℤ o) cells)
AllowsPart l c cells (Mix bases) = AllByRecursion (IsMixed c bases) cells

abbrev pub AllowsSome : Layout → RowCell → List Cell → List Part → Type 0
AllowsSome l c cells [] = ⊥
AllowsSome l c cells (part ∷ parts) = AllowsPart l c cells part ⊎ AllowsSome l c cells parts

-- the cells, cut into so many elements of `size` bits, are each allowed
abbrev pub EachElement : Layout → RowCell → ℕ → ℕ → List Cell → Type 0
EachElement l c size zero cells = cells ≡ []
EachElement l c size (suc count) cells = AllowsSome l c (take size cells) c.parts × EachElement l c size count (drop size cells)

-- an entry without a size has no value: its bits are not written or dead
abbrev pub AllowsStretch : Layout → RowCell → Option ℕ → List Cell → Type 0
AllowsStretch l c None cells = AllByRecursion (IsFlagged c) cells
AllowsStretch l c (Some size) cells = EachElement l c size (length cells / size) cells

pub record DescribesEntry (l : Layout) (m : Memory) (e : Entry) : Type 0 where
  pub cells : List Cell
  pub live : m e.base ≡ Some cells
  pub allowed : AllowsStretch l e.cell e.size (take (suc e.high - e.low) (drop e.low cells))

-- ranges that follow each other and cover so many bits
abbrev pub AreRanges : ℕ → ℕ → List Entry → Type 0
AreRanges from bits [] = from ≡ bits
AreRanges from bits (e ∷ es) = (e.low ≡ from) × (e.low ≤ e.high) × AreRanges (suc e.high) bits es

abbrev pub entries_of : ℕ → List Entry → List Entry
entries_of base row = filter (λ e. e.base == base) row

-- The row describes the memory: the live bases that rows show are those of the row, whose entries cover each of them and allow its
-- cells. Rows show the bases for which `shown` is true: all but functions and string literals.
pub record Describes (l : Layout) (shown : ℕ → Bool) (row : List Entry) (m : Memory) : Type 0 where
  pub covered : (base : ℕ) → IsTrue (shown base) → IsSome (m base) → AreRanges 0 (8 * l.size base) (entries_of base row)
  pub entries : AllByRecursion (DescribesEntry l m) row
