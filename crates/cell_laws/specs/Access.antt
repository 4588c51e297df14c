-- Loads and stores, and parts of maps.
use Rattle.std.specs.Prelude.{ℕ, zero, suc, ◌+◌, ◌-◌, ◌<◌, ◌≤◌, ◌==◌, nat_le, cond, List, [], ◌∷◌, ◌++◌, replicate}
use Rattle.cell_laws.specs.Elements.{Element, width}
use Rattle.cell_laws.specs.Cells.{Ops}
use Rattle.cell_laws.specs.Join.{joined, joined_cell}

module _ {C H : Type 0} (o : Ops C H) where
  unfoldable pub take_bits : List (Element C) → ℕ → List (Element C)
  take_bits [] n = []
  take_bits (e ∷ es) n =
      cond (n == 0) []
      (cond (nat_le e.bits n) (e ∷ take_bits es (n - e.bits)) (record { bits = n; cell = o.piece e.bits e.cell 0 n } ∷ []))

  unfoldable pub drop_bits : List (Element C) → ℕ → List (Element C)
  drop_bits [] n = []
  drop_bits (e ∷ es) n =
      cond (n == 0) (e ∷ es)
      (cond (nat_le e.bits n) (drop_bits es (n - e.bits)) (record { bits = e.bits - n; cell = o.piece e.bits e.cell n (e.bits - n) } ∷ es))

  -- k bits that hold a cell: one element, or k elements where it has no value
  unfoldable pub filled : ℕ → C → List (Element C)
  filled k c = cond (o.blank c) (replicate k (record { bits = 1; cell = c })) (record { bits = k; cell = c } ∷ [])

  unfoldable pub put : ℕ → C → List (Element C)
  put k c = filled k (o.fit k c)

  -- n times the k bits that hold a cell
  unfoldable pub repeated : ℕ → ℕ → C → List (Element C)
  repeated k zero c = []
  repeated k (suc n) c = put k c ++ repeated k n c

  -- the part of so many bits from `at` on
  unfoldable pub copied : List (Element C) → ℕ → ℕ → List (Element C)
  copied m at n = take_bits (drop_bits m at) n

  -- with another map's bits from `at` on
  unfoldable pub pasted : List (Element C) → ℕ → List (Element C) → List (Element C)
  pasted m at part = take_bits m at ++ (part ++ drop_bits m (at + width part))

  unfoldable pub stored : List (Element C) → ℕ → ℕ → C → List (Element C)
  stored m at k c = pasted m at (put k c)

  -- one cell of the bits of all
  unfoldable pub glued : List (Element C) → C
  glued [] = o.void
  glued (e ∷ []) = e.cell
  glued (e ∷ f ∷ es) = o.glue e.bits e.cell (width (f ∷ es)) (glued (f ∷ es))

  unfoldable pub loaded : List (Element C) → ℕ → ℕ → C
  loaded m at k = glued (copied m at k)

  -- what may stand at one of the offsets
  unfoldable pub loaded_all : List (Element C) → List ℕ → ℕ → C
  loaded_all m [] k = o.void
  loaded_all m (at ∷ ats) k = o.join (loaded m at k) (loaded_all m ats k)

  -- the old and the new content are possible at each offset
  unfoldable pub weakened : List (Element C) → List ℕ → ℕ → C → List (Element C)
  weakened m [] k c = m
  weakened m (at ∷ ats) k c = weakened (joined o (joined_cell o) m (stored m at k c)) ats k c

-- an access has so many bits
pub record IsSize (k : ℕ) : Type 0 where
  pub some : 0 < k
  pub few : k ≤ 64

-- accesses of k bits at all of the offsets lie within n bits
abbrev pub AllWithin : ℕ → ℕ → List ℕ → Type 0
AllWithin k n [] = Unit {0}
AllWithin k n (at ∷ ats) = (at + k ≤ n) × AllWithin k n ats
