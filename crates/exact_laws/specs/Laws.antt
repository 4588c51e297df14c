-- Cells that allow one content alone, and show it: what is asked of them, so that operations on maps of such cells have one content too.
use Rattle.std.specs.Prelude.{◌≡◌, ℕ, zero, suc, ◌+◌, ◌<◌, ◌≤◌, Bool, true, false, List, [], ◌∷◌, ◌++◌, map, Some}
use Rattle.cell_laws.specs.Elements.{spread}
use Rattle.cell_laws.specs.Cells.{Ops}
use Rattle.cell_laws.specs.Order.{known}
use Rattle.offmap_laws.specs.Contents.{AllAlike}

-- k stands at an index of the list
abbrev pub IsAt : {K : Type 0} → List K → ℕ → K → Type 0
IsAt [] i k = ⊥
IsAt (x ∷ xs) zero k = k ≡ x
IsAt (x ∷ xs) (suc i) k = IsAt xs i k

-- The element's cell is sole: it allows these bits, and what it shows tells that cell. A sole cell is blank, or rigid, or all its bits are known.
-- `Bound c`: the bit was made from an address.
pub record SoleLaws {C H K : Type 0} (o : Ops C H) (Fine : ℕ → C → Type 0) (Bare : K → Type 0) (Sure : Bool → K → Type 0) (Alike : K → K → Type 0) (Allows : ℕ → C → List K → Type 0)
    (Bound : K → Type 0) (sole : ℕ → C → Bool) (rigid : C → Bool) : Type 0 where
  pub sole_one : (k : ℕ) (c : C) (js ks : List K) → Fine k c → sole k c ≡ true → Allows k c js → Allows k c ks → AllAlike Alike js ks
  pub sole_known : (k : ℕ) (c : C) → Fine k c → sole k c ≡ true → o.blank c ≡ false → rigid c ≡ false → (bs : List Bool) × (known o (spread k c 0 k) ≡ Some bs) × (o.has k c bs ≡ true)
  -- each bit of its content tells of which kind it is
  pub bare_blank : (k i : ℕ) (c : C) (ks : List K) (b : K) → Fine k c → sole k c ≡ true → Allows k c ks → IsAt ks i b → Bare b → o.blank c ≡ true
  pub sure_known : (k i : ℕ) (c : C) (ks : List K) (b : K) (v : Bool) → Fine k c → sole k c ≡ true → Allows k c ks → IsAt ks i b → Sure v b → o.bit k i c ≡ Some v
  pub bound_rigid : (k i : ℕ) (c : C) (ks : List K) (b : K) → Fine k c → sole k c ≡ true → Allows k c ks → IsAt ks i b → Bound b → rigid c ≡ true
  pub rigid_bound : (k i : ℕ) (c : C) (ks : List K) (b : K) → Fine k c → sole k c ≡ true → rigid c ≡ true → Allows k c ks → IsAt ks i b → Bound b
  -- blank ones with one content are one cell, and so are rigid ones
  pub blank_same : (x y : C) (ks : List K) → Fine 1 x → Fine 1 y → sole 1 x ≡ true → sole 1 y ≡ true → o.blank x ≡ true → o.blank y ≡ true → Allows 1 x ks → Allows 1 y ks → x ≡ y
  pub rigid_bits : (j k : ℕ) (x y : C) → Fine j x → Fine k y → sole j x ≡ true → sole k y ≡ true → rigid x ≡ true → rigid y ≡ true → j ≡ k
  pub rigid_same : (k : ℕ) (x y : C) (ks : List K) → Fine k x → Fine k y → sole k x ≡ true → sole k y ≡ true → rigid x ≡ true → rigid y ≡ true → Allows k x ks → Allows k y ks → x ≡ y
  -- a blank one is stored as it is
  pub fit_blank : (k : ℕ) (c : C) → 0 < k → k ≤ 64 → Fine 1 c → sole 1 c ≡ true → o.blank c ≡ true → o.fit k c ≡ c
  -- parts of what isn't rigid
  pub piece_sole : (k : ℕ) (c : C) (low n : ℕ) → Fine k c → 0 < n → n < k → low + n ≤ k → rigid c ≡ false → sole k c ≡ true → sole n (o.piece k c low n) ≡ true
  pub piece_loose : (k : ℕ) (c : C) (low n : ℕ) → Fine k c → 0 < n → n < k → low + n ≤ k → rigid c ≡ false → rigid (o.piece k c low n) ≡ false

-- where both cells are sole, and have one content, what is made of them is the second
pub record KeepsSole {C K : Type 0} (Fine : ℕ → C → Type 0) (Allows : ℕ → C → List K → Type 0) (sole : ℕ → C → Bool) (merge : ℕ → C → C → C) : Type 0 where
  pub same : (k : ℕ) (x y : C) (ks : List K) → Fine k x → Fine k y → sole k x ≡ true → sole k y ≡ true → Allows k x ks → Allows k y ks → merge k x y ≡ y

-- `Reads ls ks`: a load of the bits ls gives what a load of ks does. The cell gives the load of these bits alone.
abbrev pub OnlyReads : {C K : Type 0} → (ℕ → C → List K → Type 0) → (List K → List K → Type 0) → ℕ → C → List K → Type 0
OnlyReads {C} {K} Gives Reads k c ks = (ls : List K) → Gives k c ls → Reads ls ks

-- `settled k c`: the cell has one number of k bits alone, or no value
pub record ReadLaws {C H K : Type 0} (o : Ops C H) (Fine : ℕ → C → Type 0) (Allows Gives : ℕ → C → List K → Type 0) (Reads : List K → List K → Type 0)
    (sole : ℕ → C → Bool) (rigid : C → Bool) (settled : ℕ → C → Bool) : Type 0 where
  pub one_reads : (k : ℕ) (c : C) (ks : List K) → Fine k c → sole k c ≡ true → Allows k c ks → OnlyReads Gives Reads k c ks
  pub one_settled : (k : ℕ) (c : C) → Fine k c → sole k c ≡ true → rigid c ≡ false → settled k c ≡ true
  pub glue_settled : (j k : ℕ) (c d : C) → Fine j c → 0 < k → j + k ≤ 64 → sole j c ≡ true → rigid c ≡ false → settled k d ≡ true → settled (j + k) (o.glue j c k d) ≡ true
  pub glue_reads : (j k : ℕ) (c d : C) (js ks : List K) → Fine j c → 0 < k → j + k ≤ 64 → sole j c ≡ true → rigid c ≡ false → settled k d ≡ true → Allows j c js → Gives k d ks →
      OnlyReads Gives Reads k d ks → OnlyReads Gives Reads (j + k) (o.glue j c k d) (js ++ ks)

-- what is left of a sole cell when an object has died has one content
pub record SoleDeath {C : Type 0} (Fine : ℕ → C → Type 0) (blank : C → Bool) (sole : ℕ → C → Bool) (left : C → C) : Type 0 where
  pub left_sole : (k : ℕ) (c : C) → Fine k c → sole k c ≡ true → blank (left c) ≡ false → sole k (left c) ≡ true
  pub left_blank : (k : ℕ) (c : C) → Fine k c → sole k c ≡ true → blank (left c) ≡ true → sole 1 (left c) ≡ true
