-- The row of a statement describes the memories of the runs.
use Rattle.std.proofs.Common.{◌≡◌, ℕ, zero, suc, ◌+◌, ◌*◌, ◌/◌, ◌^◌, ◌<◌, ◌≤◌, ◌==◌, Bool, true, false, IsTrue, List, [], ◌∷◌, length, get_or, map, take, drop, replicate, Option, None, Some, ℤ, refl, sym, ap, inl, arith, take_all, drop_of_length-le}
use Rattle.std.specs.Prelude.{◌≤ℤ◌, IsSome, nat_le}
use Rattle.std.specs.List.{AllByRecursion}
use Rattle.std.proofs.lemmas.Bool.Decides.{nat_tests}
use Rattle.std.proofs.lemmas.Int.{ints}
use Rattle.c_base.proofs.Tests.{other_test}
use Rattle.c_base.specs.declared.integer.Machine.TheVariants.{Lp64}
use Rattle.c_base.specs.Integers.{bits_from, residue}
use Rattle.c_base.proofs.Bits.{length-bits_from}
use Rattle.c_memory.specs.Values.{Cell, Uninit, nowhere, cells_from}
use Rattle.c_memory.specs.Layouts.{Layout}
use Rattle.c_memory.specs.Memories.{Memory}
use Rattle.c_memory.specs.Rows.{Numbers, HoldsNumber, Plain, RowCell, Entry, AreBits, IsFlagged, AllowsPart, AllowsSome, EachElement, AllowsStretch, DescribesEntry, entries_of, Describes}
use Rattle.c_memory.proofs.IntMemory.{int_cells, length-int_cells}
use Rattle.first_analysis.specs.Evaluation.{Env, IsVariable}
use Rattle.first_analysis.proofs.IntMachine.{HasVariables, Shows}
use Rattle.eva_report.specs.Meaning.{meaning_of}
use Rattle.eva_report.proofs.Numbers.{range_holds}
use Rattle.first_report.specs.Rows.{Shown, numbers_in, entry_for, row_from}

abbrev pub AllowsNumber : Option (ℤ × ℤ) → ℤ → Type 0
AllowsNumber None n = ⊥
AllowsNumber (Some b) n = (b.0 ≤ℤ n) × (n ≤ℤ b.1)

-- what a variable holds is among what is shown of it
abbrev pub Allows : Shown → Option ℤ → Type 0
Allows s None = IsTrue s.uninit
Allows s (Some n) = AllowsNumber s.bounds n

-- what is shown of a variable has a part, and bounds in order
abbrev pub AreBounds : Option (ℤ × ℤ) → Type 0
AreBounds None = Unit {0}
AreBounds (Some b) = b.0 ≤ℤ b.1

-- ---- cells

are_bits : (c : RowCell) (i : ℕ) (bits : List Bool) → AreBits c nowhere bits (cells_from nowhere i bits)
unfolding cells_from
are_bits c i [] = tt
are_bits c i (b ∷ bs) = ((refl, refl), are_bits c (suc i) bs)

unwritten_bits : (c : RowCell) (bits : List Bool) → IsTrue c.uninit → AreBits c nowhere bits (replicate (length bits) Uninit)
unwritten_bits c [] h = tt
unwritten_bits c (b ∷ bs) h = (h, unwritten_bits c bs h)

all_flagged : (c : RowCell) (n : ℕ) → IsTrue c.uninit → AllByRecursion (IsFlagged c) (replicate n Uninit)
all_flagged c zero h = tt
all_flagged c (suc n) h = (h, all_flagged c n h)

module _ (l : Layout) (lp64 : l.machine ≡ Lp64) where
  -- the cells of a number are allowed where the number is
  number_allowed : (c : RowCell) (ns : Numbers) (n : ℤ) → HoldsNumber ns n → AllowsPart l c (int_cells (Some n)) (Plain ns)
  number_allowed c ns n h =
      let bits = bits_from (residue (2 ^ 32) n) 32 in
      let long : length (int_cells (Some n)) ≡ 32 = length-int_cells (Some n) in
      let same : AreBits c nowhere bits (int_cells (Some n)) = are_bits c 0 bits in
      (n, h, rw (lp64, long) same)

  -- and so are cells that are not written, where the flag stands
  unwritten_allowed : (c : RowCell) (ns : Numbers) (n : ℤ) → HoldsNumber ns n → IsTrue c.uninit → AllowsPart l c (replicate 32 Uninit) (Plain ns)
  unwritten_allowed c ns n h flag =
      let bits = bits_from (residue (2 ^ 32) n) 32 in
      let long : length bits ≡ 32 = length-bits_from (residue (2 ^ 32) n) 32 in
      let same : AreBits c nowhere bits (replicate (length bits) Uninit) = unwritten_bits c bits flag in
      let cells : AreBits c nowhere bits (replicate 32 Uninit) = rw long at same in
      (n, h, rw lp64 cells)

  one_element : (c : RowCell) (cells : List Cell) → length cells ≡ 32 → AllowsSome l c cells c.parts → EachElement l c 32 (length cells / 32) cells
  one_element c cells long h =
      let all : take 32 cells ≡ cells = take_all 32 cells (omega arith) in
      let none : drop 32 cells ≡ [] = drop_of_length-le cells {i = 32} (omega arith) in
      rw (long, all) (h, none)

  abbrev entry_in : List ℕ → ℕ → Shown → Entry
  entry_in name base s = meaning_of (entry_for name base s)

  -- the entry of a variable allows its cells
  allowed_with : (name : List ℕ) (base : ℕ) (bounds : Option (ℤ × ℤ)) (uninit : Bool) (x : Option ℤ) → AreBounds bounds → Allows (record { bounds = bounds; uninit = uninit }) x →
      AllowsStretch l (entry_in name base (record { bounds = bounds; uninit = uninit })).cell (entry_in name base (record { bounds = bounds; uninit = uninit })).size (int_cells x)
  allowed_with name base None true None order h = all_flagged (entry_in name base (record { bounds = None; uninit = true })).cell 32 h
  allowed_with name base None false None order h = absurd (cc)
  allowed_with name base None uninit (Some n) order h = absurd h
  allowed_with name base (Some b) false None order h = absurd (cc)
  allowed_with name base (Some b) true None order h =
      let cell = (entry_in name base (record { bounds = Some b; uninit = true })).cell in
      one_element cell (replicate 32 Uninit) refl (inl (unwritten_allowed cell (numbers_in b) b.0 (range_holds b.0 b.1 b.0 (omega (arith, ints)) order) h))
  allowed_with name base (Some b) true (Some n) order h =
      let cell = (entry_in name base (record { bounds = Some b; uninit = true })).cell in
      one_element cell (int_cells (Some n)) (length-int_cells (Some n)) (inl (number_allowed cell (numbers_in b) n (range_holds b.0 b.1 n h.0 h.1)))
  allowed_with name base (Some b) false (Some n) order h =
      let cell = (entry_in name base (record { bounds = Some b; uninit = false })).cell in
      one_element cell (int_cells (Some n)) (length-int_cells (Some n)) (inl (number_allowed cell (numbers_in b) n (range_holds b.0 b.1 n h.0 h.1)))

  whole_stretch : (x : Option ℤ) → take 32 (drop 0 (int_cells x)) ≡ int_cells x
  whole_stretch x = let long = length-int_cells x in take_all 32 (int_cells x) (omega arith)

  entry_described : (m : Memory) (name : List ℕ) (base : ℕ) (s : Shown) (x : Option ℤ) → AreBounds s.bounds → Allows s x → m base ≡ Some (int_cells x) → DescribesEntry l m (entry_in name base s)
  entry_described m name base s x order h live =
      record { cells = int_cells x; live = live; allowed = rw (whole_stretch x) (allowed_with name base s.bounds s.uninit x order h) }

  -- ---- rows

  -- the entries of the variables from a base on
  rows_described : (m : Memory) (env : Env) (names : ℕ → List ℕ) (base : ℕ) (ss : List Shown) (d : Shown) →
      ((i : ℕ) → i < length ss → AreBounds (get_or ss i d).bounds × Allows (get_or ss i d) (env (base + i))) → ((i : ℕ) → i < length ss → m (base + i) ≡ Some (int_cells (env (base + i)))) →
      AllByRecursion (DescribesEntry l m) (map meaning_of (row_from names base ss))
  rows_described m env names base [] d holds live = tt
  rows_described m env names base (s ∷ ss) d holds live =
      let same : base + 0 ≡ base = omega arith in
      let here = holds 0 (omega arith) in (
        entry_described m (names base) base s (env base) here.0 (rw same at here.1) (rw same at (live 0 (omega arith))),
        rows_described m env names (suc base) ss d
            (λ i h. let next : base + suc i ≡ suc base + i = omega arith in rw next at (holds (suc i) (omega arith)))
            (λ i h. let next : base + suc i ≡ suc base + i = omega arith in rw next at (live (suc i) (omega arith))),
      )

abbrev entry : List ℕ → ℕ → Shown → Entry
entry name base s = meaning_of (entry_for name base s)

abbrev entries : (ℕ → List ℕ) → ℕ → List Shown → List Entry
entries names base ss = map meaning_of (row_from names base ss)

-- the row has no entry of a base before its first one
no_entry : (names : ℕ → List ℕ) (other base : ℕ) (ss : List Shown) → other < base → entries_of other (entries names base ss) ≡ []
no_entry names other base [] h = refl
no_entry names other base (s ∷ ss) h =
    let out : (base == other) ≡ false = other_test base other (λ e. absurd (omega arith)) in
    rw out (no_entry names other (suc base) ss (omega arith))

-- the row has one entry of each variable
one_entry : (names : ℕ → List ℕ) (other base : ℕ) (ss : List Shown) → base ≤ other → other < base + length ss → (s : Shown) × (entries_of other (entries names base ss) ≡ entry (names other) other s ∷ [])
one_entry names other base [] low high = absurd (omega arith)
one_entry names other base (s ∷ ss) low high = by_test (base == other) refl (λ more. one_entry names other (suc base) ss more (omega arith))
  where
    by_test : (t : Bool) → (base == other) ≡ t → (suc base ≤ other → (d : Shown) × (entries_of other (entries names (suc base) ss) ≡ entry (names other) other d ∷ [])) →
        (d : Shown) × (entries_of other (entries names base (s ∷ ss)) ≡ entry (names other) other d ∷ [])
    by_test true e later =
        let same : base ≡ other = grind (arith, nat_tests) in
        (s, rw (e, same) (ap (λ es. entry (names other) other s ∷ es) (no_entry names other (suc other) ss (omega arith))))
    by_test false e later =
        let more : suc base ≤ other = grind (arith, nat_tests) in
        let found = later more in (found.0, rw e found.1)

live_variable : (count base : ℕ) (env : Env) (m : Memory) → Shows count env m → IsSome (m base) → IsVariable count base
live_variable count zero env m s live = let dead = rw s.none at live in absurd (cc)
live_variable count (suc i) env m s live = by_test (nat_le (suc i) count) refl
  where
    by_test : (t : Bool) → nat_le (suc i) count ≡ t → IsVariable count (suc i)
    by_test true e = record { low = omega arith; high = grind (arith, nat_tests) }
    by_test false e = let out : count < suc i = grind (arith, nat_tests) in let dead = rw (s.beyond (suc i) out) at live in absurd (cc)

-- the row of what is shown describes each memory whose variables hold what it says
pub row_describes : (l : Layout) (shown : ℕ → Bool) (names : ℕ → List ℕ) (ss : List Shown) (d : Shown) (env : Env) (m : Memory) → HasVariables l (length ss) → Shows (length ss) env m →
    ((i : ℕ) → i < length ss → AreBounds (get_or ss i d).bounds × Allows (get_or ss i d) (env (suc i))) → Describes l shown (entries names 1 ss) m
row_describes l shown names ss d env m has s holds = record {
  covered = λ base is live.
      let v = live_variable (length ss) base env m s live in
      let low = v.low in let high = v.high in
      let one = one_entry names base 1 ss low (omega arith) in
      let size : 8 * l.size base ≡ 32 = rw (has.each base v).size refl in
      rw one.1 (refl, omega arith, sym size);
  entries = rows_described l has.machine m env names 1 ss d
      (λ i h. let same : 1 + i ≡ suc i = omega arith in rw same (holds i h))
      (λ i h. let same : 1 + i ≡ suc i = omega arith in rw same (s.live (suc i) (record { low = omega arith; high = omega arith })));
}
