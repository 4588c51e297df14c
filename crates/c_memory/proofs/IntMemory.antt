-- Loads and stores of whole variables of type int, through their addresses.
use Rattle.std.proofs.Common.{◌≡◌, ℕ, ◌+◌, ◌-◌, ◌*◌, ◌^◌, ◌≤◌, ◌==◌, Bool, true, false, cond, ◌||◌, ◌&&◌, List, [], ◌∷◌, length, take, replicate, Option, None, Some, Result, Ok, Err, refl, ◌∙◌, ap, arith, append-nil, take_all, drop_of_length-le}
use Rattle.std.specs.Prelude.{ℤ, pos, is_some, find}
use Rattle.std.specs.Ordering.{nat_cmp}
use Rattle.std.specs.FinSet.{empty, contains, contains-empty, contains-insert}
use Rattle.std.specs.Cmp.{nat_cmp_total, unsigned_tied}
use Rattle.std.specs.List.{list_any}
use Rattle.std.proofs.lemmas.Bool.Decides.{nat_tests}
use Rattle.c_base.specs.declared.integer.IntKind.TheVariants.{Int}
use Rattle.c_base.specs.declared.integer.Machine.TheVariants.{Lp64}
use Rattle.c_memory.specs.declared.scalar.Scalar.TheVariants.{Integer}
use Rattle.c_base.specs.declared.kind.Kind.{Kind}
use Rattle.c_base.specs.declared.kind.Kind.TheVariants.{Initialization}
use Rattle.c_base.specs.Integers.{bits_from, residue, fits_kind}
use Rattle.c_memory.specs.Values.{Cell, Uninit, Value, plain, only, cells_of, nowhere, value_in}
use Rattle.c_memory.specs.Layouts.{Layout}
use Rattle.c_memory.specs.Memories.{Memory, address_of, is_within, is_reached, reached, loaded, stored, with_base, overwritten}
use Rattle.c_base.proofs.Tests.{test_same}
use Rattle.c_base.proofs.Bits.{length-bits_from}
use Rattle.c_memory.proofs.CellBits.{length-cells_from, int_stored_loaded, uninit_loaded}

-- the cells of a variable of type int: those of a number, or 32 bits that are not written
abbrev pub int_cells : Option ℤ → List Cell
int_cells None = replicate 32 Uninit
int_cells (Some n) = cells_of Lp64 32 (plain n)

pub length-int_cells : (content : Option ℤ) → length (int_cells content) ≡ 32
length-int_cells None = refl
length-int_cells (Some n) = length-cells_from nowhere 0 (bits_from (residue (2 ^ 32) n) 32) ∙ length-bits_from (residue (2 ^ 32) n) 32

only_has : (base other : ℕ) → contains (only base) other ≡ (other == base)
only_has base other = rw (contains-insert nat_cmp_total empty base other, contains-empty nat_cmp other, unsigned_tied other base) (or-false (other == base))
  where
    or-false : (b : Bool) → (b || false) ≡ b
    or-false true = refl
    or-false false = refl

-- a base of a layout of Lp64 that is known to be a variable of type int
pub record IsInt (l : Layout) (base : ℕ) : Type 0 where
  pub machine : l.machine ≡ Lp64
  pub size : l.size base ≡ 4
  pub writable : l.readonly base ≡ false
  pub among : list_any (λ b. b == base) l.bases ≡ true

within_self : (l : Layout) (base : ℕ) → l.size base ≡ 4 → is_within l 4 base (pos (l.address base)) ≡ true
within_self l base size = rw size (grind (arith, nat_tests))

abbrev pub loaded_content : Option ℤ → Result Value Kind
loaded_content None = Err Initialization
loaded_content (Some n) = Ok (plain n)

find_self : (l : Layout) (m : Memory) (base : ℕ) → l.size base ≡ 4 → is_some (m base) ≡ true → (bases : List ℕ) → list_any (λ b. b == base) bases ≡ true →
    find (is_reached l m 4 (address_of l base)) bases ≡ Some base
find_self l m base size live [] among = absurd (cc)
find_self l m base size live (b ∷ bases) among = by_test (find_self l m base size live bases) (b == base) refl among
  where
    by_test : (list_any (λ c. c == base) bases ≡ true → find (is_reached l m 4 (address_of l base)) bases ≡ Some base) → (t : Bool) → (b == base) ≡ t → (t || list_any (λ c. c == base) bases) ≡ true →
        cond (contains (only base) b && (is_some (m b) && is_within l 4 b (pos (l.address base)))) (Some b) (find (is_reached l m 4 (address_of l base)) bases) ≡ Some base
    by_test later true e h =
        let same : b ≡ base = test_same b base e in
        let within = within_self l base size in
        let here : contains (only base) base ≡ true = only_has base base ∙ (rw same at e) in
        rw (same, here, live, within) refl
    by_test later false e h = rw (only_has base b, e) (later h)

reached_self : (l : Layout) (m : Memory) (base : ℕ) (cells : List Cell) → IsInt l base → m base ≡ Some cells → reached l m 4 (address_of l base) ≡ Some base
reached_self l m base cells i live = find_self l m base i.size (ap is_some live) l.bases i.among

no_offset : (n : ℕ) → 8 * (n - n) ≡ 0
no_offset n = omega arith

abbrev pub FitsContent : Option ℤ → Type 0
FitsContent None = Unit {0}
FitsContent (Some n) = fits_kind Int Lp64 n ≡ true

all_cells : (content : Option ℤ) → take 32 (int_cells content) ≡ int_cells content
all_cells content = take_all 32 (int_cells content) (let e = length-int_cells content in omega arith)

content_in : (content : Option ℤ) → FitsContent content → value_in Lp64 (Integer Int) (int_cells content) ≡ loaded_content content
content_in None fits = uninit_loaded
content_in (Some n) fits = int_stored_loaded n fits

-- a load of a whole variable
pub loaded_int : (l : Layout) (m : Memory) (base : ℕ) (content : Option ℤ) → IsInt l base → FitsContent content → m base ≡ Some (int_cells content) →
    loaded l m (Integer Int) (address_of l base) ≡ loaded_content content
loaded_int l m base content i fits live =
    rw (i.machine, reached_self l m base (int_cells content) i live, live, no_offset (l.address base), all_cells content) (content_in content fits)

no_rest : (old new : List Cell) → length old ≡ 32 → length new ≡ 32 → overwritten old 0 new ≡ new
no_rest old new h k = let beyond : length old ≤ 0 + length new = omega arith in rw (drop_of_length-le old {i = 0 + length new} beyond) (append-nil new)

-- a store to a whole variable
pub stored_int : (l : Layout) (m : Memory) (base : ℕ) (content : Option ℤ) (n : ℤ) → IsInt l base → m base ≡ Some (int_cells content) →
    stored l m (Integer Int) (address_of l base) (plain n) ≡ Ok (with_base m base (Some (int_cells (Some n))))
stored_int l m base content n i live =
    let cells = no_rest (int_cells content) (int_cells (Some n)) (length-int_cells content) (length-int_cells (Some n)) in
    rw (i.machine, reached_self l m base (int_cells content) i live, i.writable, live, no_offset (l.address base), cells) refl
