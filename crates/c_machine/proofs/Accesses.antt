-- Loads and stores reach one base, give back what was stored, and change no other bit.
use Rattle.std.proofs.Common.{◌≡◌, ◌≢◌, ℕ, zero, suc, ◌+◌, ◌-◌, ◌*◌, ◌%◌, ◌^◌, ◌<◌, ◌≤◌, ◌==◌, ◌⊎◌, inl, inr, Bool, true, false, cond, ◌&&◌, ◌||◌, IsTrue, List, [], ◌∷◌, ◌++◌, length, take, drop, map, ℤ, pos, negsuc, Option, None, Some, Ok, Err, refl, sym, ◌∙◌, ap, subst, arith}
use Rattle.std.specs.Prelude.{is_some, find, slice_get, nat_lt, nat_le, ◌≤ℤ◌}
use Rattle.std.specs.List.{list_any}
use Rattle.std.specs.Cmp.{nat_cmp_total}
use Rattle.std.specs.FinSet.{union, contains, contains-union, contains-empty, same_set, nat_cmp-IsAntisymmetric}
use Rattle.std.specs.Ordering.{nat_cmp}
use Rattle.std.proofs.lemmas.Bool.Decides.{nat_tests}
use Rattle.std.proofs.lemmas.Int.{ints}
use Rattle.std.proofs.Math.Nat.{pow-suc}
use Rattle.c_base.specs.declared.integer.IntKind.{IntKind}
use Rattle.c_base.specs.declared.integer.IntKind.TheVariants.{Bool as bool_kind, Char, SChar, UChar, Short, UShort, Int, UInt, Long, ULong, LLong, ULLong}
use Rattle.c_base.specs.declared.integer.Machine.{Machine}
use Rattle.c_base.specs.declared.integer.Machine.TheVariants.{Lp64}
use Rattle.c_base.specs.declared.kind.Kind.TheVariants.{MemAccess}
use Rattle.c_base.specs.Integers.{bits_from, number_in, residue, bits_of_kind, FitsKind}
use Rattle.c_base.proofs.Bits.{length-bits_from, number_of_bits-bits_from}
use Rattle.c_base.proofs.Residues.{residue_below, residue_is}
use Rattle.c_base.proofs.Tests.{same_test, other_test, test_same}
use Rattle.c_memory.specs.declared.scalar.Scalar.{Scalar}
use Rattle.c_memory.specs.Scalars.{kind_in_memory, size_of_scalar, bits_of_scalar}
use Rattle.c_memory.specs.Values.{Provenance, nowhere, Cell, Value, cells_from, cells_of, is_uninit, is_dead, bit_of, united, value_in}
use Rattle.c_memory.specs.Layouts.{Layout}
use Rattle.c_memory.specs.Memories.{Memory, is_within, is_reached, reached, offset_in, loaded_from, stored, stored_to, with_base, overwritten}
use Rattle.c_memory.proofs.CellBits.{length-cells_from}
use Rattle.c_program.specs.Syntax.{Program, AreApart}
use Rattle.c_machine.specs.Accesses.{OneBaseFits, IsWhole, LoadsStored, IsChangedAt, StoresWithin}
use Rattle.c_machine.proofs.Living.{reached_lives, reached_within}

-- ---- one base fits

both_true : (a b : Bool) → IsTrue (a && b) → IsTrue a × IsTrue b
both_true true true h = (refl, refl)
both_true true false h = absurd (cc)
both_true false b h = absurd (cc)

-- the bytes of an access stand in the base
within_range : (l : Layout) (bytes base : ℕ) (n : ℤ) → IsTrue (is_within l bytes base n) → (k : ℕ) × (n ≡ pos k) × (l.address base ≤ k) × (k + bytes ≤ l.address base + l.size base)
within_range l bytes base (pos k) h =
    let parts = both_true (nat_le (l.address base) k) (nat_le (k - l.address base + bytes) (l.size base)) h in
    let low : l.address base ≤ k = grind (arith, nat_tests, parts.0) in
    let high : k - l.address base + bytes ≤ l.size base = grind (arith, nat_tests, parts.1) in
    (k, refl, low, omega arith)
within_range l bytes base (negsuc k) h = absurd (cc)

overlap : (l : Layout) (b c k bytes : ℕ) → 0 < bytes → l.address b ≤ k → k + bytes ≤ l.address b + l.size b → l.address c ≤ k → k + bytes ≤ l.address c + l.size c → AreApart l b c → ⊥
overlap l b c k bytes some low high low_too high_too (inl e) = absurd (omega arith)
overlap l b c k bytes some low high low_too high_too (inr e) = absurd (omega arith)

pub one_base_fits : (p : Program) → OneBaseFits p
one_base_fits p l is m bytes at b c some first second one two = by_test (b == c) refl
  where
    ranges : (n : ℤ) → IsTrue (is_within l bytes b n) → IsTrue (is_within l bytes c n) → b ≢ c → ⊥
    ranges n h k other =
        let x = within_range l bytes b n h in
        let y = within_range l bytes c n k in
        let same : pos x.0 ≡ pos y.0 = sym x.1 ∙ y.1 in
        let one_number : x.0 ≡ y.0 = cc in
        overlap l b c x.0 bytes some x.2 x.3 (omega (arith, y.2, one_number)) (omega (arith, y.3, one_number)) (is.apart b c first second other)

    fits : (base : ℕ) → IsTrue (is_reached l m bytes at base) → IsTrue (is_within l bytes base at.number)
    fits base h = (both_true (is_some (m base)) (is_within l bytes base at.number) ((both_true (contains at.provenance base) (is_some (m base) && is_within l bytes base at.number) h).1)).1

    by_test : (t : Bool) → (b == c) ≡ t → b ≡ c
    by_test true e = test_same b c e
    by_test false e =
        let other : b ≢ c = λ same. let yes : (b == c) ≡ true = rw same (same_test c) in cc in
        absurd (ranges at.number (fits b one) (fits c two) other)

-- ---- a value in its cells

none_uninit : (p : Provenance) (i : ℕ) (bits : List Bool) → list_any is_uninit (cells_from p i bits) ≡ false
unfolding cells_from
none_uninit p i [] = refl
none_uninit p i (b ∷ bs) = none_uninit p (suc i) bs

none_dead : (p : Provenance) (i : ℕ) (bits : List Bool) → list_any is_dead (cells_from p i bits) ≡ false
unfolding cells_from
none_dead p i [] = refl
none_dead p i (b ∷ bs) = none_dead p (suc i) bs

bits_back : (p : Provenance) (i : ℕ) (bits : List Bool) → map bit_of (cells_from p i bits) ≡ bits
unfolding cells_from
bits_back p i [] = refl
bits_back p i (b ∷ bs) = ap (λ more. b ∷ more) (bits_back p (suc i) bs)

union_nowhere : (p : Provenance) → union nowhere p ≡ p
union_nowhere p = same_set nat_cmp_total nat_cmp-IsAntisymmetric (union nowhere p) p (λ q. rw (contains-union nat_cmp_total nowhere p q, contains-empty nat_cmp q) refl)

union_same : (p : Provenance) → union p p ≡ p
union_same p = same_set nat_cmp_total nat_cmp-IsAntisymmetric (union p p) p (λ q. rw (contains-union nat_cmp_total p p q) (or_same (contains p q)))
  where
    or_same : (b : Bool) → (b || b) ≡ b
    or_same true = refl
    or_same false = refl

-- all bits of a value have its provenance
united_back : (p : Provenance) (i : ℕ) (b : Bool) (bits : List Bool) → united (cells_from p i (b ∷ bits)) ≡ p
unfolding cells_from united
united_back p i b [] = union_nowhere p
united_back p i b (c ∷ bits) = rw (united_back p (suc i) c bits) (union_same p)

some_united : (p : Provenance) (n width : ℕ) → 0 < width → united (cells_from p 0 (bits_from n width)) ≡ p
unfolding bits_from
some_united p n zero h = absurd (omega arith)
some_united p n (suc k) h = united_back p 0 (n % 2 == 1) (bits_from _ k)

-- ---- numbers in two's complement, and back

signed_back : (whole half : ℕ) (n : ℤ) → whole ≡ 2 * half → 1 ≤ half → negsuc (half - 1) ≤ℤ n → n ≤ℤ pos (half - 1) →
    cond (nat_lt (residue whole n) half) (pos (residue whole n)) (negsuc (whole - suc (residue whole n))) ≡ n
signed_back whole half (pos n) twice some low high =
    let small : n < half = omega (arith, ints, high) in
    let same : residue whole (pos n) ≡ n = residue_is whole (pos n) n (omega arith) (record { times = pos 0; is = omega (arith, ints) }) in
    let below : nat_lt n half ≡ true = grind (arith, nat_tests) in
    rw (same, below) refl
signed_back whole half (negsuc n) twice some low high =
    let small : n < half = omega (arith, ints, low) in
    let same : residue whole (negsuc n) ≡ whole - suc n = residue_is whole (negsuc n) (whole - suc n) (omega arith) (record { times = negsuc 0; is = omega (arith, ints) }) in
    let above : nat_lt (whole - suc n) half ≡ false = grind (arith, nat_tests) in
    let back : whole - suc (whole - suc n) ≡ n = omega arith in
    rw (same, above, back) refl

unsigned_back : (whole : ℕ) (n : ℤ) → 1 ≤ whole → pos 0 ≤ℤ n → n ≤ℤ pos (whole - 1) → pos (residue whole n) ≡ n
unsigned_back whole (pos n) some low high = let small : n < whole = omega (arith, ints, high) in
    ap pos (residue_is whole (pos n) n small (record { times = pos 0; is = omega (arith, ints) }))
unsigned_back whole (negsuc n) some low high = absurd (omega (arith, ints, low))

truth_back : (n : ℤ) → pos 0 ≤ℤ n → n ≤ℤ pos 1 → number_in bool_kind Lp64 (residue 256 n) ≡ n
truth_back (pos zero) low high = refl
truth_back (pos (suc zero)) low high = refl
truth_back (pos (suc (suc n))) low high = absurd (omega (arith, ints, high))
truth_back (negsuc n) low high = absurd (omega (arith, ints, low))

number_back : (kind : IntKind) (n : ℤ) → FitsKind kind Lp64 n → number_in kind Lp64 (residue (2 ^ bits_of_kind kind Lp64) n) ≡ n
number_back bool_kind n f = truth_back n f.least f.greatest
number_back Char n f = signed_back 256 128 n refl (omega arith) f.least f.greatest
number_back SChar n f = signed_back 256 128 n refl (omega arith) f.least f.greatest
number_back UChar n f = unsigned_back 256 n (omega arith) f.least f.greatest
number_back Short n f = signed_back 65536 32768 n refl (omega arith) f.least f.greatest
number_back UShort n f = unsigned_back 65536 n (omega arith) f.least f.greatest
number_back Int n f = signed_back 4294967296 2147483648 n refl (omega arith) f.least f.greatest
number_back UInt n f = unsigned_back 4294967296 n (omega arith) f.least f.greatest
number_back Long n f = signed_back 18446744073709551616 9223372036854775808 n refl (omega arith) f.least f.greatest
number_back ULong n f = unsigned_back 18446744073709551616 n (omega arith) f.least f.greatest
number_back LLong n f = signed_back 18446744073709551616 9223372036854775808 n refl (omega arith) f.least f.greatest
number_back ULLong n f = unsigned_back 18446744073709551616 n (omega arith) f.least f.greatest

some_bits : (kind : IntKind) → 0 < bits_of_kind kind Lp64
some_bits bool_kind = omega arith
some_bits Char = omega arith
some_bits SChar = omega arith
some_bits UChar = omega arith
some_bits Short = omega arith
some_bits UShort = omega arith
some_bits Int = omega arith
some_bits UInt = omega arith
some_bits Long = omega arith
some_bits ULong = omega arith
some_bits LLong = omega arith
some_bits ULLong = omega arith

some_power : (k : ℕ) → 0 < 2 ^ k
some_power zero = omega arith
some_power (suc k) = let h = some_power k in omega (arith, pow-suc 2 k)

value_back : (machine : Machine) (type : Scalar) (v : Value) → FitsKind (kind_in_memory type) machine v.number → value_in machine type (cells_of machine (bits_of_scalar type machine) v) ≡ Ok v
unfolding value_in
value_back Lp64 type v fits =
    let width = bits_of_scalar type Lp64 in
    let pattern = residue (2 ^ width) v.number in
    let bits = bits_from pattern width in
    let p = v.provenance in
    let below : pattern < 2 ^ width = residue_below (2 ^ width) v.number (some_power width) in
    rw (
      none_uninit p 0 bits,
      none_dead p 0 bits,
      bits_back p 0 bits,
      some_united p pattern width (some_bits (kind_in_memory type)),
      number_of_bits-bits_from pattern width below,
      number_back (kind_in_memory type) v.number fits,
    ) refl

-- ---- cells that are written over others

front : {A : Type 0} (new rest : List A) (count : ℕ) → count ≡ length new → take count (new ++ rest) ≡ new
front [] [] zero e = refl
front [] (r ∷ rest) zero e = refl
front [] rest (suc count) e = absurd (omega arith)
front (x ∷ new) rest zero e = absurd (omega arith)
front (x ∷ new) rest (suc count) e = ap (λ more. x ∷ more) (front new rest count (omega arith))

drop_none : {A : Type 0} (xs : List A) → drop 0 xs ≡ xs
drop_none [] = refl
drop_none (x ∷ xs) = refl

inside : {A : Type 0} (old new rest : List A) (first count : ℕ) → count ≡ length new → first ≤ length old → take count (drop first ((take first old ++ new) ++ rest)) ≡ new
inside [] new rest zero count e h = ap (take count) (drop_none (new ++ rest)) ∙ front new rest count e
inside (y ∷ old) new rest zero count e h = ap (take count) (drop_none (new ++ rest)) ∙ front new rest count e
inside [] new rest (suc first) count e h = absurd (omega arith)
inside (y ∷ old) new rest (suc first) count e h = inside old new rest first count e (omega arith)

behind : {A : Type 0} (old new : List A) (count i : ℕ) → count ≡ length new → count ≤ length old → count ≤ i → slice_get (new ++ drop count old) i ≡ slice_get old i
behind old [] zero i e h k = ap (λ xs. slice_get xs i) (drop_none old)
behind old [] (suc count) i e h k = absurd (omega arith)
behind old (x ∷ new) zero i e h k = absurd (omega arith)
behind [] (x ∷ new) (suc count) i e h k = absurd (omega arith)
behind (y ∷ old) (x ∷ new) (suc count) zero e h k = absurd (omega arith)
behind (y ∷ old) (x ∷ new) (suc count) (suc i) e h k = behind old new count i (omega arith) (omega arith) (omega arith)

outside : {A : Type 0} (old new : List A) (first end i : ℕ) → end ≡ first + length new → end ≤ length old → (i < first) ⊎ (end ≤ i) →
    slice_get ((take first old ++ new) ++ drop end old) i ≡ slice_get old i
outside old new zero end i e h (inl k) = absurd (omega arith)
outside [] new zero end i e h (inr k) = behind [] new end i (omega arith) h k
outside (y ∷ old) new zero end i e h (inr k) = behind (y ∷ old) new end i (omega arith) h k
outside [] new (suc first) end i e h k = absurd (omega arith)
outside (y ∷ old) new (suc first) zero i e h k = absurd (omega arith)
outside (y ∷ old) new (suc first) (suc end) zero e h k = refl
outside (y ∷ old) new (suc first) (suc end) (suc i) e h (inl k) = outside old new first end i (omega arith) (omega arith) (inl (omega arith))
outside (y ∷ old) new (suc first) (suc end) (suc i) e h (inr k) = outside old new first end i (omega arith) (omega arith) (inr (omega arith))

-- ---- stores

length-cells_of : (machine : Machine) (bits : ℕ) (v : Value) → length (cells_of machine bits v) ≡ bits
length-cells_of Lp64 bits v = length-cells_from v.provenance 0 (bits_from (residue (2 ^ bits) v.number) bits) ∙ length-bits_from (residue (2 ^ bits) v.number) bits

-- what a store that reaches a base has made of the memory
record IsStored (l : Layout) (m after : Memory) (type : Scalar) (at v : Value) (base : ℕ) : Type 0 where
  cells : List Cell
  live : m base ≡ Some cells
  room : 8 * offset_in l base at + bits_of_scalar type l.machine ≤ length cells
  made : after ≡ with_base m base (Some (overwritten cells (8 * offset_in l base at) (cells_of l.machine (bits_of_scalar type l.machine) v)))

module _ (l : Layout) (m after : Memory) (type : Scalar) (at v : Value) (whole : IsWhole l m) (is : stored l m type at v ≡ Ok after) where
  -- the access lies in the base
  offset_within : (base : ℕ) → IsTrue (is_within l (size_of_scalar type l.machine) base at.number) → offset_in l base at + size_of_scalar type l.machine ≤ l.size base
  offset_within base h = by_number at.number h
    where
      by_number : (n : ℤ) → IsTrue (is_within l (size_of_scalar type l.machine) base n) →
          offset_in l base (record { number = n; provenance = at.provenance }) + size_of_scalar type l.machine ≤ l.size base
      by_number (pos k) h = grind (arith, nat_tests, (both_true (nat_le (l.address base) k) (nat_le (k - l.address base + size_of_scalar type l.machine) (l.size base)) h).1)
      by_number (negsuc k) h = absurd (cc)

  store_made : (base : ℕ) → reached l m (size_of_scalar type l.machine) at ≡ Some base → IsStored l m after type at v base
  store_made base found = by_cells (m base) refl
    where
      within : offset_in l base at + size_of_scalar type l.machine ≤ l.size base
      within = offset_within base (reached_within l m (size_of_scalar type l.machine) at base found)

      by_readonly : (t : Bool) (new : Memory) → cond t (Err MemAccess) (Ok new) ≡ Ok after → after ≡ new
      by_readonly true new e = absurd (cc)
      by_readonly false new e = cc

      by_cells : (cells : Option (List Cell)) → m base ≡ cells → IsStored l m after type at v base
      by_cells None e = let live = reached_lives l m (size_of_scalar type l.machine) at base found in let dead = rw e at live in absurd (cc)
      by_cells (Some cells) e = record {
        cells = cells;
        live = e;
        room = (let long = whole base cells e in let w = within in omega arith);
        made = (let h = rw found at is in let made = by_readonly (l.readonly base) _ h in rw e at made);
      }

  -- a store goes through only where it reaches a base
  store_reaches : (base : ℕ) × (reached l m (size_of_scalar type l.machine) at ≡ Some base)
  store_reaches = by_base (reached l m (size_of_scalar type l.machine) at) refl is
    where
      by_base : (found : Option ℕ) → reached l m (size_of_scalar type l.machine) at ≡ found → stored_to l m type at v found ≡ Ok after →
          (base : ℕ) × (reached l m (size_of_scalar type l.machine) at ≡ Some base)
      by_base None e h = absurd (cc)
      by_base (Some base) e h = (base, e)

  find_same : (f g : ℕ → Bool) → ((x : ℕ) → f x ≡ g x) → (xs : List ℕ) → find f xs ≡ find g xs
  find_same f g same [] = refl
  find_same f g same (x ∷ xs) = rw (same x, find_same f g same xs) refl

  lives_same : (base : ℕ) → IsStored l m after type at v base → (other : ℕ) → is_some (after other) ≡ is_some (m other)
  lives_same base s other = rw s.made (by_test (other == base) refl)
    where
      by_test : (t : Bool) → (other == base) ≡ t → is_some (with_base m base (Some (overwritten s.cells (8 * offset_in l base at) (cells_of l.machine (bits_of_scalar type l.machine) v))) other) ≡ is_some (m other)
      by_test true e = let same : other ≡ base = test_same other base e in rw (e, same, s.live) refl
      by_test false e = rw e refl

  reached_same : (base : ℕ) → IsStored l m after type at v base → reached l after (size_of_scalar type l.machine) at ≡ reached l m (size_of_scalar type l.machine) at
  reached_same base s =
      find_same (is_reached l after (size_of_scalar type l.machine) at) (is_reached l m (size_of_scalar type l.machine) at)
      (λ other. ap (λ t. contains at.provenance other && (t && is_within l (size_of_scalar type l.machine) other at.number)) (lives_same base s other)) l.bases

  loaded_back : (base : ℕ) → IsStored l m after type at v base → FitsKind (kind_in_memory type) l.machine v.number → loaded_from l after type at (Some base) ≡ Ok v
  loaded_back base s fits =
      let first = 8 * offset_in l base at in
      let width = bits_of_scalar type l.machine in
      let new = cells_of l.machine width v in
      let here : after base ≡ Some (overwritten s.cells first new) = rw (s.made, same_test base) refl in
      let room = s.room in
      let read : take width (drop first (overwritten s.cells first new)) ≡ new =
      inside s.cells new (drop (first + length new) s.cells) first width (sym (length-cells_of l.machine width v)) (omega arith) in
      rw (here, read) (value_back l.machine type v fits)

  changed_at : (base : ℕ) → IsStored l m after type at v base → IsChangedAt m after base (8 * offset_in l base at) (bits_of_scalar type l.machine)
  changed_at base s =
      let first = 8 * offset_in l base at in
      let width = bits_of_scalar type l.machine in
      let new = cells_of l.machine width v in
      let long : length new ≡ width = length-cells_of l.machine width v in
      let here : after base ≡ Some (overwritten s.cells first new) = rw (s.made, same_test base) refl in
      record {
        others = λ other apart. let e : (other == base) ≡ false = other_test other base apart in rw (s.made, e) refl;
        outside = λ i h.
            let room = s.room in
            let end : first + length new ≡ first + width = ap (λ n. first + n) long in
            rw (here, s.live) (outside s.cells new first (first + length new) i refl (omega arith) (subst (λ e. (i < first) ⊎ (e ≤ i)) (sym end) h));
      }

pub loads_stored : (l : Layout) → LoadsStored l
loads_stored l m after type at v whole fits is =
    let found = store_reaches l m after type at v whole is in
    let s = store_made l m after type at v whole is found.0 found.1 in
    ap (loaded_from l after type at) (reached_same l m after type at v whole is found.0 s ∙ found.1) ∙ loaded_back l m after type at v whole is found.0 s fits

pub stores_within : (l : Layout) → StoresWithin l
stores_within l m after type at v base whole is found = changed_at l m after type at v whole is base (store_made l m after type at v whole is base found)
