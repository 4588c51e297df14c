-- What is seen of bits after deaths.
use Rattle.std.proofs.Common.{◌≡◌, ◌≢◌, ⊎_elim, ℕ, zero, suc, ◌+◌, ◌-◌, ◌<◌, ◌≤◌, ◌==◌, Bool, true, false, cond, ◌||◌, List, [], ◌∷◌, ◌++◌, length, map, drop, get_or, Option, None, Some, refl, sym, ◌∙◌, ap, subst, arith}
use Rattle.std.proofs.Math.Path.{fun_ext}
use Rattle.std.specs.Prelude.{nat_lt, slice_get, slice_set}
use Rattle.std.specs.List.{list_any, AllByRecursion}
use Rattle.std.specs.FinSet.{contains, contains-from_list_nat}
use Rattle.std.proofs.lemmas.Bool.Decides.{nat_tests, eqb_tells}
use Rattle.c_memory.specs.Memories.{Memory, died, withered}
use Rattle.c_memory.specs.Values.{Cell, Uninit, Dead, Bit, wither}
use Rattle.stepper_values.specs.declared.value.Cell.{Cell as CodeCell}
use Rattle.stepper_values.specs.declared.value.Cell.TheVariants.{Uninit as CodeUninit, Dead as CodeDead, Bit as CodeBit}
use Rattle.stepper_values.specs.Views.{bases_of}
use Rattle.stepper_memory.specs.declared.stored.Stored.{Stored}
use Rattle.stepper_memory.specs.Putting.{cleared}
use Rattle.stepper_memory.specs.Views.{death_of, is_stale, aged, seen, seen_base, memory_of, IsBefore, AreBefore, AllBefore}
use Rattle.stepper_memory.proofs.Tables.{Bits, same_base, other_base}
use Rattle.std.proofs.lemmas.List.{drop_all, get_or_default}
use Rattle.stepper_memory.proofs.Written.{drop_next}

-- ---- the same deaths

stale_same : (d e : List ℕ) → ((b : ℕ) → death_of d b ≡ death_of e b) → (since : ℕ) (bases : List ℕ) → is_stale d since bases ≡ is_stale e since bases
stale_same d e same since [] = refl
stale_same d e same since (b ∷ bases) = rw (same b, stale_same d e same since bases) refl

aged_same : (d e : List ℕ) → ((b : ℕ) → death_of d b ≡ death_of e b) → (since : ℕ) (c : CodeCell) → aged d since c ≡ aged e since c
aged_same d e same since CodeUninit = refl
aged_same d e same since CodeDead = refl
aged_same d e same since (CodeBit bit bases piece) = ap (λ t. cond t Dead (Bit bit (bases_of bases) piece)) (stale_same d e same since bases)

seen_same : (d e : List ℕ) → ((b : ℕ) → death_of d b ≡ death_of e b) → (cells : List Stored) → map (seen d) cells ≡ map (seen e) cells
seen_same d e same [] = refl
seen_same d e same (c ∷ cells) = rw (aged_same d e same c.since c.cell, seen_same d e same cells) refl

base_same : (d e : List ℕ) → ((b : ℕ) → death_of d b ≡ death_of e b) → (bits : Option Bits) → seen_base d bits ≡ seen_base e bits
base_same d e same None = refl
base_same d e same (Some None) = refl
base_same d e same (Some (Some cells)) = ap Some (seen_same d e same cells)

never_more : (deaths : List ℕ) (b : ℕ) → death_of (deaths ++ 0 ∷ []) b ≡ death_of deaths b
never_more [] zero = refl
never_more [] (suc b) = refl
never_more (d ∷ deaths) zero = refl
never_more (d ∷ deaths) (suc b) = never_more deaths b

pub deaths_grown : (deaths new : List ℕ) → new ≡ deaths ++ 0 ∷ [] → (table : List Bits) → memory_of new table ≡ memory_of deaths table
deaths_grown deaths new e table = fun_ext (λ base. base_same new deaths (λ b. ap (λ d. death_of d b) e ∙ never_more deaths b) (slice_get table base))

pub times_grown : (now : ℕ) (deaths new : List ℕ) → new ≡ deaths ++ 0 ∷ [] → AllByRecursion (λ d. d ≤ now) deaths → AllByRecursion (λ d. d ≤ now) new
times_grown now deaths new e all = subst (AllByRecursion (λ d. d ≤ now)) (sym e) (at deaths all)
  where
    at : (ds : List ℕ) → AllByRecursion (λ d. d ≤ now) ds → AllByRecursion (λ d. d ≤ now) (ds ++ 0 ∷ [])
    at [] all = (omega arith, tt)
    at (d ∷ ds) all = (all.0, at ds all.1)

-- ---- one more death

pub times_set : (now : ℕ) (deaths : List ℕ) (base time : ℕ) → time ≤ now → AllByRecursion (λ d. d ≤ now) deaths → AllByRecursion (λ d. d ≤ now) (slice_set deaths base time)
times_set now [] base time h all = tt
times_set now (d ∷ deaths) zero time h all = (h, all.1)
times_set now (d ∷ deaths) (suc base) time h all = (all.0, times_set now deaths base time h all.1)

death_here : (deaths : List ℕ) (base time : ℕ) → base < length deaths → death_of (slice_set deaths base time) base ≡ time
death_here [] base time h = absurd (omega arith)
death_here (d ∷ deaths) zero time h = refl
death_here (d ∷ deaths) (suc base) time h = death_here deaths base time (omega arith)

death_there : (deaths : List ℕ) (base other time : ℕ) → other ≢ base → death_of (slice_set deaths base time) other ≡ death_of deaths other
death_there [] base other time h = refl
death_there (d ∷ deaths) zero zero time h = absurd (h refl)
death_there (d ∷ deaths) zero (suc other) time h = refl
death_there (d ∷ deaths) (suc base) zero time h = refl
death_there (d ∷ deaths) (suc base) (suc other) time h = death_there deaths base other time (λ e. h (ap suc e))

or_assoc : (a b c d : Bool) → ((a || b) || (c || d)) ≡ ((a || c) || (b || d))
or_assoc true b true d = refl
or_assoc true b false d = refl
or_assoc false true true d = refl
or_assoc false true false d = refl
or_assoc false false true d = refl
or_assoc false false false d = refl

abbrev OptionBefore : ℕ → Option Bits → Type 0
OptionBefore before None = Unit {0}
OptionBefore before (Some b) = AreBefore before b

before_get : (before : ℕ) (table : List Bits) (base : ℕ) → AllBefore before table → OptionBefore before (slice_get table base)
before_get before [] base all = tt
before_get before (b ∷ table) zero all = all.0
before_get before (b ∷ table) (suc base) all = before_get before table base all.1

-- bits that were written before
module _ (deaths : List ℕ) (base before : ℕ) (room : base < length deaths) where
  stale_one : (since b : ℕ) → since ≤ before → nat_lt since (death_of (slice_set deaths base (before + 1)) b) ≡ (nat_lt since (death_of deaths b) || (b == base))
  stale_one since b old = ⊎_elim here there (eqb_tells b base)
    where
      here : ((b == base) ≡ true) × (b ≡ base) → nat_lt since (death_of (slice_set deaths base (before + 1)) b) ≡ (nat_lt since (death_of deaths b) || (b == base))
      here h =
          let time : death_of (slice_set deaths base (before + 1)) b ≡ before + 1 = ap (death_of (slice_set deaths base (before + 1))) h.1 ∙ death_here deaths base (before + 1) room in
          let late : nat_lt since (before + 1) ≡ true = grind (arith, nat_tests) in
          ap (nat_lt since) time ∙ late ∙ sym (ap (λ t. nat_lt since (death_of deaths b) || t) h.0 ∙ or_true (nat_lt since (death_of deaths b)))
        where
          or_true : (t : Bool) → (t || true) ≡ true
          or_true true = refl
          or_true false = refl

      there : ((b == base) ≡ false) × (b ≢ base) → nat_lt since (death_of (slice_set deaths base (before + 1)) b) ≡ (nat_lt since (death_of deaths b) || (b == base))
      there h =
          ap (nat_lt since) (death_there deaths base b (before + 1) h.1)
          ∙ sym (ap (λ t. nat_lt since (death_of deaths b) || t) h.0 ∙ or_false (nat_lt since (death_of deaths b)))
        where
          or_false : (t : Bool) → (t || false) ≡ t
          or_false true = refl
          or_false false = refl

  stale_more : (since : ℕ) (bases : List ℕ) → since ≤ before →
      is_stale (slice_set deaths base (before + 1)) since bases ≡ (is_stale deaths since bases || list_any (λ b. b == base) bases)
  stale_more since [] old = refl
  stale_more since (b ∷ bases) old =
      ap (λ t. t || is_stale (slice_set deaths base (before + 1)) since bases) (stale_one since b old)
      ∙ ap (λ t. (nat_lt since (death_of deaths b) || (b == base)) || t) (stale_more since bases old)
      ∙ or_assoc (nat_lt since (death_of deaths b)) (b == base) (is_stale deaths since bases) (list_any (λ x. x == base) bases)

  bit_dies : (bit : Bool) (bases : List ℕ) (piece : ℕ) (stale : Bool) (named : Bool) → contains (bases_of bases) base ≡ named →
      cond (stale || named) Dead (Bit bit (bases_of bases) piece) ≡ wither (base ∷ []) (cond stale Dead (Bit bit (bases_of bases) piece))
  bit_dies bit bases piece true named e = refl
  bit_dies bit bases piece false true e = sym (ap (λ t. cond (t || false) Dead (Bit bit (bases_of bases) piece)) e)
  bit_dies bit bases piece false false e = sym (ap (λ t. cond (t || false) Dead (Bit bit (bases_of bases) piece)) e)

  cell_dies : (since : ℕ) (c : CodeCell) → since ≤ before → aged (slice_set deaths base (before + 1)) since c ≡ wither (base ∷ []) (aged deaths since c)
  cell_dies since CodeUninit old = refl
  cell_dies since CodeDead old = refl
  cell_dies since (CodeBit bit bases piece) old =
      ap (λ t. cond t Dead (Bit bit (bases_of bases) piece)) (stale_more since bases old)
      ∙ bit_dies bit bases piece (is_stale deaths since bases) (list_any (λ b. b == base) bases) (contains-from_list_nat bases base)

  cells_die : (cells : List Stored) → AllByRecursion (IsBefore before) cells →
      map (seen (slice_set deaths base (before + 1))) cells ≡ map (wither (base ∷ [])) (map (seen deaths) cells)
  cells_die [] all = refl
  cells_die (c ∷ cells) all = rw (cell_dies c.since c.cell all.0.time, cells_die cells all.1) refl

  bits_die : (bits : Option Bits) → OptionBefore before bits → seen_base (slice_set deaths base (before + 1)) bits ≡ withered (base ∷ []) (seen_base deaths bits)
  bits_die None old = refl
  bits_die (Some None) old = refl
  bits_die (Some (Some cells)) old = ap Some (cells_die cells old)

-- ---- the base that dies

cleared_here : (deaths : List ℕ) (table : List Bits) (base : ℕ) → seen_base deaths (slice_get (cleared table base) base) ≡ None
cleared_here deaths [] base = refl
cleared_here deaths (b ∷ table) zero = refl
cleared_here deaths (b ∷ table) (suc base) = cleared_here deaths table base

cleared_there : (table : List Bits) (base other : ℕ) → other ≢ base → slice_get (cleared table base) other ≡ slice_get table other
cleared_there [] base other h = refl
cleared_there (b ∷ table) zero zero h = absurd (h refl)
cleared_there (b ∷ table) zero (suc other) h = refl
cleared_there (b ∷ table) (suc base) zero h = refl
cleared_there (b ∷ table) (suc base) (suc other) h = cleared_there table base other (λ e. h (ap suc e))

pub before_cleared : (before : ℕ) (table : List Bits) (base : ℕ) → AllBefore before table → AllBefore before (cleared table base)
before_cleared before [] base all = tt
before_cleared before (b ∷ table) zero all = (tt, all.1)
before_cleared before (b ∷ table) (suc base) all = (all.0, before_cleared before table base all.1)

pub set_is_cleared : (table : List Bits) (base : ℕ) → base < length table → slice_set table base None ≡ cleared table base
set_is_cleared [] base h = absurd (omega arith)
set_is_cleared (b ∷ table) zero h = refl
set_is_cleared (b ∷ table) (suc base) h = ap (λ t. b ∷ t) (set_is_cleared table base (omega arith))

pub far_is_cleared : (table : List Bits) (base : ℕ) → length table ≤ base → table ≡ cleared table base
far_is_cleared [] base h = refl
far_is_cleared (b ∷ table) zero h = absurd (omega arith)
far_is_cleared (b ∷ table) (suc base) h = ap (λ t. b ∷ t) (far_is_cleared table base (omega arith))

pub one_dies : (deaths : List ℕ) (table : List Bits) (base before : ℕ) → base < length deaths → AllBefore before table →
    memory_of (slice_set deaths base (before + 1)) (cleared table base) ≡ died (base ∷ []) (memory_of deaths table)
one_dies deaths table base before room all = fun_ext (λ other. at other (other == base) refl)
  where
    at : (other : ℕ) (t : Bool) → (other == base) ≡ t →
        seen_base (slice_set deaths base (before + 1)) (slice_get (cleared table base) other)
        ≡ cond ((other == base) || false) None (withered (base ∷ []) (seen_base deaths (slice_get table other)))
    at other true e =
        ap (λ b. seen_base (slice_set deaths base (before + 1)) (slice_get (cleared table base) b)) (same_base other base e)
        ∙ cleared_here (slice_set deaths base (before + 1)) table base
        ∙ sym (ap (λ t. cond (t || false) None (withered (base ∷ []) (seen_base deaths (slice_get table other)))) e)
    at other false e =
        ap (seen_base (slice_set deaths base (before + 1))) (cleared_there table base other (other_base other base e))
        ∙ bits_die deaths base before room (slice_get table other) (before_get before table other all)
        ∙ sym (ap (λ t. cond (t || false) None (withered (base ∷ []) (seen_base deaths (slice_get table other)))) e)

-- ---- several

wither_two : (b : ℕ) (rest : List ℕ) (c : Cell) → wither rest (wither (b ∷ []) c) ≡ wither (b ∷ rest) c
wither_two b rest Uninit = refl
wither_two b rest Dead = refl
wither_two b rest (Bit bit p i) = by (contains p b) refl
  where
    by : (t : Bool) → contains p b ≡ t → wither rest (cond (contains p b || false) Dead (Bit bit p i)) ≡ cond (contains p b || list_any (contains p) rest) Dead (Bit bit p i)
    by true e = ap (λ u. wither rest (cond (u || false) Dead (Bit bit p i))) e ∙ sym (ap (λ u. cond (u || list_any (contains p) rest) Dead (Bit bit p i)) e)
    by false e = ap (λ u. wither rest (cond (u || false) Dead (Bit bit p i))) e ∙ sym (ap (λ u. cond (u || list_any (contains p) rest) Dead (Bit bit p i)) e)

withers_two : (b : ℕ) (rest : List ℕ) (cells : List Cell) → map (wither rest) (map (wither (b ∷ [])) cells) ≡ map (wither (b ∷ rest)) cells
withers_two b rest [] = refl
withers_two b rest (c ∷ cells) = rw (wither_two b rest c, withers_two b rest cells) refl

withered_two : (b : ℕ) (rest : List ℕ) (bits : Option (List Cell)) → withered rest (withered (b ∷ []) bits) ≡ withered (b ∷ rest) bits
withered_two b rest None = refl
withered_two b rest (Some cells) = ap Some (withers_two b rest cells)

none_anyway : (t : Bool) (rest : List ℕ) → cond t None (withered rest None) ≡ None
none_anyway true rest = refl
none_anyway false rest = refl

pub dies_first : (b : ℕ) (rest : List ℕ) (m : Memory) → died rest (died (b ∷ []) m) ≡ died (b ∷ rest) m
dies_first b rest m = fun_ext (λ other. at other (other == b) refl)
  where
    at : (other : ℕ) (t : Bool) → (other == b) ≡ t →
        cond (list_any (λ x. other == x) rest) None (withered rest (cond ((other == b) || false) None (withered (b ∷ []) (m other))))
        ≡ cond ((other == b) || list_any (λ x. other == x) rest) None (withered (b ∷ rest) (m other))
    at other true e =
        ap (λ u. cond (list_any (λ x. other == x) rest) None (withered rest (cond (u || false) None (withered (b ∷ []) (m other))))) e
        ∙ none_anyway (list_any (λ x. other == x) rest) rest
        ∙ sym (ap (λ u. cond (u || list_any (λ x. other == x) rest) None (withered (b ∷ rest) (m other))) e)
    at other false e =
        ap (λ u. cond (list_any (λ x. other == x) rest) None (withered rest (cond (u || false) None (withered (b ∷ []) (m other))))) e
        ∙ ap (λ bits. cond (list_any (λ x. other == x) rest) None bits) (withered_two b rest (m other))
        ∙ sym (ap (λ u. cond (u || list_any (λ x. other == x) rest) None (withered (b ∷ rest) (m other))) e)

-- nobody dies
wither_none : (c : Cell) → wither [] c ≡ c
wither_none Uninit = refl
wither_none Dead = refl
wither_none (Bit bit p i) = refl

withers_none : (cells : List Cell) → map (wither []) cells ≡ cells
withers_none [] = refl
withers_none (c ∷ cells) = rw (wither_none c, withers_none cells) refl

withered_none : (bits : Option (List Cell)) → withered [] bits ≡ bits
withered_none None = refl
withered_none (Some cells) = ap Some (withers_none cells)

pub no_deaths : (m : Memory) → died [] m ≡ m
no_deaths m = fun_ext (λ other. withered_none (m other))

-- ---- one after the other

pub deaths_next : (bases : List ℕ) (i base : ℕ) (goal m after : Memory) → i < length bases → base ≡ get_or bases i 0 → died (drop i bases) m ≡ goal →
    after ≡ died (base ∷ []) m → died (drop (i + 1) bases) after ≡ goal
deaths_next bases i base goal m after h is inv e =
    ap (died (drop (i + 1) bases)) e ∙ dies_first base (drop (i + 1) bases) m ∙ ap (λ bs. died bs m) (sym (drop_next bases i base h (is ∙ get_or_default bases i 0 base h))) ∙ inv

pub deaths_done : (bases : List ℕ) (i : ℕ) (goal m : Memory) → length bases ≤ i → died (drop i bases) m ≡ goal → m ≡ goal
deaths_done bases i goal m h inv = sym (no_deaths m) ∙ ap (λ bs. died bs m) (sym (drop_all i bases h)) ∙ inv
