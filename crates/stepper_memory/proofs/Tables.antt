-- Tables of bits, base by base.
use Rattle.std.proofs.Common.{true≢false, ◌≡◌, ◌≢◌, ⊎_elim, ℕ, zero, suc, ◌+◌, ◌-◌, ◌<◌, ◌==◌, Bool, true, false, cond, List, [], ◌∷◌, ◌++◌, length, map, take, drop, Option, None, Some, Result, Ok, Err, OnOk, IfOk, refl, sym, ◌∙◌, ap, arith}
use Rattle.std.proofs.Math.Path.{fun_ext}
use Rattle.std.specs.Prelude.{slice_get, slice_set, unwrap_or}
use Rattle.std.specs.List.{AllByRecursion}
use Rattle.std.proofs.lemmas.Bool.Decides.{eqb_tells}
use Rattle.c_memory.specs.Memories.{with_base, overwritten, cells_at}
use Rattle.c_memory.specs.Values.{Cell}
use Rattle.stepper_values.proofs.Cells.{map_take, map_drop}
use Rattle.stepper_memory.specs.declared.stored.Stored.{Stored}
use Rattle.stepper_memory.specs.Putting.{bits_at}
use Rattle.stepper_memory.specs.Views.{seen, seen_base, memory_of, IsBefore, AreBefore, AllBefore}

abbrev pub Bits : Type 0
Bits = Option (List Stored)

-- room for one base more
more_room : (deaths : List ℕ) (table : List Bits) (base : ℕ) → seen_base deaths (slice_get (table ++ None ∷ []) base) ≡ seen_base deaths (slice_get table base)
more_room deaths [] zero = refl
more_room deaths [] (suc base) = refl
more_room deaths (b ∷ table) zero = refl
more_room deaths (b ∷ table) (suc base) = more_room deaths table base

pub grown : (deaths : List ℕ) (table new : List Bits) → new ≡ table ++ None ∷ [] → memory_of deaths new ≡ memory_of deaths table
grown deaths table new e = ap (memory_of deaths) e ∙ fun_ext (λ base. more_room deaths table base)

pub before_grown : (now : ℕ) (table new : List Bits) → new ≡ table ++ None ∷ [] → AllBefore now table → AllBefore now new
before_grown now table new e all = rw e (at table all)
  where
    at : (table : List Bits) → AllBefore now table → AllBefore now (table ++ None ∷ [])
    at [] all = (tt, tt)
    at (b ∷ table) all = (all.0, at table all.1)

-- other bits of one base
set_here : (table : List Bits) (base : ℕ) (bits : Bits) → base < length table → slice_get (slice_set table base bits) base ≡ Some bits
set_here [] base bits h = absurd (omega arith)
set_here (b ∷ table) zero bits h = refl
set_here (b ∷ table) (suc base) bits h = set_here table base bits (omega arith)

set_there : (table : List Bits) (base other : ℕ) (bits : Bits) → other ≢ base → slice_get (slice_set table base bits) other ≡ slice_get table other
set_there [] base other bits h = refl
set_there (b ∷ table) zero zero bits h = absurd (h refl)
set_there (b ∷ table) zero (suc other) bits h = refl
set_there (b ∷ table) (suc base) zero bits h = refl
set_there (b ∷ table) (suc base) (suc other) bits h = set_there table base other bits (λ e. h (ap suc e))

pub same_base : (a b : ℕ) → (a == b) ≡ true → a ≡ b
same_base a b e = ⊎_elim (λ h. h.1) (λ h. absurd (true≢false (sym e ∙ h.0))) (eqb_tells a b)

pub other_base : (a b : ℕ) → (a == b) ≡ false → a ≢ b
other_base a b e = ⊎_elim (λ h. absurd (true≢false (sym h.0 ∙ e))) (λ h. h.1) (eqb_tells a b)

pub set_is : (deaths : List ℕ) (table : List Bits) (base : ℕ) (bits : Bits) → base < length table →
    memory_of deaths (slice_set table base bits) ≡ with_base (memory_of deaths table) base (seen_base deaths (Some bits))
set_is deaths table base bits h = fun_ext (λ other. at other (other == base) refl)
  where
    at : (other : ℕ) (t : Bool) → (other == base) ≡ t →
        seen_base deaths (slice_get (slice_set table base bits) other) ≡ cond (other == base) (seen_base deaths (Some bits)) (seen_base deaths (slice_get table other))
    at other true e =
        ap (λ b. seen_base deaths (slice_get (slice_set table base bits) b)) (same_base other base e) ∙ ap (seen_base deaths) (set_here table base bits h)
        ∙ sym (ap (λ u. cond u (seen_base deaths (Some bits)) (seen_base deaths (slice_get table other))) e)
    at other false e =
        ap (seen_base deaths) (set_there table base other bits (other_base other base e))
        ∙ sym (ap (λ u. cond u (seen_base deaths (Some bits)) (seen_base deaths (slice_get table other))) e)

pub before_set : (now : ℕ) (table : List Bits) (base : ℕ) (bits : Bits) → AreBefore now bits → AllBefore now table → AllBefore now (slice_set table base bits)
before_set now [] base bits h all = tt
before_set now (b ∷ table) zero bits h all = (h, all.1)
before_set now (b ∷ table) (suc base) bits h all = (all.0, before_set now table base bits h all.1)

-- what is taken out and put back
set_twice : (table : List Bits) (base : ℕ) (a b : Bits) → slice_set (slice_set table base a) base b ≡ slice_set table base b
set_twice [] base a b = refl
set_twice (x ∷ table) zero a b = refl
set_twice (x ∷ table) (suc base) a b = ap (λ t. x ∷ t) (set_twice table base a b)

set_length : (table : List Bits) (base : ℕ) (a : Bits) → length (slice_set table base a) ≡ length table
set_length [] base a = refl
set_length (x ∷ table) zero a = refl
set_length (x ∷ table) (suc base) a = ap suc (set_length table base a)

pub before_at : (now : ℕ) (table : List Bits) (base : ℕ) → AllBefore now table → AllByRecursion (IsBefore now) (bits_at table base)
before_at now [] base all = tt
before_at now (None ∷ table) zero all = tt
before_at now (Some bits ∷ table) zero all = all.0
before_at now (b ∷ table) (suc base) all = before_at now table base all.1

pub seen_at : (deaths : List ℕ) (table : List Bits) (base : ℕ) → map (seen deaths) (bits_at table base) ≡ unwrap_or (memory_of deaths table base) []
seen_at deaths [] base = refl
seen_at deaths (None ∷ table) zero = refl
seen_at deaths (Some bits ∷ table) zero = refl
seen_at deaths (b ∷ table) (suc base) = seen_at deaths table base

-- what is taken out of a base and put back written over
pub put_back : (deaths : List ℕ) (table taken new : List Bits) (base : ℕ) (cells : List Stored) → base < length table → taken ≡ slice_set table base None →
    new ≡ slice_set taken base (Some cells) → memory_of deaths new ≡ with_base (memory_of deaths table) base (Some (map (seen deaths) cells))
put_back deaths table taken new base cells h t n =
    ap (memory_of deaths) (n ∙ ap (λ x. slice_set x base (Some cells)) t ∙ set_twice table base None (Some cells)) ∙ set_is deaths table base (Some cells) h

pub before_back : (now : ℕ) (table taken new : List Bits) (base : ℕ) (cells : List Stored) → taken ≡ slice_set table base None → new ≡ slice_set taken base (Some cells) →
    AllByRecursion (IsBefore now) cells → AllBefore now table → AllBefore now new
before_back now table taken new base cells t n h all =
    rw (n, t, set_twice table base None (Some cells)) (before_set now table base (Some cells) h all)

-- the bits of one base are written over
pub written_base : (deaths : List ℕ) (old table taken new : List Bits) (base first : ℕ) (cells after : List Stored) (bits : List Cell) →
    memory_of deaths table ≡ memory_of deaths old → base < length table → cells ≡ bits_at table base → taken ≡ slice_set table base None →
    new ≡ slice_set taken base (Some after) → map (seen deaths) after ≡ overwritten (map (seen deaths) cells) first bits →
    memory_of deaths new ≡ with_base (memory_of deaths old) base (Some (overwritten (unwrap_or (memory_of deaths old base) []) first bits))
written_base deaths old table taken new base first cells after bits same room is t n w =
    let before : map (seen deaths) cells ≡ unwrap_or (memory_of deaths old base) [] =
    ap (map (seen deaths)) is ∙ seen_at deaths table base ∙ ap (λ m. unwrap_or (m base) []) same in
    put_back deaths table taken new base after room t n
    ∙ ap (λ cs. with_base (memory_of deaths table) base (Some cs)) (w ∙ ap (λ cs. overwritten cs first bits) before)
    ∙ ap (λ m. with_base m base (Some (overwritten (unwrap_or (memory_of deaths old base) []) first bits))) same

pub on_ok : {A B : Type 0} {P Q : Type 0} (r : Result A B) → (P → Q) → OnOk r P → OnOk r Q
on_ok (Ok a) f p = f p
on_ok (Err b) f p = tt

pub if_ok : {A B : Type 0} {P Q : A → Type 0} (r : Result A B) → ((a : A) → P a → Q a) → IfOk r P → IfOk r Q
if_ok (Ok a) f p = f a p
if_ok (Err b) f p = tt

-- some of the bits of a base
pub part_at : (deaths : List ℕ) (table : List Bits) (base first count : ℕ) →
    map (seen deaths) (take count (drop first (bits_at table base))) ≡ cells_at (memory_of deaths table) base first count
part_at deaths table base first count =
    map_take (seen deaths) count (drop first (bits_at table base)) ∙ ap (take count) (map_drop (seen deaths) first (bits_at table base) ∙ ap (drop first) (seen_at deaths table base))
