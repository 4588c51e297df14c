-- Which bases live, through births, deaths and stores.
use Rattle.std.proofs.Common.{◌≡◌, ℕ, ◌*◌, ◌==◌, Bool, true, false, cond, ◌||◌, ◌&&◌, IsTrue, List, [], ◌∷◌, ◌++◌, Option, None, Some, Result, Ok, Err, refl, sym, ◌∙◌, ap}
use Rattle.std.specs.Prelude.{is_some, find, unwrap_or, option_map}
use Rattle.c_base.specs.declared.kind.Kind.{Kind}
use Rattle.c_base.specs.declared.kind.Kind.TheVariants.{MemAccess}
use Rattle.c_base.proofs.Tests.{test_same, same_test}
use Rattle.c_memory.specs.declared.scalar.Scalar.{Scalar}
use Rattle.c_memory.specs.Scalars.{size_of_scalar, bits_of_scalar}
use Rattle.c_memory.specs.Values.{Value, Cell, cells_of}
use Rattle.c_memory.specs.Layouts.{Layout}
use Rattle.c_memory.specs.Memories.{Memory, stored, stored_to, with_base, overwritten, offset_in, born, died, withered, reached, is_reached, is_within}
use Rattle.c_effects.specs.Images.{pasted, with_items}
use Rattle.c_effects.specs.Ranges.{read, may_write, written, written_to, overwritten_at, put, overlaps, copied_by, copied}
use Rattle.c_effects.specs.Passing.{Argument, argument_cells, passed}
use Rattle.c_typed_stmt.specs.declared.init.ImageItem.{ImageItem}
use Rattle.c_program.specs.Syntax.{base_at, static_base, Program}
use Rattle.c_program.specs.Valid.{is_among, is_taken, AreNew}

-- ---- sets of bases

or_assoc : (a b c : Bool) → ((a || b) || c) ≡ (a || (b || c))
or_assoc true b c = refl
or_assoc false b c = refl

pub among_append : (xs ys : List ℕ) (base : ℕ) → is_among (xs ++ ys) base ≡ (is_among xs base || is_among ys base)
among_append [] ys base = refl
among_append (x ∷ xs) ys base = ap (λ t. (base == x) || t) (among_append xs ys base) ∙ sym (or_assoc (base == x) (is_among xs base) (is_among ys base))

-- the objects of a scope, and what lives outside it
pub taken_append : (p : Program) (xs ys : List ℕ) (base : ℕ) → is_taken p (xs ++ ys) base ≡ (is_among xs base || is_taken p ys base)
taken_append p xs ys base =
    ap (λ t. t || static_base (base_at p.bases base)) (among_append xs ys base) ∙ or_assoc (is_among xs base) (is_among ys base) (static_base (base_at p.bases base))

-- ---- what an access reaches lives

found_test : (f : ℕ → Bool) (xs : List ℕ) (x : ℕ) → find f xs ≡ Some x → f x ≡ true
found_test f [] x e = absurd (cc)
found_test f (y ∷ ys) x e = by_test (found_test f ys x) (f y) refl e
  where
    by_test : (find f ys ≡ Some x → f x ≡ true) → (t : Bool) → f y ≡ t → cond (f y) (Some y) (find f ys) ≡ Some x → f x ≡ true
    by_test later true h e = let same : Some y ≡ Some x = rw h at e in let is : y ≡ x = cc in rw (← is) h
    by_test later false h e = let behind : find f ys ≡ Some x = rw h at e in later behind

pub reached_lives : (l : Layout) (m : Memory) (bytes : ℕ) (at : Value) (base : ℕ) → reached l m bytes at ≡ Some base → is_some (m base) ≡ true
reached_lives l m bytes at base e = middle _ _ _ (found_test (is_reached l m bytes at) l.bases base e)
  where
    middle : (a b c : Bool) → (a && (b && c)) ≡ true → b ≡ true
    middle true true c h = refl
    middle true false c h = h
    middle false b c h = absurd (cc)

pub reached_within : (l : Layout) (m : Memory) (bytes : ℕ) (at : Value) (base : ℕ) → reached l m bytes at ≡ Some base → IsTrue (is_within l bytes base at.number)
reached_within l m bytes at base e = last _ _ _ (found_test (is_reached l m bytes at) l.bases base e)
  where
    last : (a b c : Bool) → (a && (b && c)) ≡ true → IsTrue c
    last true true c h = h
    last true false c h = absurd (cc)
    last false b c h = absurd (cc)

module _ (p : Program) where
  abbrev pub Lives : Memory → List ℕ → Type 0
  Lives m scopes = (base : ℕ) → is_some (m base) ≡ is_taken p scopes base

  pub births : (l : Layout) (m : Memory) (bases scopes : List ℕ) → Lives m scopes → Lives (born l bases m) (bases ++ scopes)
  births l m bases scopes h base = by_test (is_among bases base) refl ∙ sym (taken_append p bases scopes base)
    where
      by_test : (t : Bool) → is_among bases base ≡ t → is_some (born l bases m base) ≡ (is_among bases base || is_taken p scopes base)
      by_test true e = rw e refl
      by_test false e = rw e (h base)

  some_withered : (dying : List ℕ) (cells : Option (List Cell)) → is_some (withered dying cells) ≡ is_some cells
  some_withered dying None = refl
  some_withered dying (Some cells) = refl

  pub deaths : (m : Memory) (dying scopes : List ℕ) → AreNew p scopes dying → Lives m (dying ++ scopes) → Lives (died dying m) scopes
  deaths m dying scopes new h base = by_test (is_among dying base) refl
    where
      by_test : (t : Bool) → is_among dying base ≡ t → is_some (died dying m base) ≡ is_taken p scopes base
      by_test true e = rw e (sym (new.each base e))
      by_test false e = rw e (some_withered dying (m base) ∙ h base ∙ taken_append p dying scopes base ∙ ap (λ t. t || is_taken p scopes base) e)

  -- ---- a store lets no base be born or die

  abbrev pub OnMemory : List ℕ → Result Memory Kind → Type 0
  OnMemory scopes (Ok m) = Lives m scopes
  OnMemory scopes (Err kind) = Unit {0}

  base_written : (m : Memory) (base : ℕ) (cells : List Cell) (scopes : List ℕ) → is_some (m base) ≡ true → Lives m scopes → Lives (with_base m base (Some cells)) scopes
  base_written m base cells scopes live h other = by_test (other == base) refl
    where
      by_test : (t : Bool) → (other == base) ≡ t → is_some (cond (other == base) (Some cells) (m other)) ≡ is_taken p scopes other
      by_test true e = let same : other ≡ base = test_same other base e in let here : is_some (m other) ≡ true = rw same live in rw e (sym here ∙ h other)
      by_test false e = rw e (h other)

  pub stored_lives : (l : Layout) (m : Memory) (type : Scalar) (at v : Value) (scopes : List ℕ) → Lives m scopes → OnMemory scopes (stored l m type at v)
  stored_lives l m type at v scopes h = by_base (reached l m (size_of_scalar type l.machine) at) refl
    where
      by_base : (found : Option ℕ) → reached l m (size_of_scalar type l.machine) at ≡ found → OnMemory scopes (stored_to l m type at v found)
      by_base None e = tt
      by_base (Some base) e = by_test (l.readonly base)
        where
          by_test : (t : Bool) → OnMemory scopes (cond t (Err MemAccess) (Ok (with_base m base (Some (overwritten (unwrap_or (m base) []) (8 * offset_in l base at) (cells_of l.machine (bits_of_scalar type l.machine) v))))))
          by_test true = tt
          by_test false = base_written m base _ scopes (reached_lives l m (size_of_scalar type l.machine) at base e) h

  pub written_lives : (l : Layout) (m : Memory) (named : Bool) (bytes : ℕ) (cells : List Cell) (at : Value) (scopes : List ℕ) → Lives m scopes →
      OnMemory scopes (written l m named bytes cells at)
  written_lives l m named bytes cells at scopes h = by_base (reached l m bytes at) refl
    where
      by_base : (found : Option ℕ) → reached l m bytes at ≡ found → OnMemory scopes (written_to l m named cells at found)
      by_base None e = tt
      by_base (Some base) e = by_test (may_write l named base)
        where
          by_test : (t : Bool) → OnMemory scopes (cond t (Ok (overwritten_at l m cells at base)) (Err MemAccess))
          by_test true = base_written m base _ scopes (reached_lives l m bytes at base e) h
          by_test false = tt

  pub put_lives : (l : Layout) (m : Memory) (type : Scalar) (at v : Value) (scopes : List ℕ) → Lives m scopes → OnMemory scopes (put l m type at v)
  put_lives l m type at v scopes h = written_lives l m true (size_of_scalar type l.machine) (cells_of l.machine (bits_of_scalar type l.machine) v) at scopes h

  copied_by_lives : (l : Layout) (m : Memory) (named : Bool) (bytes : ℕ) (to source : Value) (clashes : Bool) (cells : Result (List Cell) Kind) (scopes : List ℕ) →
      Lives m scopes → OnMemory scopes (copied_by l m named bytes to source clashes cells)
  copied_by_lives l m named bytes to source clashes (Err kind) scopes h = tt
  copied_by_lives l m named bytes to source false (Ok cells) scopes h = written_lives l m named bytes cells to scopes h
  copied_by_lives l m named bytes to source true (Ok cells) scopes h = by_target (written l m named bytes cells to) refl
    where
      by_target : (r : Result Memory Kind) → written l m named bytes cells to ≡ r → OnMemory scopes (copied_by l m named bytes to source true (Ok cells))
      by_target (Err kind) e = rw e tt
      by_target (Ok after) e = rw e tt

  pub copied_lives : (l : Layout) (m : Memory) (named : Bool) (bytes : ℕ) (to source : Value) (scopes : List ℕ) → Lives m scopes →
      OnMemory scopes (copied l m named bytes to source)
  copied_lives l m named bytes to source scopes h =
      copied_by_lives l m named bytes to source (overlaps l bytes to source (reached l m bytes to) (reached l m bytes source)) (read l m bytes source) scopes h

  some_mapped : (f : List Cell → List Cell) (cells : Option (List Cell)) → is_some (option_map f cells) ≡ is_some cells
  some_mapped f None = refl
  some_mapped f (Some cells) = refl

  pub pasted_lives : (l : Layout) (base : ℕ) (image : List ImageItem) (m : Memory) (scopes : List ℕ) → Lives m scopes → Lives (pasted l base image m) scopes
  pasted_lives l base image m scopes h other = by_test (other == base) refl
    where
      by_test : (t : Bool) → (other == base) ≡ t → is_some (cond (other == base) (option_map (with_items l image) (m base)) (m other)) ≡ is_taken p scopes other
      by_test true e = let same : other ≡ base = test_same other base e in rw e (some_mapped (with_items l image) (m base) ∙ rw (← same) (h other))
      by_test false e = rw e (h other)

  pub passed_lives : (l : Layout) (formals : List ℕ) (arguments : List Argument) (m : Memory) (scopes : List ℕ) →
      ((base : ℕ) → IsTrue (is_among formals base) → is_taken p scopes base ≡ true) → Lives m scopes → Lives (passed l formals arguments m) scopes
  passed_lives l [] arguments m scopes live h = h
  passed_lives l (base ∷ formals) [] m scopes live h = h
  passed_lives l (base ∷ formals) (a ∷ arguments) m scopes live h =
      passed_lives l formals arguments (with_base m base (Some (argument_cells l base a))) scopes (λ other among. live other (or_right (other == base) (is_among formals other) among))
      (base_written m base (argument_cells l base a) scopes (h base ∙ live base (or_left (base == base) (is_among formals base) (same_test base))) h)
    where
      or_left : (a b : Bool) → a ≡ true → IsTrue (a || b)
      or_left true b e = refl
      or_left false b e = absurd (cc)

      or_right : (a b : Bool) → IsTrue b → IsTrue (a || b)
      or_right true b e = refl
      or_right false b e = e
