-- The memory before a run, base by base.
use Rattle.std.proofs.Common.{◌≡◌, ℕ, zero, suc, ◌+◌, ◌<◌, ◌==◌, Bool, true, false, cond, List, [], ◌∷◌, length, map, take, get_or, Option, None, Some, option_map, refl, sym, ◌∙◌, ap, arith}
use Rattle.std.proofs.lemmas.Bool.Decides.{nat_tests}
use mathlib.Core.Path.{fun_ext}
use Rattle.c_memory.specs.Layouts.{Layout}
use Rattle.c_memory.specs.Memories.{Memory}
use Rattle.c_memory.specs.Values.{Cell}
use Rattle.c_effects.specs.Images.{with_items}
use Rattle.c_typed_stmt.specs.declared.init.ImageItem.{ImageItem}
use Rattle.c_program.specs.declared.program.Base.{Base as CodeBase}
use Rattle.c_program.specs.declared.program.TypedProgram.{TypedProgram}
use Rattle.c_program.specs.Syntax.{base_at, is_static}
use Rattle.c_program.specs.Views.{base_of, program_of}
use Rattle.c_machine.specs.Machine.{first_cells, imaged, initial_memory}
use Rattle.stepper_start.specs.Starting.{content_of, zeroed, with_image, with_first}

-- the first i bases hold what they hold before the run, and no other one holds anything
pub record HasFirst (l : Layout) (bs : List CodeBase) (i : ℕ) (m : Memory) : Type 0 where
  pub each : (base : ℕ) → m base ≡ content_of l (base_at (map base_of (take i bs)) base)

suc_tests : (a b : ℕ) → (suc a == suc b) ≡ (a == b)
suc_tests a b = by_test (a == b) refl
  where
    by_test : (t : Bool) → (a == b) ≡ t → (suc a == suc b) ≡ t
    by_test true e = let same : a ≡ b = grind (arith, nat_tests) in rw same (grind (arith, nat_tests))
    by_test false e = grind (arith, nat_tests)

base_next : (bs : List CodeBase) (i base : ℕ) (b : CodeBase) → i < length bs → b ≡ get_or bs i b →
    base_at (map base_of (take (suc i) bs)) base ≡ cond (base == i) (Some (base_of b)) (base_at (map base_of (take i bs)) base)
base_next [] i base b h is = absurd (omega arith)
base_next (x ∷ bs) zero zero b h is = rw is refl
base_next (x ∷ bs) zero (suc base) b h is = let other : (suc base == 0) ≡ false = grind (arith, nat_tests) in rw other refl
base_next (x ∷ bs) (suc i) zero b h is = let other : (0 == suc i) ≡ false = grind (arith, nat_tests) in rw other refl
base_next (x ∷ bs) (suc i) (suc base) b h is = base_next bs i base b (omega arith) is ∙ rw (suc_tests base i) refl

none_behind : (bs : List CodeBase) (i : ℕ) → base_at (map base_of (take i bs)) i ≡ None
none_behind [] zero = refl
none_behind [] (suc i) = refl
none_behind (b ∷ bs) zero = refl
none_behind (b ∷ bs) (suc i) = none_behind bs i

same_base : (a : ℕ) → (a == a) ≡ true
same_base a = grind (arith, nat_tests)

-- what stands at the base itself
zeroed_at : (n : ℕ) (b : CodeBase) (m : Memory) → m n ≡ None → zeroed n b m n ≡ first_cells (Some (base_of b))
zeroed_at n b m none = by_sort (is_static b.sort) refl
  where
    by_sort : (t : Bool) → is_static b.sort ≡ t → zeroed n b m n ≡ first_cells (Some (base_of b))
    by_sort true e = rw (e, same_base n) refl
    by_sort false e = rw e none

imaged_at : (l : Layout) (n : ℕ) (image : Option (List ImageItem)) (m : Memory) → with_image l n image m n ≡ imaged l image (m n)
imaged_at l n None m = refl
imaged_at l n (Some image) m = rw (same_base n) refl

first_at : (l : Layout) (n : ℕ) (b : CodeBase) (m : Memory) → m n ≡ None → with_first l n b m n ≡ content_of l (Some (base_of b))
first_at l n b m none = imaged_at l n b.image (zeroed n b m) ∙ ap (imaged l b.image) (zeroed_at n b m none)

-- no other base changes
zeroed_others : (n : ℕ) (b : CodeBase) (m : Memory) (base : ℕ) → (base == n) ≡ false → zeroed n b m base ≡ m base
zeroed_others n b m base other = by_sort (is_static b.sort) refl
  where
    by_sort : (t : Bool) → is_static b.sort ≡ t → zeroed n b m base ≡ m base
    by_sort true e = rw (e, other) refl
    by_sort false e = rw e refl

imaged_others : (l : Layout) (n : ℕ) (image : Option (List ImageItem)) (m : Memory) (base : ℕ) → (base == n) ≡ false → with_image l n image m base ≡ m base
imaged_others l n None m base other = refl
imaged_others l n (Some image) m base other = rw other refl

pub first_next : (l : Layout) (bs : List CodeBase) (i : ℕ) (b : CodeBase) (before after : Memory) → i < length bs → b ≡ get_or bs i b → HasFirst l bs i before →
    after ≡ with_first l i b before → HasFirst l bs (i + 1) after
first_next l bs i b before after h is f made = record {
  each = λ base.
      ap (λ m. m base) made
      ∙ by_test base (base == i) refl
      ∙ ap (λ n. content_of l (base_at (map base_of (take n bs)) base)) add-one-back;
}
  where
    add-one-back : suc i ≡ i + 1
    add-one-back = omega arith

    none : before i ≡ None
    none = f.each i ∙ ap (content_of l) (none_behind bs i)

    by_test : (base : ℕ) (t : Bool) → (base == i) ≡ t → with_first l i b before base ≡ content_of l (base_at (map base_of (take (suc i) bs)) base)
    by_test base true e =
        let same : base ≡ i = grind (arith, nat_tests) in
        rw (base_next bs i base b h is, e, same) (first_at l i b before none)
    by_test base false e =
        rw (base_next bs i base b h is, e)
        (imaged_others l i b.image (zeroed i b before) base e ∙ zeroed_others i b before base e ∙ f.each base)

pub nothing_first : (l : Layout) (bs : List CodeBase) (m : Memory) → m ≡ (λ base. None) → HasFirst l bs 0 m
nothing_first l bs m e = record { each = λ base. ap (λ m. m base) e ∙ by_list bs base }
  where
    by_list : (bs : List CodeBase) (base : ℕ) → None ≡ content_of l (base_at (map base_of (take 0 bs)) base)
    by_list [] base = refl
    by_list (b ∷ bs) base = refl

take_whole : {A : Type 0} (xs : List A) → take (length xs) xs ≡ xs
take_whole [] = refl
take_whole (x ∷ xs) = ap (λ ys. x ∷ ys) (take_whole xs)

pub first_done : (l : Layout) (p : TypedProgram) (bs : List CodeBase) (i : ℕ) (m : Memory) → bs ≡ p.bases → i ≡ length bs → HasFirst l bs i m →
    m ≡ initial_memory (program_of p) l
first_done l p bs i m same done f =
    fun_ext (λ base. f.each base ∙ ap (λ xs. content_of l (base_at (map base_of xs) base)) (ap (λ n. take n bs) done ∙ take_whole bs ∙ same))
