-- The objects of a program of the first language in a layout, and its memory at the beginning.
use Rattle.std.proofs.Common.{◌≡◌, ◌≢◌, ℕ, zero, suc, ◌+◌, ◌-◌, ◌<◌, ◌≤◌, ◌==◌, Bool, true, false, ◌||◌, List, [], ◌∷◌, length, get_or, map, None, Some, refl, sym, ◌∙◌, ap, arith}
use Rattle.std.specs.List.{list_any}
use Rattle.std.proofs.lemmas.Bool.Decides.{nat_tests}
use Rattle.c_base.proofs.Tests.{same_test, other_test}
use Rattle.first_program.specs.Source.{Program}
use Rattle.c_memory.specs.Layouts.{Layout}
use Rattle.c_memory.specs.Memories.{Memory, born}
use Rattle.c_program.specs.Syntax.{base_at, numbers_from, IsLayout}
use Rattle.first_program.specs.Meaning.{meaning_of, variable_base}
use Rattle.first_analysis.specs.Evaluation.{IsVariable}
use Rattle.c_machine.specs.Machine.{initial_memory, image_at, imaged, first_cells}
use Rattle.c_machine.specs.Unfolding.{volatile_base}
use Rattle.first_analysis.proofs.IntMachine.{HasVariables, AreStill, Shows}

or_true : (a b : Bool) → b ≡ true → (a || b) ≡ true
or_true true b h = refl
or_true false b h = h

-- which numbers stand in a stretch of numbers, by a test that compares each with one number
module _ (test : ℕ → Bool) (other : ℕ) (here : test other ≡ true) (elsewhere : (b : ℕ) → b ≢ other → test b ≡ false) where
  in_numbers : (n count : ℕ) → n ≤ other → other < n + count → list_any test (numbers_from n count) ≡ true
  in_numbers n zero low high = absurd (omega arith)
  in_numbers n (suc count) low high = by_test (other == n) refl (λ more. in_numbers (suc n) count more (omega arith))
    where
      by_test : (t : Bool) → (other == n) ≡ t → (suc n ≤ other → list_any test (numbers_from (suc n) count) ≡ true) →
          (test n || list_any test (numbers_from (suc n) count)) ≡ true
      by_test true e later = let same : other ≡ n = grind (arith, nat_tests) in let at : test n ≡ true = rw same at here in rw at refl
      by_test false e later = let above : suc n ≤ other = grind (arith, nat_tests) in or_true (test n) _ (later above)

  before_numbers : (n count : ℕ) → other < n → list_any test (numbers_from n count) ≡ false
  before_numbers n zero out = refl
  before_numbers n (suc count) out = rw (elsewhere n (λ e. absurd (omega arith))) (before_numbers (suc n) count (omega arith))

  beyond_numbers : (n count : ℕ) → n + count ≤ other → list_any test (numbers_from n count) ≡ false
  beyond_numbers n zero out = refl
  beyond_numbers n (suc count) out = rw (elsewhere n (λ e. absurd (omega arith))) (beyond_numbers (suc n) count (omega arith))

-- ---- bases

variable_base_at : (vs : List (List ℕ)) (i : ℕ) → i < length vs → base_at (map variable_base vs) i ≡ Some (variable_base (get_or vs i []))
variable_base_at [] i h = absurd (omega arith)
variable_base_at (v ∷ vs) zero h = refl
variable_base_at (v ∷ vs) (suc i) h = variable_base_at vs i (omega arith)

length-bases : (vs : List (List ℕ)) → length (map variable_base vs) ≡ length vs
length-bases [] = refl
length-bases (v ∷ vs) = ap suc (length-bases vs)

pub base_known : (p : Program) (base : ℕ) → IsVariable (length p.variables) base →
    base_at (meaning_of p).bases base ≡ Some (variable_base (get_or p.variables (base - 1) []))
base_known p zero v = let low = v.low in absurd (omega arith)
base_known p (suc i) v =
    let high = v.high in let within : i < length p.variables = omega arith in let same : suc i - 1 ≡ i = omega arith in
    rw same (variable_base_at p.variables i within)

pub has_variables : (p : Program) (l : Layout) → IsLayout (meaning_of p) l → HasVariables l (length p.variables)
has_variables p l is = record {
  machine = is.machine;
  each = λ base v.
      let known = is.known base (variable_base (get_or p.variables (base - 1) [])) (base_known p base v) in
      record { machine = is.machine; size = known.0; writable = known.1; among = among base v };
}
  where
    among : (base : ℕ) → IsVariable (length p.variables) base → list_any (λ b. b == base) l.bases ≡ true
    among base v =
        let low = v.low in let high = v.high in
        let all : l.bases ≡ numbers_from 0 (suc (length p.variables)) = is.all ∙ ap (λ n. numbers_from 0 (suc n)) (length-bases p.variables) in
        rw all (in_numbers (λ b. b == base) base (same_test base) (λ b e. other_test b base e) 0 (suc (length p.variables)) (omega arith) (omega arith))

-- no object of the language is volatile
pub still : (p : Program) → AreStill (meaning_of p) (length p.variables)
still p base v = ap volatile_base (base_known p base v)

-- ---- the first memory

-- no object of the language lives before the run
pub nothing_before : (p : Program) (l : Layout) (base : ℕ) → initial_memory (meaning_of p) l base ≡ None
nothing_before p l zero = refl
nothing_before p l (suc i) = none p.variables i
  where
    none : (vs : List (List ℕ)) (i : ℕ) → imaged l (image_at (base_at (map variable_base vs) i)) (first_cells (base_at (map variable_base vs) i)) ≡ None
    none [] i = refl
    none (v ∷ vs) zero = refl
    none (v ∷ vs) (suc i) = none vs i

pub shows_born : (l : Layout) (count : ℕ) (before : Memory) → HasVariables l count → ((base : ℕ) → before base ≡ None) → Shows count (λ base. None) (born l (numbers_from 1 count) before)
shows_born l count before has none = record {
  live = λ base v.
      let low = v.low in let high = v.high in
      let in' = in_numbers (λ b. base == b) base (same_test base) (λ b e. other_test base b (λ f. e (sym f))) 1 count low (omega arith) in
      rw (in', (has.each base v).size) refl;
  fits = λ base. tt;
  none = rw (before_numbers (λ b. 0 == b) 0 (same_test 0) (λ b e. other_test 0 b (λ f. e (sym f))) 1 count (omega arith)) (none 0);
  beyond = λ base out. rw (beyond_numbers (λ b. base == b) base (same_test base) (λ b e. other_test base b (λ f. e (sym f))) 1 count (omega arith)) (none base);
}
