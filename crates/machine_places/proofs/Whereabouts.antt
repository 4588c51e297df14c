-- Each state that a run reaches has its place.
use Rattle.std.proofs.Common.{◌≡◌, ℕ, zero, suc, ◌-◌, ◌==◌, ◌⊎◌, inl, inr, Bool, true, false, cond, List, [], ◌∷◌, Some, refl, sym, subst, arith}
use Rattle.std.specs.Prelude.{slice_get}
use Rattle.std.specs.List.{Contains, AllByRecursion}
use Rattle.c_base.proofs.Tests.{test_same}
use Rattle.c_memory.specs.Layouts.{Layout}
use Rattle.c_program.specs.Syntax.{Function, function_at, Program}
use Rattle.c_program.specs.Numbered.{numbers_of, IsNumberedFunction, IsNumbered}
use Rattle.c_machine.specs.Machine.{State, Goes, Stops, sites_of, statement_in}
use Rattle.c_machine.specs.Laws.{functions_in}
use Rattle.c_machine.proofs.Runs.{kept_along}
use Rattle.machine_places.specs.Places.{Where, IsOfInnermost, IsOwnedByInnermost, HasPlace, HasPlaces, OwnsPlaces}
use Rattle.machine_places.proofs.Segments.{IsNumber, Known, Placed, placed, arrives, Whole}
use Rattle.machine_places.proofs.Staying.{stays, begins}

module _ (p : Program) where
  -- a number of the function in progress
  of_innermost : (l : Layout) (f : Function) (functions : List ℕ) (id : ℕ) → Known p l f → (outer : List ℕ) → functions ≡ f.base ∷ outer → IsNumber f id → IsOfInnermost p functions id
  of_innermost l f functions id known outer e h =
      subst (λ all. IsOfInnermost p all id) (sym e) (subst (λ found. Where (λ function. Contains (numbers_of function) id) found) (sym known) h)

  has_place : (l : Layout) (s : State) → Whole p l s.control s.held → (s.control ≡ []) ⊎ HasPlace p l s
  has_place l s (inl e) = inl e
  has_place l s (inr (f, known, h)) =
      let place : Placed p l f (sites_of s.control) (functions_in s.control) (statement_in s.control) = placed p l f s.control s.held h in
      inr (record {
        calls = place.calls;
        statement = of_innermost l f (functions_in s.control) (statement_in s.control) known place.innermost.0 place.innermost.1 place.has;
        arrives = λ id e. of_innermost l f (functions_in s.control) id known place.innermost.0 place.innermost.1 (arrives p l f s.control s.held id h e);
        stops = λ kind id sites step. stays p l s (Stops kind id sites) (inr (f, known, h)) step;
      })

  pub has_places : HasPlaces p
  has_places l s r =
      let first : Whole p l r.first.control r.first.held = begins p l (function_at p.functions p.entry) r.first refl r.begins in
      has_place l s (subst (λ t. Whole p l t.control t.held) r.ends
      (kept_along p (λ t. Whole p l t.control t.held) l (λ t u h step. stays p l t (Goes u) h step) r.first r.run first r.goes))

  -- ---- whose statement it is

  each_of : {A : Type 0} → (P : A → Type 0) → (xs : List A) (x : A) → AllByRecursion P xs → Contains xs x → P x
  each_of P [] x h (k, lt, e) = let none : ⊥ = omega arith in absurd none
  each_of P (y ∷ ys) x h (zero, lt, e) = subst P e h.0
  each_of P (y ∷ ys) x h (suc k, lt, e) = each_of P ys x h.1 (k, omega arith, e)

  owned_by : (fs : List Function) (base id : ℕ) → AllByRecursion (IsNumberedFunction p) fs → Where (λ function. Contains (numbers_of function) id) (function_at fs base) →
      slice_get p.owners (id - 1) ≡ Some base
  owned_by [] base id h k = absurd k
  owned_by (g ∷ fs) base id h k = by_test (owned_by fs base id h.1) (g.base == base) refl k
    where
      by_test : (Where (λ function. Contains (numbers_of function) id) (function_at fs base) → slice_get p.owners (id - 1) ≡ Some base) → (t : Bool) → (g.base == base) ≡ t →
          Where (λ function. Contains (numbers_of function) id) (cond t (Some g) (function_at fs base)) → slice_get p.owners (id - 1) ≡ Some base
      by_test later true same k =
          let own : slice_get p.owners (id - 1) ≡ Some g.base = each_of (λ n. slice_get p.owners (n - 1) ≡ Some g.base) (numbers_of g) id h.0.owned k in
          subst (λ b. slice_get p.owners (id - 1) ≡ Some b) (test_same g.base base same) own
      by_test later false same k = later k

  pub owns_places : IsNumbered p → OwnsPlaces p
  owns_places h s id is = by_functions (functions_in s.control) is
    where
      by_functions : (functions : List ℕ) → IsOfInnermost p functions id → IsOwnedByInnermost p functions id
      by_functions [] is = is
      by_functions (f ∷ outer) is = owned_by p.functions f id h.functions is
