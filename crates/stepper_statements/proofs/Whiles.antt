-- A `while` with invariants has the form of a `for`.
use Rattle.std.proofs.Common.{◌≡◌, ℕ, suc, Bool, true, false, List, [], ◌∷◌, None, Some, ◌==◌, length, map, refl, true≢false, arith}
use Rattle.std.proofs.lemmas.Bool.Decides.{nat_tests}
use Rattle.c_typed_term.specs.Terms.{Predicate}
use Rattle.c_program.specs.Syntax.{Expr, Head, Stmt, For}
use Rattle.c_program.specs.Views.{while_of}
use Rattle.stepper_statements.specs.Views.{is_nil}

abbrev pub bare : ℕ → List Predicate → Expr → Head
bare id invariants e = record { first = None; id = id; invariants = invariants; condition = Some e; next = None }

pub annotated : (id : ℕ) (invariants : List Predicate) (e : Expr) (body : Stmt) → is_nil invariants ≡ false →
    while_of (bare id invariants e) body ≡ For (bare id invariants e) body
annotated id [] e body h = absurd (true≢false h)
annotated id (p ∷ ps) e body h = refl

pub nil_by : {A B : Type 0} (f : A → B) (xs : List A) → (length xs == 0) ≡ is_nil (map f xs)
nil_by f [] = refl
nil_by f (x ∷ xs) = more (length xs)
  where
    more : (n : ℕ) → (suc n == 0) ≡ false
    more n = grind (arith, nat_tests)
