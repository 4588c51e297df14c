-- Arguments, one more before those behind it.
use Rattle.std.proofs.Common.{◌≡◌, ℕ, zero, suc, ◌-◌, ◌<◌, ◌≤◌, List, [], ◌∷◌, map, length, drop, refl, sym, ap, subst, arith}
use Rattle.c_typed_expr.specs.Views.{expr_of, listed}
use Rattle.c_typed_expr.specs.declared.expr.TExpr.{TExpr}
use Rattle.c_machine.specs.Unfolding.{arguments_work, count}
use Rattle.c_machine.specs.Work.{Work, Evaluate}
use Rattle.stepper_shapes.specs.Views.{listed_in}

pub counted : (arguments : List TExpr) → count (listed (map expr_of arguments)) ≡ length arguments
counted [] = refl
counted (e ∷ more) = ap suc (counted more)

-- the work of the arguments from number n on
abbrev pub arguments_from : List TExpr → ℕ → List Work → List Work
arguments_from all n rest = arguments_work (listed (map expr_of (drop n all))) rest

argument_at : (all : List TExpr) (n : ℕ) (rest : List Work) → n < length all → Evaluate (listed_in all n) ∷ arguments_from all (suc n) rest ≡ arguments_from all n rest
argument_at [] n rest h = absurd (omega arith)
argument_at (x ∷ all) zero rest h = refl
argument_at (x ∷ all) (suc n) rest h = argument_at all n rest (omega arith)

pub argument_before : (all : List TExpr) (n : ℕ) (rest : List Work) → 0 < n → n ≤ length all → Evaluate (listed_in all (n - 1)) ∷ arguments_from all n rest ≡ arguments_from all (n - 1) rest
argument_before all zero rest some h = absurd (omega arith)
argument_before all (suc n) rest some h =
    let below : n ≡ suc n - 1 = omega arith in
    subst (λ k. Evaluate (listed_in all k) ∷ arguments_from all (suc n) rest ≡ arguments_from all k rest) below (argument_at all n rest (omega arith))

pub none_behind : (all : List TExpr) (rest : List Work) → arguments_from all (length all) rest ≡ rest
none_behind [] rest = refl
none_behind (x ∷ all) rest = none_behind all rest
