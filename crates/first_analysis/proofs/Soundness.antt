-- Rows that flow cover every run of the statements.
use Rattle.std.proofs.Common.{◌≡◌, ℕ, Bool, true, false, Option, None, Some, Result, Ok, Err, ℤ, refl}
use Rattle.std.specs.Prelude.{◌+ℤ◌, ◌-ℤ◌}
use Rattle.c_base.specs.declared.kind.Kind.{Kind}
use Rattle.c_base.specs.declared.integer.IntKind.TheVariants.{Int}
use Rattle.c_base.specs.declared.integer.Machine.TheVariants.{Lp64}
use Rattle.first_program.specs.declared.tree.Sign.{Sign}
use Rattle.first_program.specs.declared.tree.Sign.TheVariants.{Plus, Minus}
use Rattle.first_program.specs.Source.{Sum, Number as SumNumber, Variable as SumVariable, Parenthesised, Run, Addends, End, Then, Test, Compare, Enclosed}
use Rattle.c_base.specs.Integers.{fits_kind}
use Rattle.c_base.specs.Operators.{arithmetic}
use Rattle.c_program.specs.Syntax.{Expr, Binary}
use Rattle.first_program.specs.SourceViews.{IsSumShaped, AreAddendsShaped, IsTestShaped}
use Rattle.first_program.specs.Meaning.{run_expr, sum_expr, test_expr, sign_op}
use Rattle.c_base.proofs.Bits.{pos_fits}
use Rattle.first_analysis.specs.Evaluation.{Env, IsPlain, value, combined, content_value}
use Rattle.first_analysis.specs.Contents.{FitsInt}

-- ---- sums and tests have no effect, and their numbers fit

module _ (count : ℕ) where
  mutual
    pub sum_plain : (s : Sum) → IsSumShaped count s → IsPlain count (sum_expr s)
    sum_plain (SumNumber n) h = refl
    sum_plain (SumVariable base) h = (refl, record { low = h.0; high = h.1 })
    sum_plain (Parenthesised s) h = sum_plain s h
    sum_plain (Run s more) h = run_plain (sum_expr s) more (sum_plain s h.0) h.1

    run_plain : (left : Expr) (more : Addends) → IsPlain count left → AreAddendsShaped count more → IsPlain count (run_expr left more)
    run_plain left End p h = p
    run_plain left (Then sign s more) p h = run_plain (Binary (sign_op sign) Int left (sum_expr s)) more (refl, p, sum_plain s h.0) h.1

  pub test_plain : (t : Test) → IsTestShaped count t → IsPlain count (test_expr t)
  test_plain (Compare left relation right) h = (refl, sum_plain left h.0, sum_plain right h.1)
  test_plain (Enclosed t) h = test_plain t h

  abbrev Fits : Result ℤ Kind → Type 0
  Fits (Ok n) = fits_kind Int Lp64 n ≡ true
  Fits (Err kind) = Unit {0}

  arithmetic_fits : (n : ℤ) (b : Bool) → fits_kind Int Lp64 n ≡ b → Fits (arithmetic true 32 n)
  arithmetic_fits n true e = rw e e
  arithmetic_fits n false e = rw e tt

  plus_fits : (sign : Sign) (x y : Result ℤ Kind) → Fits (combined (sign_op sign) Int x y)
  plus_fits Plus (Ok x) (Ok y) = arithmetic_fits (x +ℤ y) (fits_kind Int Lp64 (x +ℤ y)) refl
  plus_fits Minus (Ok x) (Ok y) = arithmetic_fits (x -ℤ y) (fits_kind Int Lp64 (x -ℤ y)) refl
  plus_fits sign (Ok x) (Err k) = tt
  plus_fits sign (Err k) y = tt

  content_fits : (x : Option ℤ) → FitsInt x → Fits (content_value x)
  content_fits None h = tt
  content_fits (Some n) h = h

  run_fits : (env : Env) (left : Expr) (more : Addends) → Fits (value env left) → Fits (value env (run_expr left more))
  run_fits env left End h = h
  run_fits env left (Then sign s more) h =
      run_fits env (Binary (sign_op sign) Int left (sum_expr s)) more (plus_fits sign (value env left) (value env (sum_expr s)))

  value_fits : (env : Env) → ((base : ℕ) → FitsInt (env base)) → (s : Sum) → IsSumShaped count s → Fits (value env (sum_expr s))
  value_fits env fits (SumNumber n) h = pos_fits n h
  value_fits env fits (SumVariable base) h = content_fits (env base.0) (fits base.0)
  value_fits env fits (Parenthesised s) h = value_fits env fits s h
  value_fits env fits (Run s more) h = run_fits env (sum_expr s) more (value_fits env fits s h.0)

  -- the number of a sum is one of type int
  pub sum_fits : (env : Env) → ((base : ℕ) → FitsInt (env base)) → (s : Sum) → IsSumShaped count s → (n : ℤ) → value env (sum_expr s) ≡ Ok n → fits_kind Int Lp64 n ≡ true
  sum_fits env fits s h n e = rw e at (value_fits env fits s h)
