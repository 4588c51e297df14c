-- What holds behind a test.
use Rattle.std.proofs.Common.{◌≡◌, true, false, ℤ, Some, Result, Ok, Err}
use Rattle.std.specs.Prelude.{MatchResult}
use Rattle.c_base.specs.declared.kind.Kind.{Kind}
use Rattle.c_program.specs.Syntax.{Expr}
use Rattle.first_analysis.specs.Evaluation.{Env, value, is_true}
use Rattle.first_analysis.specs.declared.place.Place.{Place}
use Rattle.first_analysis.specs.declared.place.Split.{Split}
use Rattle.first_analysis.specs.Contents.{Row, HoldsRow, HoldsReached}
use Rattle.first_analysis.specs.Tables.{SplitsTo, BranchesAt}

when_true : (s : Split) (x : Result ℤ Kind) (env : Env) → SplitsTo s env x → MatchResult x (λ n. is_true n ≡ true → HoldsReached s.branches.when_true env) (λ kind. Unit {0})
when_true s (Ok n) env h = λ e. rw e at h
when_true s (Err kind) env h = tt

when_false : (s : Split) (x : Result ℤ Kind) (env : Env) → SplitsTo s env x → MatchResult x (λ n. is_true n ≡ false → HoldsReached s.branches.when_false env) (λ kind. Unit {0})
when_false s (Ok n) env h = λ e. rw e at h
when_false s (Err kind) env h = tt

pub branches : (p : Place) (row : Row) (e : Expr) (s : Split) → p.row ≡ Some row → ((env : Env) → HoldsRow row env → SplitsTo s env (value env e)) →
    BranchesAt p e s.branches.when_true s.branches.when_false
branches p row e s is splits = (
  record { each = λ env h. when_true s (value env e) env (splits env (rw is at h)) },
  record { each = λ env h. when_false s (value env e) env (splits env (rw is at h)) },
)
