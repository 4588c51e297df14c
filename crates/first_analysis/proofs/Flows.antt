-- How flows through parts make a flow through the whole.
use Rattle.std.proofs.Common.{◌≡◌, ℕ, suc, true, false, List, [], ◌∷◌, ◌++◌, length, drop, ℤ, Result, Ok, Err, arith}
use Rattle.std.specs.Prelude.{MatchResult}
use Rattle.std.proofs.Math.Seq.{take-append_seam, drop-append_seam}
use Rattle.c_base.specs.declared.kind.Kind.{Kind}
use Rattle.first_program.specs.Source.{Test}
use Rattle.c_base.specs.declared.integer.IntKind.TheVariants.{Int}
use Rattle.c_base.specs.declared.integer.Machine.TheVariants.{Lp64}
use Rattle.c_base.specs.Integers.{fits_kind}
use Rattle.c_program.specs.Syntax.{Expr}
use Rattle.first_program.specs.Source.{Stmt, Assign, Return, If, While, Block, Nothing, Stmts, Done, Next, count}
use Rattle.first_program.specs.Meaning.{sum_expr, test_expr}
use Rattle.first_analysis.specs.Evaluation.{Env, set, value, is_true}
use Rattle.first_analysis.specs.Contents.{HoldsReached}
use Rattle.first_analysis.specs.Flow.{Spot, Below, IsAssigned, IsBranch, Flow, FlowAll}
use Rattle.first_analysis.specs.Tables.{Reached, PlaceSpot, ArmFlow}

lift : (x : Result ℤ Kind) (P Q : ℤ → Type 0) → ((n : ℤ) → P n → Q n) → MatchResult x P (λ kind. Unit {0}) → MatchResult x Q (λ kind. Unit {0})
lift (Ok n) P Q f h = f n h
lift (Err kind) P Q f h = tt

module _ (Row : Type 0) (Holds : Row → Env → Type 0) where
  pub below_self : (a : Row) → Below Row Holds a a
  below_self a = record { each = λ env h. h }

  pub below_trans : (a b c : Row) → Below Row Holds a b → Below Row Holds b c → Below Row Holds a c
  below_trans a b c f g = record { each = λ env h. g.each env (f.each env h) }

  assigned_weaken : (s : Spot Row Holds) (base : ℕ) (e : Expr) (a b : Row) → IsAssigned Row Holds s base e a → Below Row Holds a b → IsAssigned Row Holds s base e b
  assigned_weaken s base e a b f g = record {
    each = λ env h. lift (value env e) (λ n. fits_kind Int Lp64 n ≡ true → Holds a (set env base n)) (λ n. fits_kind Int Lp64 n ≡ true → Holds b (set env base n))
        (λ n k fits. g.each (set env base n) (k fits)) (f.each env h);
  }

  branch_false_weaken : (s : Spot Row Holds) (e : Expr) (a b : Row) → IsBranch Row Holds s e false a → Below Row Holds a b → IsBranch Row Holds s e false b
  branch_false_weaken s e a b f g = record {
    each = λ env h. lift (value env e) (λ n. is_true n ≡ false → Holds a env) (λ n. is_true n ≡ false → Holds b env) (λ n k is. g.each env (k is)) (f.each env h);
  }

  mutual
    -- a flow goes on to every larger row
    pub weaken : (stmt : Stmt) (spots : List (Spot Row Holds)) (before a b : Row) → Flow Row Holds stmt spots before a → Below Row Holds a b → Flow Row Holds stmt spots before b
    weaken (Assign target sum) [] before a b f g = absurd f
    weaken (Assign target sum) (s ∷ []) before a b f g = (f.0, f.1, assigned_weaken s target.0 (sum_expr sum) a b f.2 g)
    weaken (Assign target sum) (s ∷ t ∷ spots) before a b f g = absurd f
    weaken (Return sum) [] before a b f g = absurd f
    weaken (Return sum) (s ∷ []) before a b f g = f
    weaken (Return sum) (s ∷ t ∷ spots) before a b f g = absurd f
    weaken (If test then other) [] before a b f g = absurd f
    weaken (If test then other) (s ∷ spots) before a b f g =
        (f.0, f.1, (f.2.0, f.2.1, f.2.2, f.2.3, f.2.4, f.2.5, f.2.6, f.2.7, below_trans f.2.2 a b f.2.8 g, below_trans f.2.3 a b f.2.9 g))
    weaken (While test body) [] before a b f g = absurd f
    weaken (While test body) (s ∷ spots) before a b f g =
        (f.0, f.1, (f.2.0, f.2.1, f.2.2, branch_false_weaken s (test_expr test) a b f.2.3 g, f.2.4, f.2.5))
    weaken (Block stmts) spots before a b f g = weaken_all stmts spots before a b f g
    weaken Nothing [] before a b f g = below_trans before a b f g
    weaken Nothing (s ∷ spots) before a b f g = absurd f

    pub weaken_all : (stmts : Stmts) (spots : List (Spot Row Holds)) (before a b : Row) → FlowAll Row Holds stmts spots before a → Below Row Holds a b → FlowAll Row Holds stmts spots before b
    weaken_all Done [] before a b f g = below_trans before a b f g
    weaken_all Done (s ∷ spots) before a b f g = absurd f
    weaken_all (Next stmt more) spots before a b f g = (f.0, f.1, weaken_all more (drop (count stmt) spots) f.0 a b f.2 g)

pub list_next : (s : Stmt) (more : Stmts) (seg rest : List PlaceSpot) (before middle after : Reached) → length seg ≡ count s → Flow Reached HoldsReached s seg before middle →
    FlowAll Reached HoldsReached more rest middle after → FlowAll Reached HoldsReached (Next s more) (seg ++ rest) before after
list_next s more seg rest before middle after long f g = rw (← long) (
  middle,
  rw (take-append_seam seg rest) f,
  rw (drop-append_seam seg rest) g,
)

pub arm_next : (test : Test) (body more : Stmt) (seg rest : List PlaceSpot) (before left other right after : Reached) → length seg ≡ suc (count body) →
    ArmFlow test body seg before left other → Flow Reached HoldsReached more rest other right → Below Reached HoldsReached left after → Below Reached HoldsReached right after →
    Flow Reached HoldsReached (If test body more) (seg ++ rest) before after
arm_next test body more [] rest before left other right after long f g l r = absurd f
arm_next test body more (s ∷ spots) rest before left other right after long f g l r =
    let same : length spots ≡ count body = omega arith in
    rw (← same) (f.0, f.1, (f.2.0, other, left, right, f.2.1, f.2.2, rw (take-append_seam spots rest) f.2.3, rw (drop-append_seam spots rest) g, l, r))
