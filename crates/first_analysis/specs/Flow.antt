-- When rows at the statements cover every way through them. Generic in the rows, and in what it is that a row holds.
use Rattle.std.specs.Prelude.{ℕ, ◌≡◌, Bool, true, false, IsTrue, List, [], ◌∷◌, take, drop, MatchResult}
use Rattle.c_base.specs.declared.kind.Kind.{Kind}
use Rattle.c_base.specs.declared.integer.IntKind.TheVariants.{Int}
use Rattle.c_base.specs.declared.integer.Machine.TheVariants.{Lp64}
use Rattle.c_base.specs.Integers.{fits_kind}
use Rattle.c_program.specs.Syntax.{Expr}
use Rattle.first_program.specs.Source.{Stmt, Assign, Return, If, While, Block, Nothing, Stmts, Done, Next, count}
use Rattle.first_program.specs.Meaning.{sum_expr, test_expr}
use Rattle.first_analysis.specs.Evaluation.{Env, set, value, is_true}

module _ (Row : Type 0) (Holds : Row → Env → Type 0) where
  -- what stands at a numbered statement: its row, and the kinds of its alarms
  pub record Spot : Type 0 where
    pub row : Row
    pub alarms : Kind → Bool

  -- whatever the first row holds, the second holds
  pub record Below (a b : Row) : Type 0 where
    pub each : (env : Env) → Holds a env → Holds b env

  -- an expression of the statement stops only with an alarm
  pub record IsAlarmed (s : Spot) (e : Expr) : Type 0 where
    pub each : (env : Env) → Holds s.row env → MatchResult (value env e) (λ n. Unit {0}) (λ kind. IsTrue (s.alarms kind))

  -- what holds behind an assignment
  pub record IsAssigned (s : Spot) (base : ℕ) (e : Expr) (after : Row) : Type 0 where
    pub each : (env : Env) → Holds s.row env → MatchResult (value env e) (λ n. fits_kind Int Lp64 n ≡ true → Holds after (set env base n)) (λ kind. Unit {0})

  -- what holds where a condition has this truth
  pub record IsBranch (s : Spot) (e : Expr) (truth : Bool) (after : Row) : Type 0 where
    pub each : (env : Env) → Holds s.row env → MatchResult (value env e) (λ n. is_true n ≡ truth → Holds after env) (λ kind. Unit {0})

  abbrev mutual
    -- From `before` to `after` through a statement, with the spots of its numbered statements in order.
    pub Flow : Stmt → List Spot → Row → Row → Type 0
    Flow (Assign target sum) (s ∷ []) before after =
        Below before s.row × IsAlarmed s (sum_expr sum) × IsAssigned s target.0 (sum_expr sum) after
    Flow (Return sum) (s ∷ []) before after = Below before s.row × IsAlarmed s (sum_expr sum)
    Flow (If test then other) (s ∷ spots) before after =
        Below before s.row × IsAlarmed s (test_expr test) × ((turn turned left right : Row) × IsBranch s (test_expr test) true turn
        × IsBranch s (test_expr test) false turned × Flow then (take (count then) spots) turn left × Flow other (drop (count then) spots) turned right
        × Below left after × Below right after)
    Flow (While test body) (s ∷ spots) before after =
        Below before s.row × IsAlarmed s (test_expr test)
        × ((turn back : Row) × IsBranch s (test_expr test) true turn × IsBranch s (test_expr test) false after × Flow body spots turn back
        × Below back s.row)
    Flow (Block stmts) spots before after = FlowAll stmts spots before after
    Flow Nothing [] before after = Below before after
    Flow s spots before after = ⊥

    pub FlowAll : Stmts → List Spot → Row → Row → Type 0
    FlowAll Done [] before after = Below before after
    FlowAll Done (s ∷ spots) before after = ⊥
    FlowAll (Next stmt more) spots before after =
        (middle : Row) × Flow stmt (take (count stmt) spots) before middle × FlowAll more (drop (count stmt) spots) middle after
