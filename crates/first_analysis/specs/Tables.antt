-- The spots of the code's places.
use Rattle.std.specs.Prelude.{ℕ, ◌≡◌, true, false, cond, IsTrue, ℤ, Option, Result, Ok, Err, None, Some, List, [], ◌∷◌, ◌++◌, length, map}
use Rattle.c_base.specs.declared.kind.Kind.{Kind}
use Rattle.c_program.specs.Syntax.{Expr}
use Rattle.first_program.specs.Source.{Test}
use Rattle.first_program.specs.declared.tree.Arm.{Arm as CodeArm}
use Rattle.first_program.specs.declared.tree.Stmt.{Stmt as CodeStmt}
use Rattle.first_program.specs.declared.tree.Stmt.TheFolds.{fold-Arm}
use Rattle.first_program.specs.Source.{Stmt, Nothing, Stmts, Program, count_all}
use Rattle.first_program.specs.SourceViews.{tree_of, ladder, stmt_step, arm_step}
use Rattle.first_program.specs.Meaning.{test_expr}
use Rattle.first_analysis.specs.Evaluation.{Env, is_true}
use Rattle.first_analysis.specs.declared.place.Place.{Place}
use Rattle.first_analysis.specs.declared.place.Split.{Split}
use Rattle.first_analysis.specs.Contents.{Row, HoldsReached}
use Rattle.first_analysis.specs.Values.{has_kind}
use Rattle.first_analysis.specs.Flow.{Spot, Below, IsAlarmed, IsAssigned, IsBranch, Flow, FlowAll}

abbrev pub Reached : Type 0
Reached = Option Row

abbrev pub PlaceSpot : Type 0
PlaceSpot = Spot Reached HoldsReached

abbrev pub spot_of : Place → PlaceSpot
spot_of p = record { row = p.row; alarms = has_kind p.kinds }

-- the second row has all memories of the first
abbrev pub Rises : Reached → Reached → Type 0
Rises a b = Below Reached HoldsReached a b

abbrev pub AlarmsAt : Place → Expr → Type 0
AlarmsAt p e = IsAlarmed Reached HoldsReached (spot_of p) e

abbrev pub AssignsAt : Place → ℕ → Expr → Reached → Type 0
AssignsAt p base e after = IsAssigned Reached HoldsReached (spot_of p) base e after

abbrev pub BranchesAt : Place → Expr → Reached → Reached → Type 0
BranchesAt p e when_true when_false = IsBranch Reached HoldsReached (spot_of p) e true when_true × IsBranch Reached HoldsReached (spot_of p) e false when_false

-- what a test that gives this leads to
abbrev pub SplitsTo : Split → Env → Result ℤ Kind → Type 0
SplitsTo s env (Ok n) = HoldsReached (cond (is_true n) s.branches.when_true s.branches.when_false) env
SplitsTo s env (Err kind) = IsTrue (has_kind s.kinds kind)

abbrev pub Flows : Stmt → List Place → Reached → Reached → Type 0
Flows s places before after = Flow Reached HoldsReached s (map spot_of places) before after

abbrev pub FlowsAll : Stmts → List Place → Reached → Reached → Type 0
FlowsAll s places before after = FlowAll Reached HoldsReached s (map spot_of places) before after

-- the test and the body of one `if` of a ladder
abbrev pub arm_of : CodeArm → Test × Stmt
arm_of = fold-Arm Stmt (Test × Stmt) stmt_step arm_step

abbrev pub last_of : Option CodeStmt → Stmt
last_of None = Nothing
last_of (Some s) = tree_of s

-- the ladder of these arms
abbrev pub choice : List CodeArm → Stmt → Stmt
choice arms last = ladder (map arm_of arms) last

-- From `before` through one `if` of a ladder: `left` is behind its body, `other` is where its test is false.
abbrev pub ArmFlow : Test → Stmt → List PlaceSpot → Reached → Reached → Reached → Type 0
ArmFlow test body [] before left other = ⊥
ArmFlow test body (s ∷ spots) before left other =
    Below Reached HoldsReached before s.row × IsAlarmed Reached HoldsReached s (test_expr test)
    × ((turn : Reached) × IsBranch Reached HoldsReached s (test_expr test) true turn × IsBranch Reached HoldsReached s (test_expr test) false other
    × Flow Reached HoldsReached body spots turn left)

abbrev pub ArmFlows : Test → Stmt → List Place → Reached → Reached → Reached → Type 0
ArmFlows test body places before left other = ArmFlow test body (map spot_of places) before left other

-- From `before` through the tests and branches of a ladder: `state` is where all tests are false, and `out` has what the branches lead to.
abbrev pub LadderFlows : List CodeArm → List Place → Reached → Reached → Reached → Type 0
LadderFlows arms places before state out =
    (last : Stmt) (rest : List PlaceSpot) (right after : Reached) → Flow Reached HoldsReached last rest state right → Rises out after → Rises right after →
    Flow Reached HoldsReached (choice arms last) (map spot_of places ++ rest) before after

-- the places of statements and of the closing brace behind them, through which the start flows
pub record IsTable (stmts : Stmts) (start : Reached) (places : List Place) : Type 0 where
  pub inner : List Place
  pub last : Place
  pub after : Reached
  pub whole : places ≡ inner ++ last ∷ []
  pub many : length inner ≡ count_all stmts
  pub flows : FlowsAll stmts inner start after
  pub ends : Rises after last.row

-- the places of a program, from the memory in which nothing is written yet
pub record IsAnalysis (p : Program) (places : List Place) : Type 0 where
  pub start : Reached
  pub begins : HoldsReached start (λ base. None)
  pub table : IsTable p.body start places
