-- Where jumps lead: labels, the labels of a `switch`, and what can be left (C11 6.8.1, 6.8.4.2, 6.8.6).
use Rattle.std.specs.Prelude.{ℕ, Bool, true, false, cond, ◌&&◌, List, [], ◌∷◌, ◌++◌, Contains, ℤ, Option, None, Some, IsTrue, ◌≡◌, ◌≢◌}
use Rattle.std.specs.List.{AllByRecursion}
use Rattle.c_program.specs.Syntax.{Head, Stmt, Expression, Return, If, While, Block, Nothing, Empty, ReturnNothing, DoWhile, For, Switch, Case, Label, Goto, Break, Continue, Initialise, Assert, Stmts, Done, Next, Function}

-- the labels that a jump to the block of the statement can lead to: those of blocks inside can't be jumped to from outside
abbrev mutual
  pub labels_of : Stmt → List (List ℕ)
  labels_of (If id e s t) = labels_of s ++ labels_of t
  labels_of (While id e s) = labels_of s
  labels_of (DoWhile h s) = labels_of s
  labels_of (For h s) = labels_of s
  labels_of (Switch id e s) = labels_of s
  labels_of (Case value s) = labels_of s
  labels_of (Label name s) = name ∷ labels_of s
  labels_of s = []

  pub labels_in : Stmts → List (List ℕ)
  labels_in Done = []
  labels_in (Next s more) = labels_of s ++ labels_in more

-- all labels, also of blocks inside
abbrev mutual
  pub all_labels_of : Stmt → List (List ℕ)
  all_labels_of (If id e s t) = all_labels_of s ++ all_labels_of t
  all_labels_of (While id e s) = all_labels_of s
  all_labels_of (Block bases stmts) = all_labels_in stmts
  all_labels_of (DoWhile h s) = all_labels_of s
  all_labels_of (For h s) = all_labels_of s
  all_labels_of (Switch id e s) = all_labels_of s
  all_labels_of (Case value s) = all_labels_of s
  all_labels_of (Label name s) = name ∷ all_labels_of s
  all_labels_of s = []

  pub all_labels_in : Stmts → List (List ℕ)
  all_labels_in Done = []
  all_labels_in (Next s more) = all_labels_of s ++ all_labels_in more

-- no two elements are the same
abbrev pub AreDifferent : {A : Type 0} → List A → Type 0
AreDifferent [] = Unit {0}
AreDifferent (a ∷ more) = AllByRecursion (λ b. a ≢ b) more × AreDifferent more

-- what stands around a statement: the labels of the blocks around it, and whether a loop and whether a loop or `switch` can be left
pub record Around : Type 0 where
  pub labels : List (List ℕ)
  pub in_loop : Bool
  pub breakable : Bool

abbrev pub looping : Around → Around
looping a = record a { in_loop = true; breakable = true }

abbrev pub switching : Around → Around
switching a = record a { breakable = true }

abbrev pub within_block : Stmts → Around → Around
within_block stmts a = record a { labels = labels_in stmts ++ a.labels }

-- the values of the labels that belong to a `switch` with this block
abbrev mutual
  pub cases_of : Stmt → List (Option ℤ)
  cases_of (Case value s) = value ∷ cases_of s
  cases_of (Label name s) = cases_of s
  cases_of s = []

  pub cases_in : Stmts → List (Option ℤ)
  cases_in Done = []
  cases_in (Next s more) = cases_of s ++ cases_in more

-- Each jump has where it leads: a `goto` a label of a block around it, `break` and `continue` what they leave. A `case` stands, with nothing
-- but labels before it, directly in the block of its `switch`, where `labelled` says that this is such a place.
abbrev mutual
  pub Flows : Around → Bool → Stmt → Type 0
  Flows a labelled (If id e s t) = Flows a false s × Flows a false t
  Flows a labelled (While id e s) = Flows (looping a) false s
  Flows a labelled (Block bases stmts) = AllFlow (within_block stmts a) false stmts
  Flows a labelled (DoWhile h s) = Flows (looping a) false s
  Flows a labelled (For h s) = Flows (looping a) false s
  Flows a labelled (Switch id e s) = FlowsInSwitch (switching a) s
  Flows a labelled (Case value s) = IsTrue labelled × Flows a labelled s
  Flows a labelled (Label name s) = Flows a labelled s
  Flows a labelled (Goto id name) = Contains a.labels name
  Flows a labelled (Break id) = IsTrue a.breakable
  Flows a labelled (Continue id) = IsTrue a.in_loop
  Flows a labelled s = Unit {0}

  pub FlowsInSwitch : Around → Stmt → Type 0
  FlowsInSwitch a (If id e s t) = Flows a false s × Flows a false t
  FlowsInSwitch a (While id e s) = Flows (looping a) false s
  FlowsInSwitch a (Block bases stmts) = AreDifferent (cases_in stmts) × AllFlow (within_block stmts a) true stmts
  FlowsInSwitch a (DoWhile h s) = Flows (looping a) false s
  FlowsInSwitch a (For h s) = Flows (looping a) false s
  FlowsInSwitch a (Switch id e s) = FlowsInSwitch (switching a) s
  FlowsInSwitch a (Case value s) = ⊥
  FlowsInSwitch a (Label name s) = FlowsInSwitch a s
  FlowsInSwitch a (Goto id name) = Contains a.labels name
  FlowsInSwitch a (Break id) = IsTrue a.breakable
  FlowsInSwitch a (Continue id) = IsTrue a.in_loop
  FlowsInSwitch a s = Unit {0}

  pub AllFlow : Around → Bool → Stmts → Type 0
  AllFlow a labelled Done = Unit {0}
  AllFlow a labelled (Next s more) = Flows a labelled s × AllFlow a labelled more

abbrev pub outermost : Around
outermost = record { labels = []; in_loop = false; breakable = false }

-- a function's labels are different, and its jumps have where they lead
pub record IsFlowing (f : Function) : Type 0 where
  pub different : AreDifferent (all_labels_in f.body)
  pub leads : AllFlow (within_block f.body outermost) false f.body
