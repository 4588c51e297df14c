-- What searches for labels find.
use Rattle.std.specs.Prelude.{ℕ, suc, ◌+◌, ◌<◌, ◌≡◌, length, ℤ, true, List, ◌∷◌, map, drop, Option, None, Some, option_map, unwrap_or, slice_get}
use Rattle.c_program.specs.Syntax.{Stmt, Nothing, Stmts}
use Rattle.c_program.specs.Views.{stmt_of, listed}
use Rattle.c_typed_expr.specs.declared.expr.TExpr.{TExpr}
use Rattle.c_typed_stmt.specs.declared.init.TInit.{TInit}
use Rattle.c_typed_stmt.specs.declared.stmt.TStmt.{TStmt}
use Rattle.stepper_jumps.specs.Searches.{labelled}
use Rattle.stepper_jumps.specs.declared.cases.Found.{Found}
use Rattle.c_typed_term.specs.declared.predicate.TPred.{TPred}
use Rattle.c_machine.specs.Jumps.{Entry, at_label, at_label_in, at_case_in, first_some, entry_at}
use Rattle.c_machine.specs.Work.{Work, Do, Close, Switched, queued}

-- the statements from number n on
abbrev pub listed_from : ℕ → List (TStmt TExpr TInit TPred) → Stmts
listed_from n stmts = listed (map stmt_of (drop n stmts))

-- the work behind a `case` that was found, whose statement is the body
abbrev pub case_work : Option (TStmt TExpr TInit TPred) → List Work → Option (List Work)
case_work None rest = None
case_work (Some body) rest = Some (Do (stmt_of body) ∷ rest)

-- the work behind a `case` that was found at a place in a list of statements
abbrev pub case_work_in : List (TStmt TExpr TInit TPred) → Option Found → List Work → Option (List Work)
case_work_in stmts None rest = None
case_work_in stmts (Some found) rest = Some (Do (stmt_of found.body.now) ∷ queued (listed_from (suc found.n) stmts) rest)

-- what a `switch` enters in a block, from the `case` of the value on, or from `default` on
abbrev pub selected_in : ℤ → List ℕ → Stmts → List Work → Option Entry
selected_in n bases stmts rest =
    entry_at bases (first_some (at_case_in (Some n) stmts (Close bases stmts ∷ Switched ∷ rest)) (at_case_in None stmts (Close bases stmts ∷ Switched ∷ rest)))

abbrev pub stmt_at : List (TStmt TExpr TInit TPred) → ℕ → Stmt
stmt_at stmts n = unwrap_or (option_map stmt_of (slice_get stmts n)) Nothing

-- the label stands in the statement with this number, and in none before it; or in none
abbrev pub IsPlace : List ℕ → List (TStmt TExpr TInit TPred) → Option ℕ → Type 0
IsPlace name stmts None = (rest : List Work) → at_label_in name (listed_from 0 stmts) rest ≡ None
IsPlace name stmts (Some n) =
    ((rest : List Work) → at_label_in name (listed_from 0 stmts) rest ≡ at_label name (stmt_at stmts n) (queued (listed_from (n + 1) stmts) rest))
    × (labelled name (stmt_at stmts n) ≡ true)
    × (n < length stmts)
