-- Statements from a number on, by the first of them.
use Rattle.std.proofs.Common.{◌≡◌, ◌∙◌, ap, ℤ, Option, None, true, false, ℕ, zero, suc, ◌+◌, ◌-◌, ◌<◌, ◌≤◌, List, [], ◌∷◌, drop, map, length, refl, sym, subst, arith}
use Rattle.c_typed_expr.specs.declared.expr.TExpr.{TExpr}
use Rattle.c_typed_stmt.specs.declared.init.TInit.{TInit}
use Rattle.c_typed_stmt.specs.declared.stmt.TStmt.{TStmt}
use Rattle.c_typed_term.specs.declared.predicate.TPred.{TPred}
use Rattle.c_program.specs.Syntax.{Stmts, Done, Next}
use Rattle.c_machine.specs.Work.{Work, Do, queued}
use Rattle.c_machine.specs.Jumps.{at_label, at_label_in, at_case, at_case_in, first_some}
use Rattle.stepper_jumps.proofs.Firsts.{first_has, first_lacks, labelled_is}
use Rattle.stepper_jumps.specs.Found.{listed_from, stmt_at}
use Rattle.stepper_jumps.specs.Searches.{labelled}

pub listed_at : (stmts : List (TStmt TExpr TInit TPred)) (n : ℕ) → n < length stmts → listed_from n stmts ≡ Next (stmt_at stmts n) (listed_from (n + 1) stmts)
listed_at [] n h = absurd (omega arith)
listed_at (s ∷ stmts) zero h = refl
listed_at (s ∷ stmts) (suc n) h =
    let next : suc n + 1 ≡ suc (n + 1) = omega arith in
    rw next (listed_at stmts n (omega arith))

pub listed_none : (stmts : List (TStmt TExpr TInit TPred)) (n : ℕ) → length stmts ≤ n → listed_from n stmts ≡ Done
listed_none [] zero h = refl
listed_none [] (suc n) h = refl
listed_none (s ∷ stmts) zero h = absurd (omega arith)
listed_none (s ∷ stmts) (suc n) h = listed_none stmts n (omega arith)

-- the work of the statements from number n on, with one more before
pub queued_before : (stmts : List (TStmt TExpr TInit TPred)) (n : ℕ) (rest : List Work) → 0 < n → n ≤ length stmts →
    Do (stmt_at stmts (n - 1)) ∷ queued (listed_from n stmts) rest ≡ queued (listed_from (n - 1) stmts) rest
queued_before stmts zero rest some h = absurd (omega arith)
queued_before stmts (suc n) rest some h =
    let below : suc n - 1 ≡ n = omega arith in
    let next : n + 1 ≡ suc n = omega arith in
    rw below (sym (subst (λ k. queued (listed_from n stmts) rest ≡ Do (stmt_at stmts n) ∷ queued (listed_from k stmts) rest) next (rw (listed_at stmts n (omega arith)) refl)))

-- the first of the statements has the label, or the search goes on with the others
pub at_first : (name : List ℕ) (stmts : List (TStmt TExpr TInit TPred)) (n : ℕ) (rest : List Work) → n < length stmts → labelled name (stmt_at stmts n) ≡ true →
    at_label_in name (listed_from n stmts) rest ≡ at_label name (stmt_at stmts n) (queued (listed_from (n + 1) stmts) rest)
at_first name stmts n rest h is =
    ap (λ all. at_label_in name all rest) (listed_at stmts n h)
    ∙ first_has _ (at_label_in name (listed_from (n + 1) stmts) rest) (labelled_is name (stmt_at stmts n) (queued (listed_from (n + 1) stmts) rest) ∙ is)

pub at_others : (name : List ℕ) (stmts : List (TStmt TExpr TInit TPred)) (n : ℕ) (rest : List Work) → n < length stmts → labelled name (stmt_at stmts n) ≡ false →
    at_label_in name (listed_from n stmts) rest ≡ at_label_in name (listed_from (n + 1) stmts) rest
at_others name stmts n rest h is =
    ap (λ all. at_label_in name all rest) (listed_at stmts n h)
    ∙ first_lacks _ (at_label_in name (listed_from (n + 1) stmts) rest) (labelled_is name (stmt_at stmts n) (queued (listed_from (n + 1) stmts) rest) ∙ is)

pub case_first : (value : Option ℤ) (stmts : List (TStmt TExpr TInit TPred)) (n : ℕ) (rest : List Work) → n < length stmts →
    at_case_in value (listed_from n stmts) rest
    ≡ first_some (at_case value (stmt_at stmts n) (queued (listed_from (n + 1) stmts) rest)) (at_case_in value (listed_from (n + 1) stmts) rest)
case_first value stmts n rest h = ap (λ all. at_case_in value all rest) (listed_at stmts n h)

pub case_others : (value : Option ℤ) (stmts : List (TStmt TExpr TInit TPred)) (n : ℕ) (rest : List Work) → n < length stmts →
    ((more : List Work) → at_case value (stmt_at stmts n) more ≡ None) → at_case_in value (listed_from n stmts) rest ≡ at_case_in value (listed_from (n + 1) stmts) rest
case_others value stmts n rest h none =
    case_first value stmts n rest h ∙ ap (λ a. first_some a (at_case_in value (listed_from (n + 1) stmts) rest)) (none (queued (listed_from (n + 1) stmts) rest))
