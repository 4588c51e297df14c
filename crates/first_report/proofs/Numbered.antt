-- Each statement's line has its number, its place and its function's name.
use Rattle.std.proofs.Common.{◌≡◌, ℕ, zero, suc, ◌+◌, ◌<◌, ◌≤◌, List, [], ◌∷◌, ◌++◌, length, map, refl, sym, ap, ◌∙◌, inl, inr, arith}
use Rattle.std.specs.List.{AllByRecursion}
use Rattle.std.proofs.lemmas.Bool.Decides.{nat_tests}
use Rattle.std.specs.Prelude.{Bool, true, false, ◌==◌}
use Rattle.c_base.specs.declared.number.Span.{Span}
use Rattle.c_program.specs.Syntax.{numbers_from}
use Rattle.first_program.specs.Source.{Program, Stmt, Assign, Return, If, While, Block, Nothing, Stmts, Done, Next, count, count_all}
use Rattle.first_program.specs.Meaning.{stmt_of, stmts_of, main_of, meaning_of}
use Rattle.first_analysis.specs.declared.place.Place.{Place}
use Rattle.eva_claim.specs.Numbering.{IsIn, numbers_in, all_numbers, numbers_of}
use Rattle.eva_claim.specs.Claims.{IsNamedAfter, IsComplete, names_of}
use Rattle.first_report.specs.Rows.{lines_from, report_of}

from_append : (low m n : ℕ) → numbers_from low m ++ numbers_from (low + m) n ≡ numbers_from low (m + n)
from_append low zero n = let same : low + 0 ≡ low = omega arith in let none : 0 + n ≡ n = omega arith in rw (same, none) refl
from_append low (suc m) n =
    let same : low + suc m ≡ suc low + m = omega arith in let next : suc m + n ≡ suc (m + n) = omega arith in
    rw (same, next) (ap (λ ns. low ∷ ns) (from_append (suc low) m n))

-- statements are numbered one after the other
mutual
  pub stmt_numbers : (id : ℕ) (s : Stmt) → numbers_in (stmt_of id s) ≡ numbers_from id (count s)
  stmt_numbers id (Assign target value) = refl
  stmt_numbers id (Return value) = refl
  stmt_numbers id (If test s t) = rw (stmt_numbers (suc id) s, stmt_numbers (suc id + count s) t) (ap (λ ns. id ∷ ns) (from_append (suc id) (count s) (count t)))
  stmt_numbers id (While test s) = ap (λ ns. id ∷ ns) (stmt_numbers (suc id) s)
  stmt_numbers id (Block stmts) = stmts_numbers id stmts
  stmt_numbers id Nothing = refl

  pub stmts_numbers : (id : ℕ) (stmts : Stmts) → all_numbers (stmts_of id stmts) ≡ numbers_from id (count_all stmts)
  stmts_numbers id Done = refl
  stmts_numbers id (Next s more) = rw (stmt_numbers id s, stmts_numbers (id + count s) more) (from_append id (count s) (count_all more))

in_from : (k low n : ℕ) → low ≤ k → k < low + n → IsIn k (numbers_from low n)
in_from k low zero above below = absurd (omega arith)
in_from k low (suc n) above below = by_test (k == low) refl (λ more. in_from k (suc low) n more (omega arith))
  where
    by_test : (t : Bool) → (k == low) ≡ t → (suc low ≤ k → IsIn k (numbers_from (suc low) n)) → IsIn k (numbers_from low (suc n))
    by_test true e later = inl (grind (arith, nat_tests))
    by_test false e later = inr (later (grind (arith, nat_tests)))

main_numbers : (p : Program) → numbers_of (main_of p) ≡ numbers_from 1 (suc (count_all p.body))
main_numbers p =
    let n = count_all p.body in
    let one : 1 + n ≡ suc n = omega arith in
    let more : n + 1 ≡ suc n = omega arith in
    ap (λ ns. ns ++ suc n ∷ []) (stmts_numbers 1 p.body) ∙ ap (λ k. numbers_from 1 n ++ k ∷ []) (sym one) ∙ from_append 1 n 1 ∙ ap (numbers_from 1) more

in_main : (p : Program) (k : ℕ) → 1 ≤ k → k ≤ suc (count_all p.body) → IsIn k (numbers_of (main_of p))
in_main p k above below = rw (main_numbers p) (in_from k 1 (suc (count_all p.body)) above (omega arith))

-- every statement has its line
pub complete : (p : Program) (places : List Place) → length places ≡ length p.spans → length p.spans ≡ suc (count_all p.body) → IsComplete (meaning_of p) (report_of p places)
complete p places long all = record {
  numbers = ids 1 places p.spans long;
  places = spans_of 1 places p.spans long;
  functions = named 1 places p.spans (omega arith) (omega arith);
}
  where
    ids : (id : ℕ) (places : List Place) (spans : List Span) → length places ≡ length spans →
        map (λ line. line.id) (lines_from (names_of (meaning_of p)) (length p.variables) id places spans) ≡ numbers_from id (length spans)
    ids id [] [] e = refl
    ids id [] (span ∷ spans) e = absurd (omega arith)
    ids id (q ∷ places) [] e = absurd (omega arith)
    ids id (q ∷ places) (span ∷ spans) e = ap (λ more. id ∷ more) (ids (suc id) places spans (omega arith))

    spans_of : (id : ℕ) (places : List Place) (spans : List Span) → length places ≡ length spans →
        map (λ line. line.span) (lines_from (names_of (meaning_of p)) (length p.variables) id places spans) ≡ spans
    spans_of id [] [] e = refl
    spans_of id [] (span ∷ spans) e = absurd (omega arith)
    spans_of id (q ∷ places) [] e = absurd (omega arith)
    spans_of id (q ∷ places) (span ∷ spans) e = ap (λ more. span ∷ more) (spans_of (suc id) places spans (omega arith))

    named : (id : ℕ) (places : List Place) (spans : List Span) → 1 ≤ id → id + length places ≤ suc (suc (count_all p.body)) →
        AllByRecursion (IsNamedAfter (meaning_of p)) (lines_from (names_of (meaning_of p)) (length p.variables) id places spans)
    named id [] spans above below = tt
    named id (q ∷ places) [] above below = tt
    named id (q ∷ places) (span ∷ spans) above below = (
      record { function = main_of p; known = inl refl; stands = in_main p id above (omega arith); name = refl },
      named (suc id) places spans (omega arith) (omega arith),
    )
