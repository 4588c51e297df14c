-- Runs, level by level.
use Rattle.std.proofs.Common.{◌≡◌, ℕ, zero, suc, ◌+◌, ◌-◌, ◌<◌, ◌≤◌, nat_le, cond, List, [], ◌∷◌, length, refl, sym, ◌∙◌, arith}
use Rattle.c_base.specs.declared.number.Span.{Span}
use Rattle.c_tree.specs.Nesting.{nest}
use Rattle.c_tree.specs.Views.{tree_of}
use Rattle.c_tree.specs.WellFormed.{Names, after}
use Rattle.c_tree.specs.declared.tree.Expr.{Expr}
use Rattle.c_parse_postfix.specs.AtDepth.{run_at, runs}
use Rattle.c_parse_base.specs.Heights.{capped}
use Rattle.c_parse_base.specs.Reads.{found_of, IsGrown}
use Rattle.c_parse_rules.specs.Rules.{Found, levels}
use Rattle.c_parse_base.specs.declared.found.Found.{Found as CodeFound}

-- so many levels that are left, from the tightest of them
abbrev pub levels_down : ℕ → List ℕ
levels_down zero = []
levels_down (suc n) = (suc n + 2) ∷ levels_down n

pub record MidRuns (d least : ℕ) (span : Span) (first : CodeFound Expr) (before : Names) (grown : CodeFound Expr) (known : Names) (left : ℕ) : Type 0 where
  pub same : runs d levels least span before (found_of tree_of first) ≡ runs d (levels_down left) least span before (found_of tree_of grown)
  pub names : known ≡ after before (tree_of grown.tree)
  pub shorter : length grown.rest.now ≤ length first.rest.now

pub runs_begin : (d least : ℕ) (span : Span) (first : CodeFound Expr) (before known : Names) → known ≡ after before (tree_of first.tree) →
    MidRuns d least span first before first known 10
runs_begin d least span first before known e = record { same = refl; names = e; shorter = omega arith }

-- what the next level makes of what is found
abbrev pub at_level : ℕ → ℕ → ℕ → Span → Names → Found → Found
at_level d level least span before f = cond (nat_le least level) (run_at d level span before f) f

one_level : (d least n : ℕ) (span : Span) (before : Names) (f g : Found) → g ≡ at_level d (suc n + 2) least span before f →
    runs d (levels_down (suc n)) least span before f ≡ runs d (levels_down n) least span before g
one_level d least n span before f g same = rw same refl

pub run_on : (d least left : ℕ) (span : Span) (first grown grown' : CodeFound Expr) (before known known' : Names) → 0 < left →
    MidRuns d least span first before grown known left →
    (known ≡ after before (tree_of grown.tree) → IsGrown tree_of tree_of (at_level d (left + 2) least span before (found_of tree_of grown)) before known' grown grown') →
    MidRuns d least span first before grown' known' (left - 1)
run_on d least zero span first grown grown' before known known' some m grows = absurd (omega arith)
run_on d least (suc n) span first grown grown' before known known' some m grows =
    let g = grows m.names in
    let e : suc n - 1 ≡ n = omega arith in
    let short : length grown.rest.now ≤ length first.rest.now = m.shorter in
    let shorter : length grown'.rest.now ≤ length grown.rest.now = g.shorter in
    rw e (record { same = m.same ∙ one_level d least n span before (found_of tree_of grown) (found_of tree_of grown') g.same; names = g.names; shorter = omega arith })

pub runs_end : (d least : ℕ) (span : Span) (first grown : CodeFound Expr) (before known : Names) → grown.height ≡ capped (nest (tree_of grown.tree)) →
    MidRuns d least span first before grown known 0 → IsGrown tree_of tree_of (runs d levels least span before (found_of tree_of first)) before known first grown
runs_end d least span first grown before known high m = record { same = sym m.same; height = high; names = m.names; shorter = m.shorter }
