use Rattle.std.proofs.Common.{◌≡◌, ◌≤◌}
use Rattle.c_tree.specs.Nesting.{nest}
use Rattle.c_tree.specs.Views.{tree_of}
use Rattle.c_tree.specs.WellFormed.{Names, after}
use Rattle.c_parse_base.specs.Heights.{capped}
use Rattle.c_parse_base.specs.KnownNames.{kept}
use Rattle.c_parse_operators.proofs.code.Levels.{MidRuns}
use Rattle.c_parse_operators.proofs.runs.runs.Given as goal

abbrev pub invariant-growing : goal.invariant-growing
invariant-growing g l =
    (kept l.names ≡ kept l.initial.names) × (l.left ≤ 10) × (l.grown.height ≡ capped (nest (tree_of l.grown.tree)))
    × ((before : Names) → l.initial.names.names ≡ after before (tree_of l.initial.grown.tree) →
    MidRuns (g.B.Below.depth l.below) l.least l.span l.initial.grown before l.grown l.names.names l.left)

abbrev pub decreases-growing : goal.decreases-growing
decreases-growing g l = l.left
