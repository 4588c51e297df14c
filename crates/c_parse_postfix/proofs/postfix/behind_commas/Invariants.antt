use Rattle.std.proofs.Common.{◌≡◌, length, map}
use Rattle.c_tree.specs.Views.{tree_of}
use Rattle.c_parse_postfix.specs.AtDepth.{behind_commas, all_listed}
use Rattle.c_parse_base.specs.KnownNames.{kept}
use Rattle.c_parse_base.proofs.code.Loops.{Midst}
use Rattle.c_parse_postfix.proofs.postfix.behind_commas.Given as goal

abbrev pub invariant-reading : goal.invariant-reading
invariant-reading g l =
    (kept l.names ≡ kept l.initial.names)
    × Midst tree_of (behind_commas (g.B.Below.depth l.below)) (all_listed (g.B.Below.depth l.below) (map tree_of l.initial.found.items) l.initial.names.names l.tokens)
    l.initial.names.names l.initial.found.items l.tokens l.found.items l.height l.names.names l.rest

abbrev pub decreases-reading : goal.decreases-reading
decreases-reading g l = length l.rest
