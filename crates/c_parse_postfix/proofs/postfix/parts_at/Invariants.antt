use Rattle.std.proofs.Common.{◌≡◌, [], length}
use Rattle.c_tree.specs.Views.{part_tree}
use Rattle.c_parse_postfix.specs.AtDepth.{parts, all_parts}
use Rattle.c_parse_base.specs.KnownNames.{kept}
use Rattle.c_parse_base.proofs.code.Loops.{Midst}
use Rattle.c_parse_postfix.proofs.postfix.parts_at.Given as goal

abbrev pub invariant-reading : goal.invariant-reading
invariant-reading g l =
    (kept l.names ≡ kept l.initial.names)
    × Midst part_tree (parts (g.B.Below.depth l.below)) (all_parts (g.B.Below.depth l.below) l.initial.names.names l.tokens)
    l.initial.names.names [] l.tokens l.found.items l.height l.names.names l.rest

abbrev pub decreases-reading : goal.decreases-reading
decreases-reading g l = length l.rest
