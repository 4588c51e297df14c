use Rattle.std.proofs.Common.{◌≡◌, length, map}
use Rattle.c_tree.specs.Views.{enumerator_tree}
use Rattle.c_parse_base.specs.KnownNames.{kept}
use Rattle.c_parse_attributes.specs.TypesAtDepth.{all_enumerators, enumerators}
use Rattle.c_parse_base.proofs.code.Loops.{Midst}
use Rattle.c_parse_members.proofs.enums.more_enumerators.Given as goal

abbrev pub invariant-reading : goal.invariant-reading
invariant-reading g l =
    (kept l.names ≡ kept l.initial.names)
    × Midst enumerator_tree (enumerators (g.B.Below.depth l.below)) (all_enumerators (g.B.Below.depth l.below) (map enumerator_tree l.initial.found.items) l.initial.names.names l.tokens)
    l.initial.names.names l.initial.found.items l.tokens l.found.items l.height l.names.names l.rest

abbrev pub decreases-reading : goal.decreases-reading
decreases-reading g l = length l.rest
