use Rattle.std.proofs.Common.{◌≡◌, length}
use Rattle.c_tree.specs.Views.{suffix_tree}
use Rattle.c_parse_base.specs.KnownNames.{kept}
use Rattle.c_parse_attributes.specs.TypesAtDepth.{all_suffixes, suffixes}
use Rattle.c_parse_declarators.proofs.code.Stacks.{MidStack}
use Rattle.c_parse_declarators.proofs.suffixes.suffixes_at.Given as goal

abbrev pub invariant-reading : goal.invariant-reading
invariant-reading g l =
    (kept l.names ≡ kept l.initial.names)
    × MidStack suffix_tree (suffixes (g.B.Below.depth l.below)) (all_suffixes (g.B.Below.depth l.below) l.initial.names.names l.tokens)
    l.initial.names.names l.tokens l.found.items l.height l.count l.names.names l.rest

abbrev pub decreases-reading : goal.decreases-reading
decreases-reading g l = length l.rest
