use Rattle.std.proofs.Common.{◌≡◌, length, map}
use Rattle.c_tree.specs.Views.{type_name_tree}
use Rattle.c_parse_base.specs.KnownNames.{kept}
use Rattle.c_parse_attributes.specs.TypesAtDepth.{all_parameters, parameters}
use Rattle.c_parse_declarators.proofs.code.Declaring.{MidListed}
use Rattle.c_parse_declarators.proofs.suffixes.more_parameters.Given as goal

abbrev pub invariant-reading : goal.invariant-reading
invariant-reading g l =
    (kept l.names ≡ kept l.initial.names)
    × MidListed type_name_tree (parameters (g.B.Below.depth l.below)) (all_parameters (g.B.Below.depth l.below) (map type_name_tree l.initial.found.items) l.initial.names.names l.tokens)
    l.tokens l.found.items l.height l.names.names l.rest

abbrev pub decreases-reading : goal.decreases-reading
decreases-reading g l = length l.rest
