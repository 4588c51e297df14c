use Rattle.std.proofs.Common.{◌≡◌, length, map}
use Rattle.c_tree.specs.Views.{field_tree}
use Rattle.c_parse_base.specs.KnownNames.{kept}
use Rattle.c_parse_base.specs.Purposes.{before_of}
use Rattle.c_parse_attributes.specs.TypesAtDepth.{all_fields, fields}
use Rattle.c_parse_base.proofs.code.Loops.{Midst}
use Rattle.c_parse_members.proofs.members.more_fields.Given as goal

abbrev pub invariant-reading : goal.invariant-reading
invariant-reading g l =
    (kept l.names ≡ kept l.initial.names)
    × Midst field_tree (λ n. fields (g.B.Below.depth l.below) n (before_of l.before)) (all_fields (g.B.Below.depth l.below) (before_of l.before) (map field_tree l.initial.found.items) l.initial.names.names l.tokens)
    l.initial.names.names l.initial.found.items l.tokens l.found.items l.height l.names.names l.rest

abbrev pub decreases-reading : goal.decreases-reading
decreases-reading g l = length l.rest
