use Rattle.std.proofs.Common.{◌≡◌, [], length}
use Rattle.c_tree.specs.Views.{specifier_tree, specifiers_of}
use Rattle.c_tree.specs.WellFormed.{before_end, Untyped}
use Rattle.c_parse_base.specs.KnownNames.{kept}
use Rattle.c_parse_rules.specs.Parsers.{specifier_at}
use Rattle.c_parse_base.specs.Purposes.{before_of, purpose_of}
use Rattle.c_parse_attributes.specs.TypesAtDepth.{all_specifiers, specifiers_from}
use Rattle.c_parse_base.proofs.code.Loops.{Midst}
use Rattle.c_parse_members.proofs.specified.specifiers_below.Given as goal

abbrev pub invariant-reading : goal.invariant-reading
invariant-reading g l =
    (kept l.names ≡ kept l.initial.names)
    × Midst specifier_tree (specifiers_from (g.B.Below.depth l.below) (specifier_at (g.B.Below.depth l.below)) (purpose_of l.purpose))
    (all_specifiers (g.B.Below.depth l.below) (specifier_at (g.B.Below.depth l.below)) (purpose_of l.purpose) l.initial.names.names l.tokens)
    l.initial.names.names [] l.tokens l.found.items l.height l.names.names l.rest
    × (before_of l.before ≡ before_end Untyped (specifiers_of l.found.items))

abbrev pub decreases-reading : goal.decreases-reading
decreases-reading g l = length l.rest
