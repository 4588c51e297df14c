use Rattle.std.proofs.Common.{◌≡◌, [], length}
use Rattle.c_tree.specs.Views.{operand_tree}
use Rattle.c_parse_postfix.specs.AtDepth.{operands, all_operands}
use Rattle.c_parse_base.specs.KnownNames.{kept}
use Rattle.c_parse_base.proofs.code.Loops.{Midst}
use Rattle.c_parse_operators.proofs.runs.operands_at.Given as goal

abbrev pub invariant-reading : goal.invariant-reading
invariant-reading g l =
    (kept l.names ≡ kept l.initial.names)
    × Midst operand_tree (λ n. operands (g.B.Below.depth l.below) n l.level) (all_operands (g.B.Below.depth l.below) l.level l.initial.names.names l.tokens)
    l.initial.names.names [] l.tokens l.found.items l.height l.names.names l.rest

abbrev pub decreases-reading : goal.decreases-reading
decreases-reading g l = length l.rest
