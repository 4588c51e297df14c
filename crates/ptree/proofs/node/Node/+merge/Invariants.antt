use Rattle.std.specs.Prelude.{max}
use Rattle.ptree.specs.Node.{part_top}
use Rattle.ptree.proofs.node.Node.+merge.Given as goal

-- the sides of a fork differ in lower bits
abbrev pub decreases-merge : goal.decreases-merge
decreases-merge g l = max (part_top l.a) (part_top l.b)
