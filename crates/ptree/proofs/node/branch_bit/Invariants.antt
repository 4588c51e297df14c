use Rattle.std.proofs.Common.{◌≡◌, ◌<◌, ◌/◌, ◌^◌}
use Rattle.ptree.proofs.node.branch_bit.Given as goal

abbrev pub invariant-loop-a : goal.invariant-loop-a
invariant-loop-a l = (l.a ≡ l.low / 2 ^ l.bit) × (l.b ≡ l.high / 2 ^ l.bit) × (l.a < l.b)

abbrev pub decreases-loop-a : goal.decreases-loop-a
decreases-loop-a l = l.b
