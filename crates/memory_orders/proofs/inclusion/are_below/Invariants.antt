use Rattle.std.proofs.Common.{◌≡◌}
use Rattle.memory_orders.specs.Merging.{are_below as are_maps_below}
use Rattle.memory_orders.proofs.inclusion.are_below.Given as goal

abbrev pub invariant-loop-key : goal.invariant-loop-key
invariant-loop-key g l =
    (goal.iterator-loop-key g).can_next l.key-iterator
    × (goal.iterator-loop-key g).is_finite l.key-iterator
    × (are_maps_below g.C.Cells.ops l.key-iterator l.second ≡ are_maps_below g.C.Cells.ops l.first l.second)
