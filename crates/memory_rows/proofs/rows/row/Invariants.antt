use Rattle.std.specs.Prelude.{map}
use Rattle.map_rows.specs.Entries.{plain_entry}
use Rattle.memory_rows.proofs.Gathering.{Gathers}
use Rattle.memory_rows.proofs.rows.row.Given as goal

abbrev pub invariant-loop-key : goal.invariant-loop-key
invariant-loop-key g l =
    (goal.iterator-loop-key g).can_next l.key-iterator
    × (goal.iterator-loop-key g).is_finite l.key-iterator
    × Gathers (g.P.Shown.shown l.shown) l.memory.0 l.key-iterator (map plain_entry l.all)
