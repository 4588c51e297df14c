use Rattle.std.proofs.Common.{◌+◌, length}
use Rattle.run_joins.specs.Joining.{rest, Open}
use Rattle.run_joins.proofs.Opening.{IsPart}
use Rattle.run_joins.proofs.step.gather.Given as goal

abbrev pub invariant-loop-alloc : goal.invariant-loop-alloc
invariant-loop-alloc g l = record {
  open_at : Open g.C.Cells.ops (g.M.Merge.merged l.merge) l.a l.initial.i l.i l.b l.initial.j l.j l.p.items l.q.items l.left l.right;
  first : IsPart g.C.Cells.fine l.p.items;
  second : IsPart g.C.Cells.fine l.q.items;
}

abbrev pub decreases-loop-alloc : goal.decreases-loop-alloc
decreases-loop-alloc g l = length (rest l.a l.i) + length (rest l.b l.j)
