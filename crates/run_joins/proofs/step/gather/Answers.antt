use Rattle.std.proofs.Common.{ap, arith}
use Rattle.cell_runs.specs.Runs.{elements}
use Rattle.std.proofs.lemmas.Result.{on_ok_weaker}
use Rattle.cell_runs.proofs.Pushing.{extends-along}
use Rattle.run_joins.proofs.Opening.{no_part, part_more, rest_some, open_left, open_right, left_index, right_index, closed, fits_left, fits_right, opened, made_is}
use Rattle.run_joins.proofs.step.gather.Goals as goal

pub loop-alloc-init : goal.loop-alloc-init
loop-alloc-init g c =
    let w = rest_some c.args.a.now c.args.i.now c.requires.first c.requires.even.left c.requires.maps.some_first in
    record {
      open_at = opened g.C.Cells.ops (g.M.Merge.merged c.args.merge.now) c.args.a.now c.args.b.now c.args.i.now c.args.j.now c.new-p.result.items c.new-q.result.items c.requires.even w
          c.new-p.ensures.items c.new-q.ensures.items;
      first = no_part g.C.Cells.fine c.new-p.result.items c.new-p.ensures.items;
      second = no_part g.C.Cells.fine c.new-q.result.items c.new-q.ensures.items;
    }

pub take-requires-clause-inside : goal.take-requires-clause-inside
take-requires-clause-inside g c =
    left_index g.C.Cells.ops (g.M.Merge.merged c.args.merge.now) c.args.a.now c.args.b.now c.args.i.now c.loop-alloc.i c.args.j.now c.loop-alloc.j c.loop-alloc.p.items c.loop-alloc.q.items c.loop-alloc.left c.loop-alloc.right
    c.loop-alloc.invariant.open_at (c.is_open.ensures.open c.loop-alloc-test.true) c.if-left-right.true

pub overflow_add-left : goal.overflow_add-left
overflow_add-left g c =
    let h = fits_left g.C.Cells.ops (g.M.Merge.merged c.args.merge.now) c.args.a.now c.args.b.now c.args.i.now c.loop-alloc.i c.take.new.at c.args.j.now c.loop-alloc.j c.loop-alloc.p.items c.loop-alloc.q.items c.take.new.into.items
    c.loop-alloc.left c.loop-alloc.right c.in_ok-left.field-0 c.loop-alloc.invariant.open_at c.in_ok-left.ensures in
    omega arith

pub loop-alloc-preserved-then-left-right : goal.loop-alloc-preserved-then-left-right
loop-alloc-preserved-then-left-right g c = record {
  open_at = open_left g.C.Cells.ops (g.M.Merge.merged c.args.merge.now) c.args.a.now c.args.b.now c.args.i.now c.loop-alloc.i c.take.new.at c.args.j.now c.loop-alloc.j c.loop-alloc.p.items c.loop-alloc.q.items c.take.new.into.items
      c.loop-alloc.left c.loop-alloc.right c.in_ok-left.field-0 c.loop-alloc.invariant.open_at (c.is_open.ensures.open c.loop-alloc-test.true) c.if-left-right.true c.in_ok-left.ensures;
  first = part_more g.C.Cells.fine c.args.a.now c.loop-alloc.i c.take.new.at c.loop-alloc.p.items c.take.new.into.items c.in_ok-left.field-0 c.requires.maps.fine_first c.loop-alloc.invariant.first c.in_ok-left.ensures;
  second = c.loop-alloc.invariant.second;
}

pub take-requires-else-left-right-clause-inside : goal.take-requires-else-left-right-clause-inside
take-requires-else-left-right-clause-inside g c =
    right_index g.C.Cells.ops (g.M.Merge.merged c.args.merge.now) c.args.a.now c.args.b.now c.args.i.now c.loop-alloc.i c.args.j.now c.loop-alloc.j c.loop-alloc.p.items c.loop-alloc.q.items c.loop-alloc.left c.loop-alloc.right
    c.loop-alloc.invariant.open_at (omega arith)

pub overflow_add-right : goal.overflow_add-right
overflow_add-right g c =
    let h = fits_right g.C.Cells.ops (g.M.Merge.merged c.args.merge.now) c.args.a.now c.args.b.now c.args.i.now c.loop-alloc.i c.args.j.now c.loop-alloc.j c.take-else-left-right.new.at c.loop-alloc.p.items c.loop-alloc.q.items c.take-else-left-right.new.into.items
    c.loop-alloc.left c.loop-alloc.right c.in_ok-right.field-0 c.loop-alloc.invariant.open_at c.in_ok-right.ensures in
    omega arith

pub loop-alloc-preserved : goal.loop-alloc-preserved
loop-alloc-preserved g c = record {
  open_at = open_right g.C.Cells.ops (g.M.Merge.merged c.args.merge.now) c.args.a.now c.args.b.now c.args.i.now c.loop-alloc.i c.args.j.now c.loop-alloc.j c.take-else-left-right.new.at c.loop-alloc.p.items c.loop-alloc.q.items c.take-else-left-right.new.into.items
      c.loop-alloc.left c.loop-alloc.right c.in_ok-right.field-0 c.loop-alloc.invariant.open_at (c.is_open.ensures.open c.loop-alloc-test.true) (omega arith) c.in_ok-right.ensures;
  first = c.loop-alloc.invariant.first;
  second = part_more g.C.Cells.fine c.args.b.now c.loop-alloc.j c.take-else-left-right.new.at c.loop-alloc.q.items c.take-else-left-right.new.into.items c.in_ok-right.field-0 c.requires.maps.fine_second c.loop-alloc.invariant.second c.in_ok-right.ensures;
}

pub returns : goal.returns
returns g c =
    let m = made_is g.C.Cells.ops (g.M.Merge.merged c.args.merge.now) c.loop-alloc.p.items c.loop-alloc.q.items c.deref.result.now c.deref-2.result.now c.in_ok-made.made.items
    c.deref.ensures.value c.deref-2.ensures.value c.in_ok-made.ensures.is in
    on_ok_weaker c.copy_runs.result (λ e.
    closed g.C.Cells.ops (g.M.Merge.merged c.args.merge.now) c.args.a.now c.args.b.now c.args.i.now c.loop-alloc.i c.args.j.now c.loop-alloc.j c.loop-alloc.p.items c.loop-alloc.q.items
    c.in_ok-made.made.items c.args.out.now.items c.copy_runs.new.out.items c.loop-alloc.left c.loop-alloc.right c.loop-alloc.invariant.open_at (c.is_open.ensures.closed c.loop-alloc-test.false) m (extends-along c.args.out.now.items c.copy_runs.new.out.items _ _ (ap elements c.deref-3.ensures.value) e)) c.copy_runs.ensures
