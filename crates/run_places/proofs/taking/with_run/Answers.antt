use Rattle.cell_runs.specs.Runs.{elements}
use Rattle.run_places.proofs.Loose.{done_yes, done_no}
use Rattle.run_places.proofs.TakingIn.{run_begin, run_step, run_fail, made_is, made_some}
use Rattle.run_places.proofs.taking.with_run.Goals as goal

pub loop-left-init : goal.loop-left-init
loop-left-init g c = run_begin g.C.Cells.ops (g.M.Merge.merged c.args.merge.now) c.args.runs.now c.args.spot.now c.args.run.now c.args.out.now.items c.requires.enough c.requires.spot

pub returns-then-not-branch-clause-taken : goal.returns-then-not-branch-clause-taken
returns-then-not-branch-clause-taken g c = λ fs.
    run_fail g.C.Cells.ops (g.M.Merge.merged c.args.merge.now) c.args.runs.now c.args.spot.now c.args.run.now c.loop-left.spot c.loop-left.left c.chunk_at-next.result c.args.out.now.items c.loop-left.out.items fs
    c.chunk_at-next.ensures
    (done_no g.C.Cells.ops (g.M.Merge.merged c.args.merge.now) _ c.new-made.result.items c.with_few.new.out.items c.in_ok-with_few.field-0 c.if-not-branch.true c.in_ok-with_few.ensures) c.loop-left.invariant

pub push_times-requires : goal.push_times-requires
push_times-requires g c = record {
  some = made_some g.C.Cells.ops (g.M.Merge.merged c.args.merge.now) c.new-made.result.items c.with_few.new.out.items c.deref.result.now _ c.new-made.ensures.items c.deref.ensures.value
      (done_yes g.C.Cells.ops (g.M.Merge.merged c.args.merge.now) _ c.new-made.result.items c.with_few.new.out.items c.in_ok-with_few.field-0 c.if-not-branch.false c.in_ok-with_few.ensures);
}

pub loop-left-preserved : goal.loop-left-preserved
loop-left-preserved g c =
    let d = done_yes g.C.Cells.ops (g.M.Merge.merged c.args.merge.now) _ c.new-made.result.items c.with_few.new.out.items c.in_ok-with_few.field-0 c.if-not-branch.false c.in_ok-with_few.ensures in
    run_step g.C.Cells.ops (g.M.Merge.merged c.args.merge.now) c.args.runs.now c.args.spot.now c.args.run.now c.loop-left.spot c.loop-left.left c.chunk_at-next.result (elements c.deref.result.now)
    c.args.out.now.items c.loop-left.out.items c.push_times.new.out.items c.chunk_at-next.ensures
    (made_is g.C.Cells.ops (g.M.Merge.merged c.args.merge.now) c.new-made.result.items c.with_few.new.out.items c.deref.result.now _ c.new-made.ensures.items c.deref.ensures.value d)
    c.in_ok-push_times.ensures c.loop-left.invariant
