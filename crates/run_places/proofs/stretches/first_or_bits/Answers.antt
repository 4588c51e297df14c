use Rattle.std.proofs.lemmas.Result.{IfOk-weaker}
use Rattle.cell_runs.specs.Runs.{elements}
use Rattle.run_places.proofs.Loose.{done_yes, done_no, first_made, bits_made}
use Rattle.run_places.proofs.stretches.first_or_bits.Goals as goal

pub returns-then-branch : goal.returns-then-branch
returns-then-branch g c =
    first_made g.C.Cells.ops (g.M.Merge.merged c.args.merge.now) (elements c.args.first.now) (elements c.args.second.now) c.new-made.result.items c.with_all.new.out.items c.new-made.ensures.items
    (done_yes g.C.Cells.ops (g.M.Merge.merged c.args.merge.now) _ c.new-made.result.items c.with_all.new.out.items c.in_ok-with_all.field-0 c.if-branch.true c.in_ok-with_all.ensures)

pub returns : goal.returns
returns g c =
    IfOk-weaker c.only_bits.result _ _
    (λ r e. bits_made g.C.Cells.ops (g.M.Merge.merged c.args.merge.now) (elements c.args.first.now) (elements c.args.second.now) r.items
    (done_no g.C.Cells.ops (g.M.Merge.merged c.args.merge.now) _ c.new-made.result.items c.with_all.new.out.items c.in_ok-with_all.field-0 c.if-branch.false c.in_ok-with_all.ensures) e) c.only_bits.ensures
