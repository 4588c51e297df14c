use Rattle.std.proofs.Common.{arith}
use Rattle.std.proofs.lemmas.Result.{on_ok_weaker}
use Rattle.run_places.proofs.Adding.{one_run}
use Rattle.run_places.proofs.repeats.push_times.Goals as goal

pub returns : goal.returns
returns g c =
    on_ok_weaker c.push_many.result
    (λ x. one_run c.args.runs.now c.index-runs-0.result c.args.count c.in-Some.all c.args.out.now.items c.push_many.new.out.items (omega arith) c.index-runs-0.is c.in-Some.ensures.1 x) c.push_many.ensures
