use Rattle.std.proofs.Common.{◌-◌, arith, ap, length}
use Rattle.cell_runs.proofs.Pushing.{grown, pushed}
use Rattle.cell_runs.proofs.runs.push.Goals as goal

pub returns-then-grows : goal.returns-then-grows
returns-then-grows g c =
    let f = c.grows.ensures.same c.if-grows.true in
    let m = f.one_more in
    let k = ap length c.deref.ensures.value in
    grown c.args.out.now.items c.deref.result.now c.index_mut-last.result.now c.args.run (c.len-n.result - 1) c.deref.ensures.value f (omega arith) c.index_mut-last.ensures.value

pub returns : goal.returns
returns g c =
    pushed c.args.out.now.items c.deref.result.now c.push.new.self.items c.args.run c.deref.ensures.value c.requires.bits c.requires.count (c.grows.ensures.other c.if-grows.false) c.in_ok-push.ensures.items
