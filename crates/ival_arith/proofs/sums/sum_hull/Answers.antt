use Rattle.ival_arith.proofs.SumCodes.{sum_is, hull_of_sums, as_hull}
use Rattle.ival_arith.proofs.sums.sum_hull.Goals as goal

pub returns : goal.returns
returns c =
    let p = c.args.p in
    let q = c.args.q in
    let l = c.requires.left in
    let r = c.requires.right in
    hull_of_sums p q _ c.gcd.result (as_hull _ _ _ _ c.gcd.result (sum_is p.low q.low l.first r.first) (sum_is p.high q.high l.last r.last)) c.gcd.ensures
