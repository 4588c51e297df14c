use Rattle.std.proofs.Common.{◌≡◌, ◌<◌, ◌^◌, subst, sym}
use Rattle.c_weights.proofs.Counting.{same_weight}
use Rattle.c_weights.proofs.weights.weight.Goals as goal

pub returns : goal.returns
returns c know small =
    let same = same_weight c.args.p.now c.args.f.0 know in
    subst (λ w. c.flagged_weight.result ≡ w) same (c.flagged_weight.ensures (subst (λ w. w < 2 ^ 62) (sym same) small))
