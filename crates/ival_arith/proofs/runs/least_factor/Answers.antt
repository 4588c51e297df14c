use Rattle.std.proofs.Common.{◌≡◌, ◌<◌, ◌∙◌, ap, subst, sym}
use Rattle.ival_core.specs.Views.{bounds_of}
use Rattle.ival_arith.specs.Values.{nearest, least_factor}
use Rattle.ival_arith.proofs.Factors.{factor_some}
use Rattle.ival_arith.proofs.runs.least_factor.Goals as goal

pub returns-clause-some : goal.returns-clause-some
unfolding least_factor
returns-clause-some c =
    let e : c.nearest.result ≡ least_factor c.args.set.now.shape =
    c.nearest.ensures ∙ ap (λ a. nearest a c.bounds-2.result) (c.bounds.ensures.value ∙ ap bounds_of c.clipped.ensures) ∙ ap (nearest (bounds_of _)) (c.bounds-2.ensures.value ∙ ap bounds_of c.clipped-2.ensures) in
    subst (λ n. 0 < n) (sym e) (factor_some c.args.set.now.shape c.args.set.now.valid)
