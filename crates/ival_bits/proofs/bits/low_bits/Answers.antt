use Rattle.std.proofs.Common.{◌≡◌, ◌≤◌, FitsSigned, subst, sym, rules}
use Rattle.std.specs.Int.{w128}
use Rattle.std.proofs.lemmas.Int.{to_z-of_z}
use Rattle.ival_core.specs.Ivals.{IsBounds}
use Rattle.ival_core.proofs.Insertion.{Holds-number}
use Rattle.ival_bits.specs.Spans.{sized}
use Rattle.ival_bits.proofs.Sizes.{typed_small}
use Rattle.ival_bits.proofs.bits.low_bits.Goals as goal

pub returns-else-low-lt0-clause-small : goal.returns-else-low-lt0-clause-small
returns-else-low-lt0-clause-small c =
    let o = c.args.format in
    let h : IsBounds c.args.set.now c.in-Some.low c.in-Some.high = c.in-Some.ensures.some in
    let f : FitsSigned w128 c.in-Some.high = search rules in
    let e : c.sized.result ≡ sized c.in-Some.high = simp to_z-of_z at c.sized.ensures in
    subst (λ n. n ≤ 64) (sym e) (typed_small o.signed o.width c.in-Some.high o.room (Holds-number c.args.set.now c.in-Some.high h.last) (c.requires.fits c.in-Some.high h.last))
