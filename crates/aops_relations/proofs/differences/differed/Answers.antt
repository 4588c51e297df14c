use Rattle.std.proofs.Common.{refl, sym, subst}
use Rattle.c_pointers.specs.Pointers.{difference}
use Rattle.aops_relations.proofs.Differing.{differed_holds, differed_sure}
use Rattle.aops_relations.proofs.Tight.{IsTight, differed_tight, sole_verdict}
use Rattle.aops_relations.proofs.differences.differed.Goals as goal

pub returns-clause-holds : goal.returns-clause-holds
returns-clause-holds g c l x y z o h = differed_holds c.args.size c.ranges.size.fits (g.S.Sizes.size_of c.args.sizes.now) l c.args.a.now c.args.b.now x y o _ c.of_parts.result refl c.of_parts.ensures z h

pub returns-clause-sure : goal.returns-clause-sure
returns-clause-sure g c s l x y kind o h = differed_sure c.args.size c.ranges.size.fits (g.S.Sizes.size_of c.args.sizes.now) l c.args.a.now c.args.b.now x y o c.of_parts.result c.of_parts.ensures s kind h

pub returns-clause-sole : goal.returns-clause-sole
returns-clause-sole g c l x y i s t n p o =
    sole_verdict l (difference l c.args.size x y) c.of_parts.result (subst IsTight (sym c.of_parts.ensures) (differed_tight c.args.size i c.ranges.size.fits (g.S.Sizes.size_of c.args.sizes.now) c.args.a.now c.args.b.now s t n p))
    (λ z h. differed_holds c.args.size c.ranges.size.fits (g.S.Sizes.size_of c.args.sizes.now) l c.args.a.now c.args.b.now x y o _ c.of_parts.result refl c.of_parts.ensures z h)
    (λ h kind e. differed_sure c.args.size c.ranges.size.fits (g.S.Sizes.size_of c.args.sizes.now) l c.args.a.now c.args.b.now x y o c.of_parts.result c.of_parts.ensures h kind e)
