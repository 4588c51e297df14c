use Rattle.std.proofs.Common.{refl, sym, subst}
use Rattle.c_pointers.specs.Pointers.{comparison}
use Rattle.aops_relations.specs.Comparisons.{op_of}
use Rattle.aops_relations.proofs.Comparing.{judged_holds, judged_sure}
use Rattle.aops_relations.proofs.Tight.{IsTight, judged_tight, sole_verdict}
use Rattle.aops_relations.proofs.comparisons.compared.Goals as goal

pub returns-clause-holds : goal.returns-clause-holds
returns-clause-holds g c l x y z o h = judged_holds c.args.rel (g.S.Sizes.size_of c.args.sizes.now) l c.args.a.now c.args.b.now x y o _ c.judged.result refl c.judged.ensures z h

pub returns-clause-sure : goal.returns-clause-sure
returns-clause-sure g c s l x y kind o h = judged_sure c.args.rel (g.S.Sizes.size_of c.args.sizes.now) l c.args.a.now c.args.b.now x y o c.judged.result c.judged.ensures s kind h

pub returns-clause-sole : goal.returns-clause-sole
returns-clause-sole g c l x y s t n p o =
    sole_verdict l (comparison (op_of c.args.rel) l x y) c.judged.result (subst IsTight (sym c.judged.ensures) (judged_tight c.args.rel (g.S.Sizes.size_of c.args.sizes.now) c.args.a.now c.args.b.now s t n p))
    (λ z h. judged_holds c.args.rel (g.S.Sizes.size_of c.args.sizes.now) l c.args.a.now c.args.b.now x y o _ c.judged.result refl c.judged.ensures z h)
    (λ h kind e. judged_sure c.args.rel (g.S.Sizes.size_of c.args.sizes.now) l c.args.a.now c.args.b.now x y o c.judged.result c.judged.ensures h kind e)
