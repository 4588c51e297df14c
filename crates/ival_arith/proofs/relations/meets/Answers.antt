use Rattle.ival_core.proofs.Decisions.{always, never}
use Rattle.ival_arith.proofs.Relating.{meets_some, meets_none}
use Rattle.ival_arith.proofs.relations.meets.Goals as goal

pub returns-in-Some : goal.returns-in-Some
returns-in-Some c = always _ (meets_some c.args.a.now c.args.b.now c.meet.result _ c.meet.ensures (let h = c.in-Some.ensures.some in h.first))

pub returns-in-None : goal.returns-in-None
returns-in-None c = never _ (meets_none c.args.a.now c.args.b.now c.meet.result c.meet.ensures (c.in-None.ensures.none))
