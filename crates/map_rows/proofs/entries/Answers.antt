use Rattle.map_rows.proofs.Rows.{covers_all, describes_all, ranges_are}
use Rattle.map_rows.proofs.entries.Goals as goal

pub returns-clause-ranges : goal.returns-clause-ranges
returns-clause-ranges c = ranges_are c.args.object.now c.ranges-2.result.now c.args.base.0 c.in_ok-entries.entries c.ranges-2.ensures c.in_ok-entries.ensures

pub returns-clause-cover : goal.returns-clause-cover
returns-clause-cover c = covers_all c.args.object.now c.ranges-2.result.now c.args.base.0 c.in_ok-entries.entries c.ranges-2.ensures c.in_ok-entries.ensures

pub returns-clause-meaning : goal.returns-clause-meaning
returns-clause-meaning c = describes_all c.args.object.now c.ranges-2.result.now c.args.base.0 c.in_ok-entries.entries c.ranges-2.ensures c.facts.ensures.fine c.in_ok-entries.ensures
