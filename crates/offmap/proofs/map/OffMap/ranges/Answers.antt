use Rattle.offmap.proofs.Ranges.{ranges_are}
use Rattle.offmap.proofs.map.OffMap.ranges.Goals as goal

pub returns : goal.returns
returns g c = ranges_are g.C.Cells.fine c.self.inside.bits c.self.inside.runs.items c.deref.result.now c.args.self.now c.self.invariant c.self.view_is c.deref.ensures.value
