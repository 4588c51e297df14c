use Rattle.offmap.proofs.Building.{empty_map, empty_repeated}
use Rattle.offmap.proofs.map.OffMap.uninit.Goals as goal

pub invariant_of-result : goal.invariant_of-result
invariant_of-result g c = empty_map g.C.Cells.fine c.new.result.items c.args.bits c.if-bits-eq0.true c.new.ensures.items

pub returns-then-bits-eq0 : goal.returns-then-bits-eq0
returns-then-bits-eq0 g c = empty_repeated g.C.Cells.ops 1 g.C.Cells.ops.uninit c.new.result.items c.args.bits c.if-bits-eq0.true c.new.ensures.items
