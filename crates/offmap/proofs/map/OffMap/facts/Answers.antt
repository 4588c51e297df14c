use Rattle.std.proofs.Common.{refl, arith}
use Rattle.offmap.proofs.Building.{seen}
use Rattle.offmap.proofs.map.OffMap.facts.Goals as goal

pub returns-clause-fine : goal.returns-clause-fine
returns-clause-fine g c = (seen g.C.Cells.fine c.self.inside.bits c.self.inside.runs.items c.self.inside.runs.items c.args.self.now c.self.invariant c.self.view_is refl).fine

pub returns-clause-small : goal.returns-clause-small
returns-clause-small g c =
    let s = seen g.C.Cells.fine c.self.inside.bits c.self.inside.runs.items c.self.inside.runs.items c.args.self.now c.self.invariant c.self.view_is refl in
    let a = s.wide in
    let b = s.small in
    omega arith
