use Rattle.offmap.proofs.Building.{seen, copy_built, copy_map}
use Rattle.offmap.proofs.map.OffMap.copy.Goals as goal

pub invariant_of-result : goal.invariant_of-result
invariant_of-result g c =
    let s = seen g.C.Cells.fine c.self.inside.bits c.self.inside.runs.items c.deref.result.now c.args.self.now c.self.invariant c.self.view_is c.deref.ensures.value in
    copy_map g.C.Cells.ops g.C.Cells.fine g.met.C.Cells.part_laws c.self.inside.bits c.deref.result.now c.new-runs.result.items c.copy_part.new.out.items c.args.self.now c.args.at c.args.bits
    s c.requires c.new-runs.ensures.items c.in_ok-copy_part.ensures

pub returns : goal.returns
returns g c =
    let s = seen g.C.Cells.fine c.self.inside.bits c.self.inside.runs.items c.deref.result.now c.args.self.now c.self.invariant c.self.view_is c.deref.ensures.value in
    (copy_built g.C.Cells.ops g.C.Cells.fine g.met.C.Cells.part_laws c.self.inside.bits c.deref.result.now c.new-runs.result.items c.copy_part.new.out.items c.args.self.now c.args.at c.args.bits
    s c.new-runs.ensures.items c.in_ok-copy_part.ensures).view
