use Rattle.std.proofs.Common.{ap, ◌∙◌, refl}
use Rattle.cell_laws.specs.Access.{stored}
use Rattle.cell_runs.specs.Runs.{elements}
use Rattle.offmap.proofs.Building.{IsBuilt, seen, store_built, store_map}
use Rattle.offmap.proofs.map.OffMap.store.Goals as goal

built : (g : _) (c : goal.In_ok-copy_rest g) → IsBuilt c.copy_rest.new.out.items (stored g.C.Cells.ops c.args.self.now c.args.at c.args.bits c.args.cell.now)
built g c =
    store_built g.C.Cells.ops g.C.Cells.fine g.met.C.Cells.part_laws c.deref.result.now c.deref-2.result.now c.new-runs.result.items c.take_runs.new.out.items c.push_filled.new.out.items
    c.copy_rest.new.out.items c.args.self.now c.args.at c.args.bits c.in_ok-take_runs.field-0 c.args.cell.now
    (ap elements c.deref.ensures.value ∙ c.self.view_is) (ap elements c.deref-2.ensures.value ∙ c.self.view_is) c.new-runs.ensures.items
    c.in_ok-take_runs.ensures c.in_ok-push_filled.ensures c.in_ok-copy_rest.ensures

pub invariant_of-result : goal.invariant_of-result
invariant_of-result g c =
    let s = seen g.C.Cells.fine c.self.inside.bits c.self.inside.runs.items c.self.inside.runs.items c.args.self.now c.self.invariant c.self.view_is refl in
    store_map g.C.Cells.ops g.C.Cells.fine g.met.C.Cells.part_laws c.self.inside.bits c.copy_rest.new.out.items c.args.self.now c.args.at c.args.bits c.args.cell.now s.fine s.wide s.small
    c.requires.size c.requires.inside (built g c)

pub returns : goal.returns
returns g c = (built g c).view
