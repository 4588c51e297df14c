use Rattle.std.proofs.Common.{◌+◌, ap, ◌∙◌, refl}
use Rattle.cell_laws.specs.Access.{pasted}
use Rattle.cell_runs.specs.Runs.{elements}
use Rattle.offmap.proofs.Building.{IsBuilt, seen, paste_built, paste_map}
use Rattle.offmap.proofs.map.OffMap.paste.Goals as goal

built : (g : _) (c : goal.In_ok-copy_rest g) → IsBuilt c.copy_rest.new.out.items (pasted g.C.Cells.ops c.args.self.now c.args.at c.args.part.now)
built g c =
    let p = seen g.C.Cells.fine c.part.inside.bits c.part.inside.runs.items c.part.inside.runs.items c.args.part.now c.part.invariant c.part.view_is refl in
    let w = p.wide in
    paste_built g.C.Cells.ops g.C.Cells.fine g.met.C.Cells.part_laws c.self.inside.bits c.in_ok-take_runs.field-0 c.deref.result.now c.deref-2.result.now c.deref-3.result.now
    c.new-runs.result.items c.take_runs.new.out.items c.copy_runs.new.out.items c.copy_rest.new.out.items c.args.self.now c.args.part.now c.args.at (c.args.at + c.part.inside.bits)
    (ap elements c.deref.ensures.value ∙ c.self.view_is) (ap elements c.deref-2.ensures.value ∙ c.part.view_is) (ap elements c.deref-3.ensures.value ∙ c.self.view_is)
    (ap (λ n. c.args.at + n) w) c.new-runs.ensures.items c.in_ok-take_runs.ensures c.in_ok-copy_runs.ensures c.in_ok-copy_rest.ensures

pub invariant_of-result : goal.invariant_of-result
invariant_of-result g c =
    let p = seen g.C.Cells.fine c.part.inside.bits c.part.inside.runs.items c.part.inside.runs.items c.args.part.now c.part.invariant c.part.view_is refl in
    let s = seen g.C.Cells.fine c.self.inside.bits c.self.inside.runs.items c.self.inside.runs.items c.args.self.now c.self.invariant c.self.view_is refl in
    paste_map g.C.Cells.ops g.C.Cells.fine g.met.C.Cells.part_laws c.self.inside.bits c.copy_rest.new.out.items c.args.self.now c.args.part.now c.args.at s.fine p.fine s.wide s.small c.requires (built g c)

pub returns : goal.returns
returns g c = (built g c).view
