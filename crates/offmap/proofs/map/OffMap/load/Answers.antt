use Rattle.std.proofs.Common.{◌∙◌}
use Rattle.std.proofs.lemmas.Result.{IfOk-weaker}
use Rattle.offmap.proofs.Building.{seen, copy_built, copied_small, loaded_is}
use Rattle.offmap.proofs.map.OffMap.load.Goals as goal

pub glue_runs-requires-clause-small : goal.glue_runs-requires-clause-small
glue_runs-requires-clause-small g c =
    let s = seen g.C.Cells.fine c.self.inside.bits c.self.inside.runs.items c.deref.result.now c.args.self.now c.self.invariant c.self.view_is c.deref.ensures.value in
    let b = copy_built g.C.Cells.ops g.C.Cells.fine g.met.C.Cells.part_laws c.self.inside.bits c.deref.result.now c.new-part.result.items c.copy_part.new.out.items c.args.self.now c.args.at c.args.bits
    s c.new-part.ensures.items c.in_ok-copy_part.ensures in
    copied_small g.C.Cells.ops c.copy_part.new.out.items c.deref-2.result.now c.args.self.now c.args.at c.args.bits c.requires.size c.requires.inside c.deref-2.ensures.value b

pub returns : goal.returns
returns g c =
    let s = seen g.C.Cells.fine c.self.inside.bits c.self.inside.runs.items c.deref.result.now c.args.self.now c.self.invariant c.self.view_is c.deref.ensures.value in
    let b = copy_built g.C.Cells.ops g.C.Cells.fine g.met.C.Cells.part_laws c.self.inside.bits c.deref.result.now c.new-part.result.items c.copy_part.new.out.items c.args.self.now c.args.at c.args.bits
    s c.new-part.ensures.items c.in_ok-copy_part.ensures in
    IfOk-weaker c.glue_runs.result _ _ (λ d e. e ∙ loaded_is g.C.Cells.ops c.copy_part.new.out.items c.deref-2.result.now c.args.self.now c.args.at c.args.bits c.deref-2.ensures.value b) c.glue_runs.ensures
