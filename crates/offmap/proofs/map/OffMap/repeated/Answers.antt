use Rattle.offmap.proofs.Building.{built, repeated_map}
use Rattle.offmap.proofs.map.OffMap.repeated.Goals as goal

pub invariant_of-result : goal.invariant_of-result
invariant_of-result g c =
    repeated_map g.C.Cells.ops g.C.Cells.fine g.met.C.Cells.part_laws c.push_filled.new.out.items c.new-runs.result.items c.args.size c.args.count c.args.cell.now c.requires.size c.requires.small
    c.new-runs.ensures.items c.in_ok-push_filled.ensures

pub returns : goal.returns
returns g c = (built c.new-runs.result.items c.push_filled.new.out.items _ c.new-runs.ensures.items c.in_ok-push_filled.ensures).view
