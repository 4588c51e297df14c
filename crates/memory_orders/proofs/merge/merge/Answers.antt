use Rattle.memory_orders.proofs.Merged.{made_objects, made_numbers}
use Rattle.memory_orders.proofs.Below.{made_above, made_memory}
use Rattle.memory_orders.proofs.merge.merge.Goals as goal

pub of-requires : goal.of-requires
of-requires g c =
    let made = made_objects g.C.Cells.ops g.C.Cells.fine g.met.C.Cells.fine_laws g.met.C.Cells.order_laws g.met.C.Cells.join_laws (g.M.Merge.merged c.args.by.now) (g.met.M.Merge.laws c.args.by.now) in
    let numbers =
    made_numbers g.C.Cells.ops g.C.Cells.fine g.met.C.Cells.fine_laws g.met.C.Cells.order_laws g.met.C.Cells.join_laws (g.M.Merge.merged c.args.by.now) (g.met.M.Merge.laws c.args.by.now) in (
      made c.args.first.now.0 c.args.second.now.0 c.bases.result.now c.bases-2.result.now c.in_ok-bases.bases c.bases.ensures.value c.bases-2.ensures.value c.in_ok-bases.ensures.value c.facts.ensures.0
          c.facts-2.ensures.0,
      made c.args.first.now.1 c.args.second.now.1 c.slots.result.now c.slots-2.result.now c.in_ok-slots.slots c.slots.ensures.value c.slots-2.ensures.value c.in_ok-slots.ensures.value c.facts.ensures.1
          c.facts-2.ensures.1,
      numbers c.args.first.now.0 c.args.second.now.0 c.bases.result.now c.bases-2.result.now c.in_ok-bases.bases c.bases.ensures.value c.bases-2.ensures.value c.in_ok-bases.ensures.value c.facts.ensures.2
          c.facts-2.ensures.2,
      numbers c.args.first.now.1 c.args.second.now.1 c.slots.result.now c.slots-2.result.now c.in_ok-slots.slots c.slots.ensures.value c.slots-2.ensures.value c.in_ok-slots.ensures.value c.facts.ensures.3
          c.facts-2.ensures.3,
    )

pub returns-clause-upper : goal.returns-clause-upper
returns-clause-upper g c = λ w.
    made_above g.C.Cells.ops (g.M.Merge.merged c.args.by.now) g.C.Cells.fine g.met.C.Cells.fine_laws g.met.C.Cells.order_laws g.met.C.Cells.join_laws (g.met.M.Merge.laws c.args.by.now) c.args.first.now c.args.second.now
    (record { bases = c.bases.ensures.map; slots = c.slots.ensures.map }) (record { bases = c.bases-2.ensures.map; slots = c.slots-2.ensures.map }) c.facts.ensures c.facts-2.ensures w c.of.result
    (made_memory g.C.Cells.ops (g.M.Merge.merged c.args.by.now) c.args.first.now c.args.second.now c.of.result c.bases.result.now c.bases-2.result.now c.slots.result.now c.slots-2.result.now c.in_ok-bases.bases c.in_ok-slots.slots
    c.bases.ensures.value c.bases-2.ensures.value c.slots.ensures.value c.slots-2.ensures.value c.in_ok-bases.ensures.value c.in_ok-slots.ensures.value c.of.ensures)
