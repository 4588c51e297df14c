use Rattle.std.proofs.Common.{◌<◌, ◌^◌, sym, subst, arith}
use Rattle.memory_maps.specs.Memories.{AreObjects, HaveNumbers}
use Rattle.memory_maps.proofs.Objects.{set_objects, set_numbers}
use Rattle.memory_maps.proofs.memory.Memory.with_map.Goals as goal

pub invariant_of-result : goal.invariant_of-result
invariant_of-result g c = (
  subst (AreObjects g.C.Cells.fine) (sym c.in_ok-bases-in-Base.ensures.value)
      (set_objects g.C.Cells.fine c.self.inside.bases c.in-Base.base.0 c.args.map (record { fine = c.facts.ensures.fine; small = c.facts.ensures.small }) c.self.invariant.0),
  subst (AreObjects g.C.Cells.fine) (sym c.in_ok-slots-in-Base.ensures) c.self.invariant.1,
  subst HaveNumbers (sym c.in_ok-bases-in-Base.ensures.value) (set_numbers c.self.inside.bases c.in-Base.base.0 c.args.map (omega arith) c.self.invariant.2),
  subst HaveNumbers (sym c.in_ok-slots-in-Base.ensures) c.self.invariant.3,
)

pub invariant_of-result-in-Slot : goal.invariant_of-result-in-Slot
invariant_of-result-in-Slot g c = (
  subst (AreObjects g.C.Cells.fine) (sym c.in_ok-bases-in-Slot.ensures) c.self.invariant.0,
  subst (AreObjects g.C.Cells.fine) (sym c.in_ok-slots-in-Slot.ensures.value)
      (set_objects g.C.Cells.fine c.self.inside.slots c.in-Slot.slot c.args.map (record { fine = c.facts.ensures.fine; small = c.facts.ensures.small }) c.self.invariant.1),
  subst HaveNumbers (sym c.in_ok-bases-in-Slot.ensures) c.self.invariant.2,
  subst HaveNumbers (sym c.in_ok-slots-in-Slot.ensures.value) (set_numbers c.self.inside.slots c.in-Slot.slot c.args.map (omega arith) c.self.invariant.3),
)
