use Rattle.std.proofs.Common.{sym, subst}
use Rattle.memory_maps.specs.Memories.{AreObjects, HaveNumbers}
use Rattle.memory_maps.proofs.Objects.{remove_objects, remove_numbers}
use Rattle.memory_maps.proofs.memory.Memory.without.Goals as goal

pub invariant_of-result : goal.invariant_of-result
invariant_of-result g c = (
  subst (AreObjects g.C.Cells.fine) (sym c.in_ok-bases-in-Base.ensures.value) (remove_objects g.C.Cells.fine c.self.inside.bases c.in-Base.base.0 c.self.invariant.0),
  subst (AreObjects g.C.Cells.fine) (sym c.in_ok-slots-in-Base.ensures) c.self.invariant.1,
  subst HaveNumbers (sym c.in_ok-bases-in-Base.ensures.value) (remove_numbers c.self.inside.bases c.in-Base.base.0 c.self.invariant.2),
  subst HaveNumbers (sym c.in_ok-slots-in-Base.ensures) c.self.invariant.3,
)

pub invariant_of-result-in-Slot : goal.invariant_of-result-in-Slot
invariant_of-result-in-Slot g c = (
  subst (AreObjects g.C.Cells.fine) (sym c.in_ok-bases-in-Slot.ensures) c.self.invariant.0,
  subst (AreObjects g.C.Cells.fine) (sym c.in_ok-slots-in-Slot.ensures.value) (remove_objects g.C.Cells.fine c.self.inside.slots c.in-Slot.slot c.self.invariant.1),
  subst HaveNumbers (sym c.in_ok-bases-in-Slot.ensures) c.self.invariant.2,
  subst HaveNumbers (sym c.in_ok-slots-in-Slot.ensures.value) (remove_numbers c.self.inside.slots c.in-Slot.slot c.self.invariant.3),
)
