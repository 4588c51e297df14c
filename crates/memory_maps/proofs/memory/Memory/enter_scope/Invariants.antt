use Rattle.std.proofs.Common.{◌≡◌, drop}
use Rattle.std.specs.List.{AllByRecursion}
use Rattle.memory_maps.specs.Memories.{entered, HasBits}
use Rattle.memory_maps.proofs.memory.Memory.enter_scope.Given as goal

abbrev pub invariant-loop-base : goal.invariant-loop-base
invariant-loop-base g l =
    (entered g.C.Cells.ops (g.S.Sizes.size_of l.sizes) (drop l.base-index l.bases) l.memory ≡ entered g.C.Cells.ops (g.S.Sizes.size_of l.sizes) l.bases l.self)
    × AllByRecursion (HasBits (g.S.Sizes.size_of l.sizes)) (drop l.base-index l.bases)
