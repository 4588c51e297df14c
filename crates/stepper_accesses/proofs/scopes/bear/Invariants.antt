use Rattle.std.proofs.Common.{◌≡◌, drop}
use Rattle.c_memory.specs.Memories.{born}
use Rattle.stepper_values.specs.Views.{layout_of}
use Rattle.stepper_memory.specs.Views.{plain}
use Rattle.stepper_accesses.proofs.scopes.bear.Given as goal

abbrev pub invariant-loop-base : goal.invariant-loop-base
invariant-loop-base l =
    born (layout_of l.fn.layout) (drop l.base-index l.bases) (plain l.memory) ≡ born (layout_of l.fn.layout) l.bases (plain l.initial.memory)
