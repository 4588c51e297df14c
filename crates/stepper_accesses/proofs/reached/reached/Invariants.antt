use Rattle.std.proofs.Common.{take, length}
use Rattle.c_memory.specs.Memories as memories
use Rattle.stepper_values.specs.Views.{layout_of, value_of}
use Rattle.stepper_memory.specs.Views.{plain}
use Rattle.stepper_accesses.proofs.Reaching.{IsLeast}
use Rattle.stepper_accesses.proofs.reached.reached.Given as goal

abbrev pub invariant-loop-base : goal.invariant-loop-base
invariant-loop-base l =
    IsLeast (memories.is_reached (layout_of l.fn.layout) (plain l.memory) l.bytes (value_of l.fn.at)) (length l.fn.layout.objects) (take l.base-index l.base-items) l.found
