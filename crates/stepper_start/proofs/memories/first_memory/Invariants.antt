use Rattle.stepper_memory.specs.Views.{plain}
use Rattle.stepper_start.proofs.Contents.{HasFirst}
use Rattle.stepper_start.proofs.memories.first_memory.Given as goal
use Rattle.stepper_values.specs.Views.{layout_of}

abbrev pub invariant-loop-n : goal.invariant-loop-n
invariant-loop-n l = HasFirst (layout_of l.fn.layout) l.base-items l.n (plain l.memory)
