use Rattle.std.proofs.Common.{arith}
use Rattle.stepper_memory.specs.Views.{plain}
use Rattle.stepper_start.proofs.Contents.{nothing_first, first_next, first_done}
use Rattle.stepper_start.proofs.memories.first_memory.Goals as goal
use Rattle.stepper_values.specs.Views.{layout_of}

pub loop-n-init : goal.loop-n-init
loop-n-init c = nothing_first (layout_of c.args.layout.now) c.as_slice-base-items.result.now (plain c.new-memory.result) c.new-memory.ensures

pub loop-n-preserved : goal.loop-n-preserved
loop-n-preserved c =
    first_next (layout_of c.args.layout.now) c.as_slice-base-items.result.now c.loop-n.n c.base-item.result (plain c.loop-n.memory) (plain c.write_first.new.memory) (omega arith) c.base-item.is
    c.loop-n.invariant c.in_ok-write_first.ensures

pub returns : goal.returns
returns c =
    first_done (layout_of c.args.layout.now) c.args.program.now c.as_slice-base-items.result.now c.loop-n.n (plain c.loop-n.memory) c.as_slice-base-items.ensures (omega arith)
    c.loop-n.invariant
