use Rattle.stepper_start.proofs.Packing.{IsPackedTo}
use Rattle.stepper_start.proofs.layouts.packed.Given as goal

abbrev pub invariant-loop-base : goal.invariant-loop-base
invariant-loop-base l = IsPackedTo l.program.machine l.base-items l.base-index l.objects l.address
