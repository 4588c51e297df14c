use Rattle.std.proofs.Common.{◌≡◌, reverse, take}
use Rattle.c_machine.specs.Machine as machine
use Rattle.stepper_work.specs.Views.{control_of}
use Rattle.stepper_exits.proofs.stops.statement_in.Given as goal

abbrev pub invariant-loop-work : goal.invariant-loop-work
invariant-loop-work l = l.found ≡ machine.statement_in (control_of (reverse (take l.work-index l.work-items)))
