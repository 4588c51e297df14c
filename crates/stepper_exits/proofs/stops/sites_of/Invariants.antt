use Rattle.std.proofs.Common.{◌≡◌, reverse, take}
use Rattle.c_machine.specs.Machine as machine
use Rattle.stepper_work.specs.Views.{control_of}
use Rattle.stepper_exits.proofs.stops.sites_of.Given as goal

abbrev pub invariant-loop-work : goal.invariant-loop-work
invariant-loop-work l = l.sites ≡ machine.sites_of (control_of (reverse (take l.work-index l.work-items)))
