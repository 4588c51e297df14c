use Rattle.std.proofs.Common.{◌≡◌, ◌++◌, map, drop}
use Rattle.c_program.specs.Views.{number_of}
use Rattle.stepper_exits.proofs.exits.add_numbers.Given as goal

abbrev pub invariant-loop-base : goal.invariant-loop-base
invariant-loop-base l = l.out ++ map number_of (drop l.base-index l.bases) ≡ l.initial.out ++ map number_of l.bases
