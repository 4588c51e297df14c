use Rattle.std.proofs.Common.{◌≡◌, drop, map}
use Rattle.c_effects.specs.Passing.{passed}
use Rattle.stepper_values.specs.Views.{layout_of}
use Rattle.stepper_memory.specs.Views.{plain}
use Rattle.stepper_accesses.specs.Arguments.{argument_of}
use Rattle.stepper_accesses.proofs.scopes.pass.Given as goal

abbrev pub invariant-loop-n : goal.invariant-loop-n
invariant-loop-n l =
    passed (layout_of l.fn.layout) (drop l.n l.formals) (drop l.n (map argument_of l.arguments)) (plain l.memory)
    ≡ passed (layout_of l.fn.layout) l.formals (map argument_of l.arguments) (plain l.initial.memory)
