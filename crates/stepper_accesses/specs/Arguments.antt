-- What the arguments of calls stand for.
use Rattle.std.specs.Prelude.{map}
use Rattle.c_effects.specs.Passing.{Argument, Whole, Parts}
use Rattle.stepper_values.specs.Views.{value_of, cell_of}
use Rattle.stepper_accesses.specs.declared.scopes.Argument.{Argument as CodeArgument}
use Rattle.stepper_accesses.specs.declared.scopes.Argument.TheVariants.{Whole as CodeWhole, Parts as CodeParts}

abbrev pub argument_of : CodeArgument → Argument
argument_of (CodeWhole v) = Whole (value_of v)
argument_of (CodeParts cells) = Parts (map cell_of cells)
