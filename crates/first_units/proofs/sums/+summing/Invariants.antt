use Rattle.std.proofs.Common.{◌≡◌, drop, map}
use Rattle.c_tree.specs.Views.{operands_of}
use Rattle.first_program.specs.SourceViews.{addend_tree}
use Rattle.first_units.specs.Sums.{addends_of}
use Rattle.first_units.proofs.Steps.{joined}
use Rattle.first_units.proofs.sums.+summing.Given as goal

abbrev pub invariant-addends_of-loop-operand : goal.invariant-addends_of-loop-operand
invariant-addends_of-loop-operand l =
    joined (map addend_tree l.found) (addends_of l.variables.keys (operands_of (drop l.operand-index l.operands))) ≡ addends_of l.variables.keys (operands_of l.operands)
