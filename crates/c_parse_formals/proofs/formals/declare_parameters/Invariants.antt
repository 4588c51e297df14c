use Rattle.std.proofs.Common.{◌≡◌, drop}
use Rattle.c_tree.specs.Views.{parameters_of}
use Rattle.c_parse_base.specs.KnownNames.{kept}
use Rattle.c_grammar.specs.Table.{after_parameters}
use Rattle.c_parse_formals.proofs.formals.declare_parameters.Given as goal

abbrev pub invariant-loop-each : goal.invariant-loop-each
invariant-loop-each l =
    (after_parameters l.names.names (parameters_of (drop l.each-index l.all)) ≡ after_parameters l.initial.names.names (parameters_of l.all)) × (kept l.names ≡ kept l.initial.names)
