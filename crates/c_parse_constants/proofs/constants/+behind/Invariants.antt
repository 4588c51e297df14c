use Rattle.std.proofs.Common.{◌≡◌, drop}
use Rattle.c_tree.specs.Views.{exprs_of, parts_of, operands_of, suffixes_of, fields_of, members_of, enumerators_of, specifiers_of}
use Rattle.c_tree.specs.WellFormed.{after_all}
use Rattle.c_parse_base.specs.KnownNames.{kept}
use Rattle.c_parse_constants.proofs.constants.+behind.Given as goal

abbrev pub invariant-exprs-loop-each : goal.invariant-exprs-loop-each
invariant-exprs-loop-each l =
    (after_all l.names.names (exprs_of (drop l.each-index l.all)) ≡ after_all l.initial.names.names (exprs_of l.all)) × (kept l.names ≡ kept l.initial.names)

abbrev pub invariant-parts-loop-each : goal.invariant-parts-loop-each
invariant-parts-loop-each l =
    (after_all l.names.names (parts_of (drop l.each-index l.all)) ≡ after_all l.initial.names.names (parts_of l.all)) × (kept l.names ≡ kept l.initial.names)

abbrev pub invariant-operands-loop-each : goal.invariant-operands-loop-each
invariant-operands-loop-each l =
    (after_all l.names.names (operands_of (drop l.each-index l.all)) ≡ after_all l.initial.names.names (operands_of l.all)) × (kept l.names ≡ kept l.initial.names)

abbrev pub invariant-suffixes-loop-each : goal.invariant-suffixes-loop-each
invariant-suffixes-loop-each l =
    (after_all l.names.names (suffixes_of (drop l.each-index l.all)) ≡ after_all l.initial.names.names (suffixes_of l.all)) × (kept l.names ≡ kept l.initial.names)

abbrev pub invariant-fields-loop-each : goal.invariant-fields-loop-each
invariant-fields-loop-each l =
    (after_all l.names.names (fields_of (drop l.each-index l.all)) ≡ after_all l.initial.names.names (fields_of l.all)) × (kept l.names ≡ kept l.initial.names)

abbrev pub invariant-members-loop-each : goal.invariant-members-loop-each
invariant-members-loop-each l =
    (after_all l.names.names (members_of (drop l.each-index l.all)) ≡ after_all l.initial.names.names (members_of l.all)) × (kept l.names ≡ kept l.initial.names)

abbrev pub invariant-enumerators-loop-each : goal.invariant-enumerators-loop-each
invariant-enumerators-loop-each l =
    (after_all l.names.names (enumerators_of (drop l.each-index l.all)) ≡ after_all l.initial.names.names (enumerators_of l.all)) × (kept l.names ≡ kept l.initial.names)

abbrev pub invariant-specifiers-loop-each : goal.invariant-specifiers-loop-each
invariant-specifiers-loop-each l =
    (after_all l.names.names (specifiers_of (drop l.each-index l.all)) ≡ after_all l.initial.names.names (specifiers_of l.all)) × (kept l.names ≡ kept l.initial.names)
