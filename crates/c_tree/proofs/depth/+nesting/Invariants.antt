use Rattle.std.proofs.Common.{◌≡◌, ◌+◌, ◌<◌, ◌^◌, max, drop}
use Rattle.c_tree.specs.Nesting.{nest_all, nest_below}
use Rattle.c_tree.specs.Views.{exprs_of, parts_of, operands_of, specifiers_of, enumerators_of, members_of, fields_of, suffixes_of, parameters_of}
use Rattle.c_tree.proofs.depth.+nesting.Given as goal

abbrev pub invariant-enumerators-loop-each : goal.invariant-enumerators-loop-each
invariant-enumerators-loop-each l = nest_all (enumerators_of l.all) < 2 ^ 62 → max l.deepest (nest_all (enumerators_of (drop l.each-index l.all))) ≡ nest_all (enumerators_of l.all)

abbrev pub invariant-exprs-loop-each : goal.invariant-exprs-loop-each
invariant-exprs-loop-each l = nest_all (exprs_of l.all) < 2 ^ 62 → max l.deepest (nest_all (exprs_of (drop l.each-index l.all))) ≡ nest_all (exprs_of l.all)

abbrev pub invariant-fields-loop-each : goal.invariant-fields-loop-each
invariant-fields-loop-each l = nest_all (fields_of l.all) < 2 ^ 62 → max l.deepest (nest_all (fields_of (drop l.each-index l.all))) ≡ nest_all (fields_of l.all)

abbrev pub invariant-members-loop-each : goal.invariant-members-loop-each
invariant-members-loop-each l = nest_all (members_of l.all) < 2 ^ 62 → max l.deepest (nest_all (members_of (drop l.each-index l.all))) ≡ nest_all (members_of l.all)

abbrev pub invariant-operands-loop-each : goal.invariant-operands-loop-each
invariant-operands-loop-each l = nest_all (operands_of l.all) < 2 ^ 62 → max l.deepest (nest_all (operands_of (drop l.each-index l.all))) ≡ nest_all (operands_of l.all)

abbrev pub invariant-parameters-loop-each : goal.invariant-parameters-loop-each
invariant-parameters-loop-each l = nest_all (parameters_of l.all) < 2 ^ 62 → max l.deepest (nest_all (parameters_of (drop l.each-index l.all))) ≡ nest_all (parameters_of l.all)

abbrev pub invariant-parts-loop-each : goal.invariant-parts-loop-each
invariant-parts-loop-each l = nest_all (parts_of l.all) < 2 ^ 62 → max l.deepest (nest_all (parts_of (drop l.each-index l.all))) ≡ nest_all (parts_of l.all)

abbrev pub invariant-specifiers-loop-each : goal.invariant-specifiers-loop-each
invariant-specifiers-loop-each l = nest_all (specifiers_of l.all) < 2 ^ 62 → max l.deepest (nest_all (specifiers_of (drop l.each-index l.all))) ≡ nest_all (specifiers_of l.all)

abbrev pub invariant-suffixes-loop-each : goal.invariant-suffixes-loop-each
invariant-suffixes-loop-each l =
    nest_below (suffixes_of l.all) < 2 ^ 62 → max l.deepest (l.level + nest_below (suffixes_of (drop l.each-index l.all))) ≡ nest_below (suffixes_of l.all)
