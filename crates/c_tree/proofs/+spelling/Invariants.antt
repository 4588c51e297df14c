use Rattle.std.proofs.Common.{◌≡◌, ◌++◌, drop}
use Rattle.c_tree.specs.Spelling.{words_of, pieces_of_all, pieces_with_commas}
use Rattle.c_tree.specs.Views.{exprs_of, parts_of, operands_of, specifiers_of, enumerators_of, members_of, fields_of, suffixes_of, parameters_of}
use Rattle.c_tree.proofs.+spelling.Given as goal

abbrev pub invariant-type_words::enumerators-loop-each : goal.invariant-type_words::enumerators-loop-each
invariant-type_words::enumerators-loop-each l =
    l.out ++ words_of (pieces_with_commas l.is_behind (enumerators_of (drop l.each-index l.all))) ≡ l.initial.out ++ words_of (pieces_with_commas l.initial.is_behind (enumerators_of l.all))

abbrev pub invariant-type_words::fields-loop-each : goal.invariant-type_words::fields-loop-each
invariant-type_words::fields-loop-each l =
    l.out ++ words_of (pieces_with_commas l.is_behind (fields_of (drop l.each-index l.all))) ≡ l.initial.out ++ words_of (pieces_with_commas l.initial.is_behind (fields_of l.all))

abbrev pub invariant-type_words::parameters-loop-each : goal.invariant-type_words::parameters-loop-each
invariant-type_words::parameters-loop-each l =
    l.out ++ words_of (pieces_with_commas l.is_behind (parameters_of (drop l.each-index l.all))) ≡ l.initial.out ++ words_of (pieces_with_commas l.initial.is_behind (parameters_of l.all))

abbrev pub invariant-words::exprs-loop-each : goal.invariant-words::exprs-loop-each
invariant-words::exprs-loop-each l =
    l.out ++ words_of (pieces_with_commas l.is_behind (exprs_of (drop l.each-index l.all))) ≡ l.initial.out ++ words_of (pieces_with_commas l.initial.is_behind (exprs_of l.all))

abbrev pub invariant-type_words::members-loop-each : goal.invariant-type_words::members-loop-each
invariant-type_words::members-loop-each l = l.out ++ words_of (pieces_of_all (members_of (drop l.each-index l.all))) ≡ l.initial.out ++ words_of (pieces_of_all (members_of l.all))

abbrev pub invariant-type_words::specifiers-loop-each : goal.invariant-type_words::specifiers-loop-each
invariant-type_words::specifiers-loop-each l = l.out ++ words_of (pieces_of_all (specifiers_of (drop l.each-index l.all))) ≡ l.initial.out ++ words_of (pieces_of_all (specifiers_of l.all))

abbrev pub invariant-type_words::suffixes-loop-each : goal.invariant-type_words::suffixes-loop-each
invariant-type_words::suffixes-loop-each l = l.out ++ words_of (pieces_of_all (suffixes_of (drop l.each-index l.all))) ≡ l.initial.out ++ words_of (pieces_of_all (suffixes_of l.all))

abbrev pub invariant-words::operands-loop-each : goal.invariant-words::operands-loop-each
invariant-words::operands-loop-each l = l.out ++ words_of (pieces_of_all (operands_of (drop l.each-index l.all))) ≡ l.initial.out ++ words_of (pieces_of_all (operands_of l.all))

abbrev pub invariant-words::parts-loop-each : goal.invariant-words::parts-loop-each
invariant-words::parts-loop-each l = l.out ++ words_of (pieces_of_all (parts_of (drop l.each-index l.all))) ≡ l.initial.out ++ words_of (pieces_of_all (parts_of l.all))
