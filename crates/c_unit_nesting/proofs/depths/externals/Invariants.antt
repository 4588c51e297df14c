use Rattle.std.proofs.Common.{◌≡◌, ◌<◌, ◌^◌, max, drop, map}
use Rattle.grammar.specs.Reading.{groups}
use Rattle.grammar.specs.Spelling.{nest_all}
use Rattle.c_grammar.specs.Leaves.{C}
use Rattle.c_unit_tree.specs.Views.{external_kids}
use Rattle.c_unit_nesting.proofs.depths.externals.Given as goal

abbrev pub invariant-loop-each : goal.invariant-loop-each
invariant-loop-each l =
    nest_all C (groups C (map external_kids l.all)) < 2 ^ 62 → max l.deepest (nest_all C (groups C (map external_kids (drop l.each-index l.all)))) ≡ nest_all C (groups C (map external_kids l.all))
