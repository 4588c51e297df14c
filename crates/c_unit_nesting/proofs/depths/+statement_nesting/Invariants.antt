use Rattle.std.proofs.Common.{◌≡◌, ◌<◌, ◌^◌, max, drop, map}
use Rattle.grammar.specs.Reading.{groups}
use Rattle.grammar.specs.Spelling.{nest_all}
use Rattle.c_grammar.specs.Leaves.{C}
use Rattle.c_unit_tree.specs.Views.{arm_kids, block_item_kids}
use Rattle.c_unit_nesting.proofs.depths.+statement_nesting.Given as goal

abbrev pub invariant-arms-loop-each : goal.invariant-arms-loop-each
invariant-arms-loop-each l =
    nest_all C (groups C (map arm_kids l.all)) < 2 ^ 62 → max l.deepest (nest_all C (groups C (map arm_kids (drop l.each-index l.all)))) ≡ nest_all C (groups C (map arm_kids l.all))

abbrev pub invariant-block_items-loop-each : goal.invariant-block_items-loop-each
invariant-block_items-loop-each l =
    nest_all C (groups C (map block_item_kids l.all)) < 2 ^ 62 → max l.deepest (nest_all C (groups C (map block_item_kids (drop l.each-index l.all)))) ≡ nest_all C (groups C (map block_item_kids l.all))
