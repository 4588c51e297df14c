use Rattle.std.proofs.Common.{rules, ◌∙◌, ◌<◌, length, arith, refl}
use Rattle.grammar.proofs.Loops.{midst_on, midst_end, midst_none}
use Rattle.c_grammar.specs.Leaves.{C}
use Rattle.c_unit_tree.specs.Views.{block_item_kids}
use Rattle.c_parse_nested.proofs.Steps.{several_started}
use Rattle.c_parse_block.proofs.blocks.items_at.Goals as goal

pub reading-init : goal.reading-init
reading-init g c = (refl, omega arith, several_started block_item_kids _ _ _ _ _ c.new-found.ensures.items)

pub reading-preserved : goal.reading-preserved
reading-preserved g c =
    let i = c.reading.invariant in
    let less : length c.in-Some.next.now < length c.reading.rest.now = rw c.in-Some.is at c.in_ok-block_item_at.ensures.shorter in (
      c.in_ok-block_item_at.ensures.kept ∙ i.0,
      omega arith,
      midst_on C block_item_kids _ _ _ _ i.2 (search rules) (rw c.in-Some.is at c.in_ok-block_item_at.ensures.found) less c.in_ok-push-in-Some.ensures.items,
    )

pub returns-in-None-clause-found : goal.returns-in-None-clause-found
returns-in-None-clause-found g c = midst_none C block_item_kids _ _ _ c.reading.invariant.2 (search rules) (rw c.in-None.is at c.in_ok-block_item_at.ensures.found)

pub returns-clause-found : goal.returns-clause-found
returns-clause-found g c = rw c.from_vec.ensures (midst_end C block_item_kids _ _ _ c.reading.invariant.2 (search rules))
