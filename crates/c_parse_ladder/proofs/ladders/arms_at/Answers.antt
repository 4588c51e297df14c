use Rattle.std.proofs.Common.{rules, ◌∙◌, ◌<◌, length, arith, refl}
use Rattle.grammar.proofs.Loops.{midst_on, midst_end, midst_none}
use Rattle.c_grammar.specs.Leaves.{C}
use Rattle.c_unit_tree.specs.Views.{arm_kids}
use Rattle.c_parse_nested.proofs.Steps.{several_started}
use Rattle.c_parse_ladder.proofs.ladders.arms_at.Goals as goal

pub climbing-init : goal.climbing-init
climbing-init g c = (refl, omega arith, several_started arm_kids _ _ _ _ _ c.new-found.ensures.items)

pub climbing-preserved : goal.climbing-preserved
climbing-preserved g c =
    let i = c.climbing.invariant in
    let less : length c.in-Some.next.now < length c.climbing.rest.now = rw c.in-Some.is at c.in_ok-arm_at.ensures.shorter in (
      c.in_ok-arm_at.ensures.kept ∙ i.0,
      omega arith,
      midst_on C arm_kids _ _ _ _ i.2 (search rules) (rw c.in-Some.is at c.in_ok-arm_at.ensures.found) less c.in_ok-push-in-Some.ensures.items,
    )

pub returns-in-None-clause-found : goal.returns-in-None-clause-found
returns-in-None-clause-found g c = midst_none C arm_kids _ _ _ c.climbing.invariant.2 (search rules) (rw c.in-None.is at c.in_ok-arm_at.ensures.found)

pub returns-clause-found : goal.returns-clause-found
returns-clause-found g c = rw c.from_vec.ensures (midst_end C arm_kids _ _ _ c.climbing.invariant.2 (search rules))
