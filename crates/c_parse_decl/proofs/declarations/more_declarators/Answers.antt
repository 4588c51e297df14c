use Rattle.std.proofs.Common.{rules, ◌∙◌, ◌<◌, length, arith, refl}
use Rattle.grammar.proofs.Loops.{midst_on, midst_end, midst_none, several_begun}
use Rattle.c_grammar.specs.Leaves.{C}
use Rattle.c_unit_tree.specs.Views.{init_kids}
use Rattle.c_parse_decl.proofs.declarations.more_declarators.Goals as goal

pub reading-init : goal.reading-init
reading-init c = (refl, omega arith, omega arith, several_begun C init_kids _ _ _ _ _)

pub reading-preserved : goal.reading-preserved
reading-preserved c =
    let i = c.reading.invariant in
    let less : length c.in-Some.next.now < length c.reading.rest.now = rw c.in-Some.is at c.in_ok-next_declarator.ensures.shorter in (
      c.in_ok-next_declarator.ensures.kept ∙ i.0,
      omega arith,
      (let n = c.in_ok-push-in-Some.ensures.len in omega arith),
      midst_on C init_kids _ _ _ _ i.3 (search rules) (rw c.in-Some.is at c.in_ok-next_declarator.ensures.found) less c.in_ok-push-in-Some.ensures.items,
    )

pub returns-in-None-clause-found : goal.returns-in-None-clause-found
returns-in-None-clause-found c = midst_none C init_kids _ _ _ c.reading.invariant.3 (search rules) (rw c.in-None.is at c.in_ok-next_declarator.ensures.found)

pub returns-clause-found : goal.returns-clause-found
returns-clause-found c = midst_end C init_kids _ _ _ c.reading.invariant.3 (search rules)
