use Rattle.std.proofs.Common.{rules, sym, map, ◌∙◌, ◌<◌, length, arith, refl}
use Rattle.grammar.proofs.Loops.{midst_on, midst_end, midst_none, several_begun}
use Rattle.c_grammar.specs.Leaves.{C}
use Rattle.c_unit_tree.specs.Views.{item_kids}
use Rattle.c_parse_initialisers.proofs.Picked.{braces_none, braces_picked, braces_some}
use Rattle.c_parse_initialisers.proofs.initialisers.+braces.Goals as goal

pub more_items-reading-init : goal.more_items-reading-init
more_items-reading-init t c = (refl, omega arith, several_begun C item_kids _ _ _ _ _)

pub more_items-reading-preserved : goal.more_items-reading-preserved
more_items-reading-preserved t c =
    let i = c.reading.invariant in
    let less : length c.in-Some.next.now < length c.reading.rest.now = rw c.in-Some.is at c.in_ok-next_item.ensures.shorter in (
      c.in_ok-next_item.ensures.kept ∙ i.0,
      omega arith,
      midst_on C item_kids _ _ _ _ i.2 (search rules) (rw c.in-Some.is at c.in_ok-next_item.ensures.found) less c.in_ok-push-in-Some.ensures.items,
    )

pub more_items-returns-in-None-clause-found : goal.more_items-returns-in-None-clause-found
more_items-returns-in-None-clause-found t c = midst_none C item_kids _ _ _ c.reading.invariant.2 (search rules) (rw c.in-None.is at c.in_ok-next_item.ensures.found)

pub more_items-returns-clause-found : goal.more_items-returns-clause-found
more_items-returns-clause-found t c = midst_end C item_kids _ _ _ c.reading.invariant.2 (search rules)

pub braces_at-returns-clause-found : goal.braces_at-returns-clause-found
braces_at-returns-clause-found t c = rw (← braces_picked c.args.depth c.args.names.now.names c.args.tokens.now (omega arith)) c.braces_rule.ensures.found

pub braces_rule-returns-in-None-clause-found : goal.braces_rule-returns-in-None-clause-found
braces_rule-returns-in-None-clause-found t c =
    sym (braces_none c.args.depth c.args.names.now.names c.items_at.new.names.names c.args.tokens.now c.in-Some-expect_punctuator.inside.now c.in-Some-2.behind.now c.in-Some.span
    (map item_kids c.in-Some-2.items) (search rules) (search rules) (sym (rw (c.in-Some-2.is, c.expect_punctuator.ensures.same) at c.in_ok-items.ensures.found)) (sym (rw c.in-None.is at c.braces_end.ensures.found)))

pub braces_rule-returns-in-Some-braces_end-clause-found : goal.braces_rule-returns-in-Some-braces_end-clause-found
braces_rule-returns-in-Some-braces_end-clause-found t c =
    rw (c.braces_of.ensures, c.braces_end.ensures.same)
    (sym (braces_some c.args.depth c.args.names.now.names c.items_at.new.names.names c.args.tokens.now c.in-Some-expect_punctuator.inside.now c.in-Some-2.behind.now c.in-Some.span
    (map item_kids c.in-Some-2.items) (search rules) (search rules) (sym (rw (c.in-Some-2.is, c.expect_punctuator.ensures.same) at c.in_ok-items.ensures.found))
    c.in-Some-braces_end.comma c.in-Some-braces_end.rest.now (sym (rw c.in-Some-braces_end.is at c.braces_end.ensures.found))))
