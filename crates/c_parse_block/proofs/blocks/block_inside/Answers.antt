use Rattle.std.proofs.Common.{map, ap, refl, rules, ◌∙◌}
use Rattle.c_base.specs.declared.token.Punctuator.TheVariants as mark
use Rattle.grammar.specs.Forms.{Done, Form, Many, Mark}
use Rattle.grammar.specs.Reading.{with_kid}
use Rattle.c_grammar.specs.declared.rule.Rule.TheVariants as rule
use Rattle.c_grammar.specs.Leaves.{C}
use Rattle.c_grammar.specs.Table.{block_item, until_mark}
use Rattle.c_unit_tree.specs.Views.{block_item_kids, listing}
use Rattle.c_parse_heads.proofs.Steps.{marked, scope_none, scope_some, unmarked}
use Rattle.c_parse_block.proofs.Braced.{braced}
use Rattle.c_parse_block.proofs.blocks.block_inside.Goals as goal

-- "{" { item } "}"
abbrev braces : Form C
braces = Mark mark.OpenBrace (Many (until_mark mark.CloseBrace) block_item (Mark mark.CloseBrace Done))

pub returns-in-None-clause-found : goal.returns-in-None-clause-found
returns-in-None-clause-found g c =
    let d = g.B.StatementsBelow.depth c.args.below.now in
    let items = map block_item_kids c.in-Some-2.items in
    scope_none d rule.Block braces c.args.names.now.names c.args.tokens.now c.in-Some.span refl (search rules)
    (ap (with_kid C (listing items)) (unmarked d mark.CloseBrace Done c.items_at.new.names.names c.in-Some-2.end.now (search rules))
    ∙ braced d (Mark mark.CloseBrace Done) c.args.names.now.names c.items_at.new.names.names c.args.tokens.now c.in-Some-expect_punctuator.inside.now c.in-Some-2.end.now items
    (search rules) (rw (c.in-Some-2.is, c.expect_punctuator.ensures.same) at c.in_ok-items.ensures.found))

pub returns-in-Some-expect_punctuator-2-clause-found : goal.returns-in-Some-expect_punctuator-2-clause-found
returns-in-Some-expect_punctuator-2-clause-found g c =
    let d = g.B.StatementsBelow.depth c.args.below.now in
    let items = map block_item_kids c.in-Some-2.items in
    rw c.block_of.ensures
    (scope_some d rule.Block braces c.args.names.now.names c.args.tokens.now c.in-Some.span refl (search rules) _ _ _
    (ap (with_kid C (listing items)) (marked d mark.CloseBrace Done c.items_at.new.names.names c.in-Some-2.end.now c.in-Some-expect_punctuator-2.rest.now (search rules))
    ∙ braced d (Mark mark.CloseBrace Done) c.args.names.now.names c.items_at.new.names.names c.args.tokens.now c.in-Some-expect_punctuator.inside.now c.in-Some-2.end.now items
    (search rules) (rw (c.in-Some-2.is, c.expect_punctuator.ensures.same) at c.in_ok-items.ensures.found)))
