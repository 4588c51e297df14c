use Rattle.std.proofs.Common.{map, ap, rules, ◌∙◌}
use Rattle.c_base.specs.declared.token.Punctuator.TheVariants as mark
use Rattle.grammar.specs.Forms.{Done, Form, Here, Many, Mark, Place}
use Rattle.grammar.specs.Reading.{node, with_kid}
use Rattle.c_grammar.specs.declared.rule.Rule.TheVariants as rule
use Rattle.c_grammar.specs.Leaves.{C}
use Rattle.c_grammar.specs.Picking.{readers}
use Rattle.c_grammar.specs.Table.{block_item, table, until_mark}
use Rattle.c_unit_tree.specs.Views.{block_item_kids, listing}
use Rattle.c_parse_heads.proofs.Steps.{placed}
use Rattle.c_parse_block.proofs.Braced.{braced}
use Rattle.c_parse_unit.proofs.functions.body_rule.Goals as goal

-- "}", with its place
abbrev closing : Form C
closing = Here (Mark mark.CloseBrace Done)

-- "{" { item } "}"
abbrev braces : Form C
braces = Mark mark.OpenBrace (Many (until_mark mark.CloseBrace) block_item closing)

pub returns-in-None-clause-found : goal.returns-in-None-clause-found
returns-in-None-clause-found c =
    let items = map block_item_kids c.in-Some-2.items in
    ap (node C table readers rule.Body)
    (ap (with_kid C (Place c.in-Some.span))
    (ap (with_kid C (listing items)) (rw c.in-None.is at c.closing_at.ensures.found)
    ∙ braced c.args.depth closing c.args.names.now.names c.items_within.new.names.names c.args.tokens.now c.in-Some-expect_punctuator.inside.now c.in-Some-2.end.now items
    (search rules) (rw (c.in-Some-2.is, c.expect_punctuator.ensures.same) at c.in_ok-items.ensures.found))
    ∙ placed c.args.depth braces c.args.names.now.names c.args.tokens.now c.in-Some.span (search rules))

pub returns-in-Some-closing_at-clause-found : goal.returns-in-Some-closing_at-clause-found
returns-in-Some-closing_at-clause-found c =
    let items = map block_item_kids c.in-Some-2.items in
    rw (c.body_of.ensures, c.closing_at.ensures.same)
    (ap (node C table readers rule.Body)
    (ap (with_kid C (Place c.in-Some.span))
    (ap (with_kid C (listing items)) (rw c.in-Some-closing_at.is at c.closing_at.ensures.found)
    ∙ braced c.args.depth closing c.args.names.now.names c.items_within.new.names.names c.args.tokens.now c.in-Some-expect_punctuator.inside.now c.in-Some-2.end.now items
    (search rules) (rw (c.in-Some-2.is, c.expect_punctuator.ensures.same) at c.in_ok-items.ensures.found))
    ∙ placed c.args.depth braces c.args.names.now.names c.args.tokens.now c.in-Some.span (search rules)))
