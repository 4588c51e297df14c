use Rattle.std.proofs.Common.{ap, refl, rules, ◌∙◌}
use Rattle.c_base.specs.declared.token.Keyword.TheVariants as key
use Rattle.grammar.specs.Forms.{Form, Key, Many}
use Rattle.c_grammar.specs.declared.rule.Rule.TheVariants as rule
use Rattle.c_grammar.specs.Leaves.{C}
use Rattle.c_grammar.specs.Table.{arm, branch, last, on_else_if, parenthesised}
use Rattle.c_parse_heads.proofs.Steps.{scope_none, scope_some}
use Rattle.c_parse_heads.specs.Ahead.{with_kids}
use Rattle.c_parse_nested.specs.Controls.{controlled_trees}
use Rattle.c_parse_ladder.proofs.ladders.if_inside.Goals as goal

-- { arm } last
abbrev ladder : Form C
ladder = Many on_else_if arm last

pub returns-in-None-clause-found : goal.returns-in-None-clause-found
returns-in-None-clause-found g c =
    scope_none (g.B.StatementsBelow.depth c.args.below.now) rule.If (Key key.If (parenthesised (branch ladder))) c.args.names.now.names c.args.tokens.now c.in-Some.span refl (search rules)
    ((rw c.in-None.is at c.in_ok-controlled_at.ensures.found) ladder)

pub returns-in-None-2-clause-found : goal.returns-in-None-2-clause-found
returns-in-None-2-clause-found g c =
    scope_none (g.B.StatementsBelow.depth c.args.below.now) rule.If (Key key.If (parenthesised (branch ladder))) c.args.names.now.names c.args.tokens.now c.in-Some.span refl (search rules)
    (ap (with_kids (controlled_trees c.in-Some-2.first)) (rw c.in-None-2.is at c.in_ok-ladder_at-in-Some-2.ensures.found) ∙ (rw c.in-Some-2.is at c.in_ok-controlled_at.ensures.found) ladder)

pub returns-in_ok-if_of-in-Some-3-clause-found : goal.returns-in_ok-if_of-in-Some-3-clause-found
returns-in_ok-if_of-in-Some-3-clause-found g c =
    rw c.in_ok-if_of-in-Some-3.ensures
    (scope_some (g.B.StatementsBelow.depth c.args.below.now) rule.If (Key key.If (parenthesised (branch ladder))) c.args.names.now.names c.args.tokens.now c.in-Some.span refl (search rules) _ _ _
    (ap (with_kids (controlled_trees c.in-Some-2.first)) (rw c.in-Some-3.is at c.in_ok-ladder_at-in-Some-2.ensures.found) ∙ (rw c.in-Some-2.is at c.in_ok-controlled_at.ensures.found) ladder))
