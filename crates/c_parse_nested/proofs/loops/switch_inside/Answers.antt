use Rattle.std.proofs.Common.{refl, rules}
use Rattle.c_base.specs.declared.token.Keyword.TheVariants as key
use Rattle.grammar.specs.Forms.{Done, Key}
use Rattle.c_grammar.specs.declared.rule.Rule.TheVariants as rule
use Rattle.c_grammar.specs.Table.{branch, parenthesised}
use Rattle.c_parse_heads.proofs.Steps.{scope_none, scope_some}
use Rattle.c_parse_nested.proofs.loops.switch_inside.Goals as goal

pub returns-in-None-clause-found : goal.returns-in-None-clause-found
returns-in-None-clause-found g c =
    scope_none (g.B.StatementsBelow.depth c.args.below.now) rule.Switch (Key key.Switch (parenthesised (branch Done))) c.args.names.now.names c.args.tokens.now c.in-Some.span refl (search rules)
    ((rw c.in-None.is at c.in_ok-controlled_at.ensures.found) Done)

pub returns-in_ok-switch_of-in-Some-2-clause-found : goal.returns-in_ok-switch_of-in-Some-2-clause-found
returns-in_ok-switch_of-in-Some-2-clause-found g c =
    rw c.in_ok-switch_of-in-Some-2.ensures
    (scope_some (g.B.StatementsBelow.depth c.args.below.now) rule.Switch (Key key.Switch (parenthesised (branch Done))) c.args.names.now.names c.args.tokens.now c.in-Some.span refl (search rules) _ _ _
    ((rw c.in-Some-2.is at c.in_ok-controlled_at.ensures.found) Done))
