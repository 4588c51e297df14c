use Rattle.std.proofs.Common.{None, Some, ap, refl, rules, ◌∙◌}
use Rattle.c_base.specs.declared.token.Keyword.TheVariants as key
use Rattle.c_base.specs.declared.token.Punctuator.TheVariants as mark
use Rattle.grammar.specs.Forms.{Done, Form, Here, Key, Mark}
use Rattle.grammar.specs.Reading.{with_kid}
use Rattle.c_grammar.specs.declared.rule.Rule.TheVariants as rule
use Rattle.c_grammar.specs.Leaves.{C}
use Rattle.c_grammar.specs.Table.{branch, parenthesised}
use Rattle.c_unit_tree.specs.Views.{branch_of, statement_tree}
use Rattle.c_parse_heads.proofs.Steps.{keyed, scope_none, scope_some}
use Rattle.c_parse_heads.specs.Ahead.{ending_trees}
use Rattle.c_parse_heads.specs.declared.heads.Ending.{Ending}
use Rattle.c_parse_nested.proofs.Steps.{ahead_as}
use Rattle.c_parse_nested.proofs.loops.do_inside.Goals as goal

-- "while" "(" expression ")" ";"
abbrev ending : Form C
ending = Here (Key key.While (parenthesised (Mark mark.Semicolon Done)))

pub returns-in-None-clause-found : goal.returns-in-None-clause-found
returns-in-None-clause-found g c =
    let d = g.B.StatementsBelow.depth c.args.below.now in
    scope_none d rule.Do (Key key.Do (branch ending)) c.args.names.now.names c.args.tokens.now c.in-Some.span refl (search rules)
    ((rw c.in-None.is at c.in_ok-branch_at.ensures.found) ending ∙ keyed d key.Do (branch ending) c.args.names.now.names c.args.tokens.now c.in-Some-behind_keyword.inside.now (search rules))

pub returns-in-None-2-clause-found : goal.returns-in-None-2-clause-found
returns-in-None-2-clause-found g c =
    let d = g.B.StatementsBelow.depth c.args.below.now in
    scope_none d rule.Do (Key key.Do (branch ending)) c.args.names.now.names c.args.tokens.now c.in-Some.span refl (search rules)
    (ap (with_kid C (branch_of (statement_tree c.in-Some-2.body))) (ahead_as {T = Ending} ending_trees (λ (f : Form C). Here (Key key.While (parenthesised (Mark mark.Semicolon f)))) {old = c.branch_at.new.names.names} {before = c.args.names.now.names} c.args.names.now.names c.in-Some-2.end.now None
    c.depth.ensures.same c.branch_at.ensures.same (rw c.in-None-2.is at c.in_ok-ending_at-in-Some-2.ensures.found) Done)
    ∙ (rw c.in-Some-2.is at c.in_ok-branch_at.ensures.found) ending ∙ keyed d key.Do (branch ending) c.args.names.now.names c.args.tokens.now c.in-Some-behind_keyword.inside.now (search rules))

pub returns-in_ok-do_of-in-Some-3-clause-found : goal.returns-in_ok-do_of-in-Some-3-clause-found
returns-in_ok-do_of-in-Some-3-clause-found g c =
    let d = g.B.StatementsBelow.depth c.args.below.now in
    rw c.in_ok-do_of-in-Some-3.ensures
    (scope_some d rule.Do (Key key.Do (branch ending)) c.args.names.now.names c.args.tokens.now c.in-Some.span refl (search rules) _ _ _
    (ap (with_kid C (branch_of (statement_tree c.in-Some-2.body))) (ahead_as {T = Ending} ending_trees (λ (f : Form C). Here (Key key.While (parenthesised (Mark mark.Semicolon f)))) {old = c.branch_at.new.names.names} {before = c.args.names.now.names} c.ending_at.new.names.names c.in-Some-2.end.now (Some (c.in-Some-3.ending, c.in-Some-3.rest))
    c.depth.ensures.same c.branch_at.ensures.same (rw c.in-Some-3.is at c.in_ok-ending_at-in-Some-2.ensures.found) Done)
    ∙ (rw c.in-Some-2.is at c.in_ok-branch_at.ensures.found) ending ∙ keyed d key.Do (branch ending) c.args.names.now.names c.args.tokens.now c.in-Some-behind_keyword.inside.now (search rules)))
