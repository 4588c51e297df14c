use Rattle.std.proofs.Common.{None, Some, ap, refl, rules, ◌∙◌}
use Rattle.c_base.specs.declared.token.Keyword.TheVariants as key
use Rattle.c_base.specs.declared.token.Punctuator.TheVariants as mark
use Rattle.grammar.specs.Forms.{Done, Form, Key, Mark, Part}
use Rattle.c_grammar.specs.declared.rule.Rule.TheVariants as rule
use Rattle.c_grammar.specs.Leaves.{C}
use Rattle.c_grammar.specs.Table.{branch, for_first, optional_before}
use Rattle.c_parse_heads.proofs.Steps.{scope_none, scope_some}
use Rattle.c_parse_heads.specs.Ahead.{steps_trees, with_kids}
use Rattle.c_parse_heads.specs.declared.heads.Steps.{Steps}
use Rattle.c_parse_nested.proofs.Steps.{ahead_as}
use Rattle.c_parse_nested.proofs.loops.for_inside.Goals as goal

-- "for" "(" first second ";" third ")"
abbrev steps : Form C → Form C
steps f = Key key.For (Mark mark.OpenParenthesis (Part for_first (optional_before mark.Semicolon (optional_before mark.CloseParenthesis f))))

pub returns-in-None-clause-found : goal.returns-in-None-clause-found
returns-in-None-clause-found g c =
    scope_none (g.B.StatementsBelow.depth c.args.below.now) rule.For (steps (branch Done)) c.args.names.now.names c.args.tokens.now c.in-Some.span refl (search rules)
    (ahead_as {T = Steps} steps_trees steps {old = c.args.names.now.names} {before = c.args.names.now.names} c.args.names.now.names c.args.tokens.now None c.depth.ensures.same refl
    (rw c.in-None.is at c.in_ok-steps_boxed.ensures.found) (branch Done))

pub returns-in-None-2-clause-found : goal.returns-in-None-2-clause-found
returns-in-None-2-clause-found g c =
    scope_none (g.B.StatementsBelow.depth c.args.below.now) rule.For (steps (branch Done)) c.args.names.now.names c.args.tokens.now c.in-Some.span refl (search rules)
    (ap (with_kids (steps_trees c.in-Some-2.steps)) ((rw c.in-None-2.is at c.in_ok-branch_at-in-Some-2.ensures.found) Done)
    ∙ ahead_as {T = Steps} steps_trees steps {old = c.args.names.now.names} {before = c.args.names.now.names} c.steps_boxed.new.names.names c.args.tokens.now (Some (c.in-Some-2.steps, c.in-Some-2.behind))
    c.depth.ensures.same refl (rw c.in-Some-2.is at c.in_ok-steps_boxed.ensures.found) (branch Done))

pub returns-in_ok-for_of-in-Some-3-clause-found : goal.returns-in_ok-for_of-in-Some-3-clause-found
returns-in_ok-for_of-in-Some-3-clause-found g c =
    rw c.in_ok-for_of-in-Some-3.ensures
    (scope_some (g.B.StatementsBelow.depth c.args.below.now) rule.For (steps (branch Done)) c.args.names.now.names c.args.tokens.now c.in-Some.span refl (search rules) _ _ _
    (ap (with_kids (steps_trees c.in-Some-2.steps)) ((rw c.in-Some-3.is at c.in_ok-branch_at-in-Some-2.ensures.found) Done)
    ∙ ahead_as {T = Steps} steps_trees steps {old = c.args.names.now.names} {before = c.args.names.now.names} c.steps_boxed.new.names.names c.args.tokens.now (Some (c.in-Some-2.steps, c.in-Some-2.behind))
    c.depth.ensures.same refl (rw c.in-Some-2.is at c.in_ok-steps_boxed.ensures.found) (branch Done)))
