use Rattle.std.proofs.Common.{rules, true, ◌∙◌, ap}
use Rattle.c_base.specs.declared.token.Keyword.TheVariants as key
use Rattle.c_base.specs.declared.token.Punctuator.TheVariants as mark
use Rattle.grammar.specs.Forms.{Form, Group, Part}
use Rattle.grammar.specs.Reading.{with_kid}
use Rattle.c_grammar.specs.Leaves.{C}
use Rattle.c_grammar.specs.Table.{for_first, optional_before}
use Rattle.c_unit_tree.specs.Views.{first_kids}
use Rattle.c_parse_heads.proofs.Steps.{headed}
use Rattle.c_parse_heads.proofs.heads.steps_at.Goals as goal

abbrev later : Form C → Form C
later more = optional_before mark.Semicolon (optional_before mark.CloseParenthesis more)

pub returns-in-None-clause-found : goal.returns-in-None-clause-found
returns-in-None-clause-found c = λ more.
    (rw (c.in-None.is, c.expect_punctuator.ensures.same, c.expect_keyword.ensures.same) at c.in_ok-first_at.ensures.found) (later more)
    ∙ headed c.args.depth key.For mark.OpenParenthesis (Part for_first (later more)) c.args.names.now.names c.args.tokens.now c.in-Some.start.now c.in-Some-expect_punctuator.inside.now
    (search rules) (search rules)

pub returns-in-None-2-clause-found : goal.returns-in-None-2-clause-found
returns-in-None-2-clause-found c = λ more.
    ap (with_kid C (Group true (first_kids c.in-Some-2.first))) ((rw c.in-None-2.is at c.in_ok-later_at-in-Some-2.ensures.found) more)
    ∙ (rw (c.in-Some-2.is, c.expect_punctuator.ensures.same, c.expect_keyword.ensures.same) at c.in_ok-first_at.ensures.found) (later more)
    ∙ headed c.args.depth key.For mark.OpenParenthesis (Part for_first (later more)) c.args.names.now.names c.args.tokens.now c.in-Some.start.now c.in-Some-expect_punctuator.inside.now
    (search rules) (search rules)

pub returns-in-Some-3-clause-found : goal.returns-in-Some-3-clause-found
returns-in-Some-3-clause-found c = λ more.
    ap (with_kid C (Group true (first_kids c.in-Some-2.first))) ((rw c.in-Some-3.is at c.in_ok-later_at-in-Some-2.ensures.found) more)
    ∙ (rw (c.in-Some-2.is, c.expect_punctuator.ensures.same, c.expect_keyword.ensures.same) at c.in_ok-first_at.ensures.found) (later more)
    ∙ headed c.args.depth key.For mark.OpenParenthesis (Part for_first (later more)) c.args.names.now.names c.args.tokens.now c.in-Some.start.now c.in-Some-expect_punctuator.inside.now
    (search rules) (search rules)
