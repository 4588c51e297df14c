use Rattle.std.proofs.Common.{rules, ◌∙◌, ap}
use Rattle.c_base.specs.declared.token.Keyword.TheVariants as key
use Rattle.c_base.specs.declared.token.Punctuator.TheVariants as mark
use Rattle.grammar.specs.Forms.{Key, Mark, Place}
use Rattle.grammar.specs.Reading.{with_kid}
use Rattle.c_grammar.specs.Leaves.{C}
use Rattle.c_grammar.specs.Table.{parenthesised}
use Rattle.c_unit_tree.specs.Views.{expr_value}
use Rattle.c_parse_heads.proofs.Steps.{marked, placed, unmarked}
use Rattle.c_parse_heads.proofs.heads.ending_at.Goals as goal

pub returns-in-None-clause-found : goal.returns-in-None-clause-found
returns-in-None-clause-found c = λ more.
    ap (with_kid C (Place c.in-Some.place)) ((rw c.in-None.is at c.in_ok-tested_at.ensures.found) (Mark mark.Semicolon more))
    ∙ placed c.args.depth (Key key.While (parenthesised (Mark mark.Semicolon more))) c.args.names.now.names c.args.tokens.now c.in-Some.place (search rules)

pub returns-in-None-expect_punctuator-clause-found : goal.returns-in-None-expect_punctuator-clause-found
returns-in-None-expect_punctuator-clause-found c = λ more.
    ap (with_kid C (Place c.in-Some.place))
    (ap (with_kid C (expr_value c.in-Some-2.condition)) (unmarked c.args.depth mark.Semicolon more c.tested_at.new.names.names c.in-Some-2.behind.now (search rules))
    ∙ (rw c.in-Some-2.is at c.in_ok-tested_at.ensures.found) (Mark mark.Semicolon more))
    ∙ placed c.args.depth (Key key.While (parenthesised (Mark mark.Semicolon more))) c.args.names.now.names c.args.tokens.now c.in-Some.place (search rules)

pub returns-in-Some-expect_punctuator-clause-found : goal.returns-in-Some-expect_punctuator-clause-found
returns-in-Some-expect_punctuator-clause-found c = λ more.
    rw c.expect_punctuator.ensures.same
    (ap (with_kid C (Place c.in-Some.place))
    (ap (with_kid C (expr_value c.in-Some-2.condition))
    (marked c.args.depth mark.Semicolon more c.tested_at.new.names.names c.in-Some-2.behind.now c.in-Some-expect_punctuator.rest.now (search rules))
    ∙ (rw c.in-Some-2.is at c.in_ok-tested_at.ensures.found) (Mark mark.Semicolon more))
    ∙ placed c.args.depth (Key key.While (parenthesised (Mark mark.Semicolon more))) c.args.names.now.names c.args.tokens.now c.in-Some.place (search rules))
