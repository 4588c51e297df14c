use Rattle.std.proofs.Common.{◌∙◌, ap}
use Rattle.c_base.specs.declared.token.Punctuator.TheVariants as mark
use Rattle.grammar.specs.Reading.{with_kid}
use Rattle.c_grammar.specs.Leaves.{C}
use Rattle.c_grammar.specs.Table.{optional_before}
use Rattle.c_unit_tree.specs.Views.{optional_value}
use Rattle.c_parse_heads.proofs.heads.later_at.Goals as goal

pub returns-in-None-clause-found : goal.returns-in-None-clause-found
returns-in-None-clause-found c = λ more. (rw c.in-None.is at c.in_ok-optional_at.ensures.found) (optional_before mark.CloseParenthesis more)

pub returns-in-None-2-clause-found : goal.returns-in-None-2-clause-found
returns-in-None-2-clause-found c = λ more.
    ap (with_kid C (optional_value c.in-Some.second)) ((rw c.in-None-2.is at c.in_ok-optional_at-in-Some.ensures.found) more)
    ∙ (rw c.in-Some.is at c.in_ok-optional_at.ensures.found) (optional_before mark.CloseParenthesis more)

pub returns-in-Some-2-clause-found : goal.returns-in-Some-2-clause-found
returns-in-Some-2-clause-found c = λ more.
    ap (with_kid C (optional_value c.in-Some.second)) ((rw c.in-Some-2.is at c.in_ok-optional_at-in-Some.ensures.found) more)
    ∙ (rw c.in-Some.is at c.in_ok-optional_at.ensures.found) (optional_before mark.CloseParenthesis more)
