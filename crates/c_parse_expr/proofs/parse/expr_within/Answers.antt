use Rattle.std.proofs.Common.{◌∙◌, ap, Ok}
use Rattle.c_parse_expr.proofs.Promised.{expr_found, expr_found_plainly, expr_missing, expr_missing_plainly}
use Rattle.c_parse_expr.proofs.parse.expr_within.Goals as goal

pub returns-in-None-clause-read : goal.returns-in-None-clause-read
returns-in-None-clause-read c = expr_missing _ _ _ _ _ _ c.read_at.ensures (c.in_ok-read_at.was ∙ ap Ok c.in-None.is) c.requires.level

pub returns-in-Some-clause-read : goal.returns-in-Some-clause-read
returns-in-Some-clause-read c =
    expr_found _ _ _ _ _ _ c.in-Some.found _ c.read_at.ensures (c.in_ok-read_at.was ∙ ap Ok c.in-Some.is) c.as_expr.ensures c.requires.level

pub returns-in-None-clause-found : goal.returns-in-None-clause-found
returns-in-None-clause-found c = expr_missing_plainly _ _ _ _ _ _ c.read_at.ensures (c.in_ok-read_at.was ∙ ap Ok c.in-None.is)

pub returns-in-Some-clause-found : goal.returns-in-Some-clause-found
returns-in-Some-clause-found c = expr_found_plainly _ _ _ _ _ _ c.in-Some.found _ c.read_at.ensures (c.in_ok-read_at.was ∙ ap Ok c.in-Some.is) c.as_expr.ensures
