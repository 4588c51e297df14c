use Rattle.std.proofs.Common.{◌∙◌, Ok, ap, sym}
use Rattle.c_parse_expr.proofs.PromisedTypes.{declarator_missing, declarator_missing_plainly, declarator_there, declarator_there_plainly}
use Rattle.c_parse_expr.proofs.declaring.declarator_within.Goals as goal

pub returns-in-None-clause-read : goal.returns-in-None-clause-read
returns-in-None-clause-read c =
    declarator_missing _ _ _ _ _ _ _ _ _ _ c.read_at-found.ensures c.enter-scope.ensures.same c.enter-scope.ensures.kept c.requires.depth
    c.no_deeper.ensures (sym c.close.ensures.same ∙ c.in_ok-close.was ∙ ap Ok c.in-None.is) c.close.ensures.names

pub returns-in-Some-clause-read : goal.returns-in-Some-clause-read
returns-in-Some-clause-read c =
    declarator_there _ _ _ _ _ _ _ _ _ _ c.in-Some.found _ c.read_at-found.ensures c.enter-scope.ensures.same c.requires.depth
    c.no_deeper.ensures (sym c.close.ensures.same ∙ c.in_ok-close.was ∙ ap Ok c.in-Some.is) c.close.ensures.names
    c.as_declarator.ensures

pub returns-in-None-clause-found : goal.returns-in-None-clause-found
returns-in-None-clause-found c =
    declarator_missing_plainly _ _ _ _ _ _ _ _ _ c.read_at-found.ensures c.enter-scope.ensures.same c.requires.depth
    c.no_deeper.ensures (sym c.close.ensures.same ∙ c.in_ok-close.was ∙ ap Ok c.in-None.is)

pub returns-in-Some-clause-found : goal.returns-in-Some-clause-found
returns-in-Some-clause-found c =
    declarator_there_plainly _ _ _ _ _ _ _ _ _ c.in-Some.found _ c.read_at-found.ensures c.enter-scope.ensures.same c.requires.depth
    c.no_deeper.ensures (sym c.close.ensures.same ∙ c.in_ok-close.was ∙ ap Ok c.in-Some.is) c.as_declarator.ensures
