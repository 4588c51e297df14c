use Rattle.std.proofs.Common.{◌∙◌, Ok, ap, sym, arith}
use Rattle.c_parse_expr.proofs.PromisedTypes.{specifiers_missing, specifiers_missing_plainly, specifiers_there, specifiers_there_plainly}
use Rattle.c_parse_expr.proofs.declaring.specifiers_within.Goals as goal

pub returns-in-None-clause-read : goal.returns-in-None-clause-read
returns-in-None-clause-read c =
    specifiers_missing _ c.args.depth _ _ _ _ _ _ _ _ c.some_specifiers-found.ensures.found c.some_specifiers-found.ensures.height c.some_specifiers-found.ensures.kept
    c.enter-scope.ensures.same c.enter-scope.ensures.kept c.requires.depth
    c.no_deeper.ensures (sym c.close.ensures.same ∙ c.in_ok-close.was ∙ ap Ok c.in-None.is) c.close.ensures.names (omega arith)

pub returns-in-Some-clause-read : goal.returns-in-Some-clause-read
returns-in-Some-clause-read c =
    specifiers_there _ c.args.depth _ _ _ _ _ _ _ _ c.in-Some.found c.some_specifiers-found.ensures.found c.some_specifiers-found.ensures.height c.some_specifiers-found.ensures.names
    c.enter-scope.ensures.same c.requires.depth
    c.no_deeper.ensures (sym c.close.ensures.same ∙ c.in_ok-close.was ∙ ap Ok c.in-Some.is) c.close.ensures.names (omega arith)

pub returns-in-None-clause-found : goal.returns-in-None-clause-found
returns-in-None-clause-found c =
    specifiers_missing_plainly _ c.args.depth _ _ _ _ _ _ c.some_specifiers-found.ensures.found c.some_specifiers-found.ensures.height
    c.enter-scope.ensures.same c.requires.depth c.no_deeper.ensures (sym c.close.ensures.same ∙ c.in_ok-close.was ∙ ap Ok c.in-None.is) (omega arith)

pub returns-in-Some-clause-found : goal.returns-in-Some-clause-found
returns-in-Some-clause-found c =
    specifiers_there_plainly _ c.args.depth _ _ _ _ _ _ c.in-Some.found c.some_specifiers-found.ensures.found c.some_specifiers-found.ensures.height
    c.enter-scope.ensures.same c.requires.depth c.no_deeper.ensures (sym c.close.ensures.same ∙ c.in_ok-close.was ∙ ap Ok c.in-Some.is) (omega arith)
