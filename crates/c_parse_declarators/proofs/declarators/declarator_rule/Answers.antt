use Rattle.c_parse_base.specs.Purposes.{before_of, purpose_of}
use Rattle.c_parse_declarators.proofs.code.Whole.{declarator_whole}
use Rattle.c_parse_declarators.proofs.declarators.declarator_rule.Goals as goal

pub returns-then-found-tokens-clause-found : goal.returns-then-found-tokens-clause-found
returns-then-found-tokens-clause-found g c =
    declarator_whole (g.B.Below.depth c.args.below.now) (purpose_of c.args.purpose) (before_of c.args.before) _ _ _ _ _ _ _ _ _ _
    c.in_ok-pointers.ensures.found (rw c.in-Some.is at c.in_ok-core.ensures.found) c.in_ok-suffixes.ensures.found c.first_span.ensures
    (c.declarator_of-found.ensures.same (g.B.Below.depth c.args.below.now)) c.declarator_of-found.ensures.height c.declarator_of-found.ensures.names c.if-found-tokens.true
