use Rattle.std.proofs.Common.{rules}
use Rattle.c_parse_stmt.proofs.Picked.{statement_picked}
use Rattle.c_parse_stmt.proofs.reader.statement_above.Goals as goal

pub returns-in-Some-clause-found : goal.returns-in-Some-clause-found
returns-in-Some-clause-found g c =
    rw (← statement_picked (g.B.StatementsBelow.depth c.args.below.now) c.args.names.now.names c.in-Some.first.now c.in-Some.rest.now c.args.tokens.now c.statement_rule-rule.result (search rules) (search rules))
    c.by_rule.ensures.found
