use Rattle.std.proofs.Common.{arith}
use Rattle.c_parse_unit.proofs.Steps.{body_picked}
use Rattle.c_parse_unit.proofs.functions.body_at.Goals as goal

pub returns-clause-found : goal.returns-clause-found
returns-clause-found c = rw (← body_picked c.args.depth c.args.names.now.names c.args.tokens.now (omega arith)) c.body_rule.ensures.found
