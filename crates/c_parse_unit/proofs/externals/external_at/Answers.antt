use Rattle.std.proofs.Common.{arith, rules}
use Rattle.c_parse_unit.proofs.Steps.{assertion_picked, empty_picked, external_picked}
use Rattle.c_parse_unit.proofs.externals.external_at.Goals as goal

pub returns-then-on_punctuator-clause-found : goal.returns-then-on_punctuator-clause-found
returns-then-on_punctuator-clause-found c = rw (← empty_picked c.args.depth c.args.names.now.names c.args.tokens.now (omega arith) (search rules)) c.empty_rule.ensures.found

pub returns-then-on_keyword-clause-found : goal.returns-then-on_keyword-clause-found
returns-then-on_keyword-clause-found c = rw (← assertion_picked c.args.depth c.args.names.now.names c.args.tokens.now (omega arith) (search rules)) c.asserted_rule.ensures.found

pub returns-clause-found : goal.returns-clause-found
returns-clause-found c = rw (← external_picked c.args.depth c.args.names.now.names c.args.tokens.now (omega arith) (search rules) (search rules)) c.external_rule.ensures.found
