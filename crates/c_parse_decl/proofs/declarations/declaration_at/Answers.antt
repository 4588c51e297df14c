use Rattle.std.proofs.Common.{rules, arith}
use Rattle.c_parse_decl.proofs.Picked.{assertion_picked, declaration_picked}
use Rattle.c_parse_decl.proofs.declarations.declaration_at.Goals as goal

pub returns-then-on_keyword-clause-found : goal.returns-then-on_keyword-clause-found
returns-then-on_keyword-clause-found c = rw (← assertion_picked c.args.depth c.args.names.now.names c.args.tokens.now (omega arith) (search rules)) c.assertion_rule.ensures.found

pub returns-else-on_keyword-clause-found : goal.returns-else-on_keyword-clause-found
returns-else-on_keyword-clause-found c = rw (← declaration_picked c.args.depth c.args.names.now.names c.args.tokens.now (omega arith) (search rules)) c.declaration_rule.ensures.found
