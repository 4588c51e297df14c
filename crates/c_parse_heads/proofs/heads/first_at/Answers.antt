use Rattle.std.proofs.Common.{rules}
use Rattle.grammar.specs.Forms.{Done}
use Rattle.c_unit_tree.specs.Views.{optional_value}
use Rattle.c_parse_heads.proofs.Steps.{first_none, first_some}
use Rattle.c_parse_heads.proofs.heads.first_at.Goals as goal

pub returns-in-None-2-clause-found : goal.returns-in-None-2-clause-found
returns-in-None-2-clause-found c = λ more.
    first_none c.args.depth more c.args.names.now.names c.args.tokens.now (search rules) ((rw c.in-None-2.is at c.in_ok-optional_at.ensures.found) Done)

pub returns-in-Some-2-clause-found : goal.returns-in-Some-2-clause-found
returns-in-Some-2-clause-found c = λ more.
    first_some c.args.depth more c.args.names.now.names c.optional_at.new.names.names c.args.tokens.now c.in-Some-2.rest.now (optional_value c.in-Some-2.value) (search rules)
    ((rw c.in-Some-2.is at c.in_ok-optional_at.ensures.found) Done)
