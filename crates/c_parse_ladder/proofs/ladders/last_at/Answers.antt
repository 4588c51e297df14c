use Rattle.std.proofs.Common.{rules}
use Rattle.grammar.specs.Forms.{Done}
use Rattle.c_parse_ladder.proofs.Arms.{last_none, last_some}
use Rattle.c_parse_ladder.proofs.ladders.last_at.Goals as goal

pub returns-in-None-clause-found : goal.returns-in-None-clause-found
returns-in-None-clause-found g c =
    last_none (g.B.StatementsBelow.depth c.args.below.now) c.args.names.now.names c.args.tokens.now c.in-Some.behind.now (search rules) (search rules) (search rules)
    ((rw c.in-None.is at c.in_ok-branch_at.ensures.found) Done)

pub returns-in_ok-new-in-Some-2-clause-found : goal.returns-in_ok-new-in-Some-2-clause-found
returns-in_ok-new-in-Some-2-clause-found g c =
    rw (c.in_ok-new-in-Some-2.ensures, c.branch_at.ensures.same)
    (last_some (g.B.StatementsBelow.depth c.args.below.now) c.args.names.now.names c.args.tokens.now c.in-Some.behind.now (search rules) _ _ _ (search rules) (search rules)
    ((rw c.in-Some-2.is at c.in_ok-branch_at.ensures.found) Done))
