use Rattle.std.proofs.Common.{rules}
use Rattle.grammar.specs.Forms.{Done}
use Rattle.c_parse_ladder.proofs.Arms.{arm_none, arm_some}
use Rattle.c_parse_ladder.proofs.ladders.arm_at.Goals as goal

pub returns-in-None-clause-found : goal.returns-in-None-clause-found
returns-in-None-clause-found g c =
    arm_none (g.B.StatementsBelow.depth c.args.below.now) c.args.names.now.names c.args.tokens.now c.in-Some.first.now (search rules) c.in-Some-place_at.span (search rules)
    ((rw c.in-None.is at c.in_ok-controlled_at.ensures.found) Done)

pub returns-in-Some-2-clause-found : goal.returns-in-Some-2-clause-found
returns-in-Some-2-clause-found g c =
    rw c.arm_of.ensures
    (arm_some (g.B.StatementsBelow.depth c.args.below.now) c.args.names.now.names c.args.tokens.now c.in-Some.first.now (search rules) c.in-Some-place_at.span _ _ _ (search rules)
    ((rw c.in-Some-2.is at c.in_ok-controlled_at.ensures.found) Done))
