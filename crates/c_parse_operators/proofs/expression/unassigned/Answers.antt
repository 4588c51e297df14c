use Rattle.c_parse_postfix.specs.AtDepth.{conditional_at}
use Rattle.c_parse_operators.proofs.code.Extending.{all_grown}
use Rattle.c_parse_operators.proofs.expression.unassigned.Goals as goal

pub returns-clause-found : goal.returns-clause-found
returns-clause-found g c =
    all_grown c.conditional_at.result (λ before f. conditional_at (g.B.Below.depth c.args.below.now) c.args.least c.args.span before f) _ _ _ _ c.args.first
    c.in_ok-operands.operands c.in_ok-operands.ensures.found c.conditional_at.ensures.found
