use Rattle.std.proofs.Common.{◌∷◌, []}
use Rattle.c_parse_base.proofs.code.Literals.{literals_begin, literals_more, literals_end}
use Rattle.c_parse_base.proofs.literals.literals_at.Goals as goal

pub reading-init : goal.reading-init
reading-init c = rw (c.in_ok-push.ensures.items, c.new-found.ensures.items, c.in_ok-copied.ensures) (literals_begin (c.args.first.now ∷ []) c.args.tokens.now)

pub reading-preserved : goal.reading-preserved
reading-preserved c =
    literals_more _ _ _ _ _ _ _ c.reading.invariant c.in-Some.ensures.found c.in-Some.ensures.shorter
    (rw (← c.in_ok-copied-2.ensures) c.in_ok-push-2.ensures.items)

pub returns-clause-found : goal.returns-clause-found
returns-clause-found c = rw c.from_vec.ensures (literals_end _ _ _ _ c.reading.invariant c.in_default.ensures.found)
