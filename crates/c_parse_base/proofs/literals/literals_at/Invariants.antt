use Rattle.std.proofs.Common.{◌∷◌, [], suc, length}
use Rattle.c_parse_rules.specs.Rules.{literals}
use Rattle.c_parse_base.proofs.code.Literals.{MoreLiterals}
use Rattle.c_parse_base.proofs.literals.literals_at.Given as goal

abbrev pub invariant-reading : goal.invariant-reading
invariant-reading l = MoreLiterals (literals (suc (length l.tokens)) (l.first ∷ []) l.tokens) l.tokens l.found.items l.rest

abbrev pub decreases-reading : goal.decreases-reading
decreases-reading l = length l.rest
