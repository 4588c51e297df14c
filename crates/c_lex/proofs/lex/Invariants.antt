use Rattle.c_lex.specs.Cursors.{moves_left}
use Rattle.c_lex.proofs.Moves.{Cutting}
use Rattle.c_lex.proofs.lex.Given as goal

abbrev pub invariant-cutting : goal.invariant-cutting
invariant-cutting l = Cutting l.bytes l.tokens.items l.count l.cursor

abbrev pub decreases-cutting : goal.decreases-cutting
decreases-cutting l = moves_left l.bytes l.cursor
