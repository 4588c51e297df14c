use Rattle.std.proofs.Common.{◌+◌, ◌*◌}
use Rattle.c_parse_stmt.proofs.reader.+fn-statement_at-closure+statement_at.Given as goal

abbrev pub decreases-closure : goal.decreases-closure
decreases-closure l = 2 * l.next + 1

abbrev pub decreases-statement_at : goal.decreases-statement_at
decreases-statement_at l = 2 * l.depth
