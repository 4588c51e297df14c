use Rattle.std.proofs.Common.{◌+◌, ◌*◌}
use Rattle.c_parse_expr.proofs.reader.+fn-read_at-closure+read_at.Given as goal

abbrev pub decreases-closure : goal.decreases-closure
decreases-closure l = 2 * l.next + 1

abbrev pub decreases-read_at : goal.decreases-read_at
decreases-read_at l = 2 * l.depth
