use Rattle.ival_core.proofs.Insertion.{Holds-number}
use Rattle.ival_arith.proofs.Exacting.{number_negated}
use Rattle.ival_arith.proofs.divisions.negative.Goals as goal

pub changed-requires-clause-numbers : goal.changed-requires-clause-numbers
changed-requires-clause-numbers c n h = number_negated n (Holds-number c.args.set.now n h)
