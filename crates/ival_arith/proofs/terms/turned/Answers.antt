use Rattle.ival_arith.proofs.terms.turned.Goals as goal
use Rattle.ival_core.proofs.Insertion.{Holds-number}
use Rattle.ival_arith.proofs.Exacting.{number_negated}

-- src/terms.rt:98:9
pub changed-requires-clause-numbers : goal.changed-requires-clause-numbers
changed-requires-clause-numbers c = λ n h. number_negated n (Holds-number c.args.set.now n h)
