use Rattle.ival_core.proofs.Congruences.{IsCongruence-few, IsCongruence-of}
use Rattle.ival_core.proofs.value.Ival.congruence.Goals as goal

pub returns-in-Few-clause-same : goal.returns-in-Few-clause-same
returns-in-Few-clause-same c = IsCongruence-few c.args.self.now _ c.in-Few.is

pub returns-in-Many-clause-same : goal.returns-in-Many-clause-same
returns-in-Many-clause-same c = IsCongruence-of c.args.self.now c.in-Many.run' c.congruence.result c.in-Many.is c.congruence.ensures
