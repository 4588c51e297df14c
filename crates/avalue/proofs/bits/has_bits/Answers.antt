use Rattle.avalue_base.proofs.Words.{number_of_bits-below}
use Rattle.avalue.proofs.bits.has_bits.Goals as goal

pub has_residue-requires-clause-rest : goal.has_residue-requires-clause-rest
has_residue-requires-clause-rest c = rw c.number_of.ensures (number_of_bits-below c.args.bits.now)
