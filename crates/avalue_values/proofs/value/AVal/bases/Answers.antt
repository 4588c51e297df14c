use Rattle.std.proofs.Common.{ap}
use Rattle.avalue_values.specs.Views.{value_of}
use Rattle.avalue_values.proofs.Values.{ordered}
use Rattle.avalue_values.proofs.value.AVal.bases.Goals as goal

pub returns-in-Addresses-clause-order : goal.returns-in-Addresses-clause-order
returns-in-Addresses-clause-order c =
    ordered c.bases_among.result c.in-Addresses.field-0 c.in-Addresses.addresses.items c.as_slice.result.now (value_of c.self.inside.content) c.self.invariant (ap value_of c.in-Addresses.is) c.as_slice.ensures c.bases_among.ensures
