use Rattle.std.proofs.Common.{◌≡◌, ◌++◌, map, drop}
use Rattle.avalue_base.specs.Values.{base_of}
use Rattle.avalue_values.proofs.value.bases_among.Given as goal

abbrev pub invariant-loop-address : goal.invariant-loop-address
invariant-loop-address l = l.list.items ++ map base_of (drop l.address-index l.addresses) ≡ map base_of l.addresses
