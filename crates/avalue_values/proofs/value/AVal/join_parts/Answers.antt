use Rattle.avalue_values.proofs.Values.{union_addresses_sound}
use Rattle.avalue_values.proofs.value.AVal.join_parts.Goals as goal

pub separate-requires : goal.separate-requires
separate-requires c = record {
  sound = union_addresses_sound c.addresses.result.now c.addresses-in-Some-numbers.result.now c.in_ok-union-in-Some-numbers.field-0.items c.in_ok-union-in-Some-numbers.ensures
      c.addresses.ensures.order c.addresses-in-Some-numbers.ensures.order c.addresses.ensures.offsets c.addresses-in-Some-numbers.ensures.offsets;
}
