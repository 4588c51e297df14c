use Rattle.avalue_values.proofs.Making.{picked_sound, common_sound}
use Rattle.avalue_values.proofs.value.AVal.meet_parts.Goals as goal

pub separate-requires : goal.separate-requires
separate-requires c = record {
  sound = picked_sound c.addresses.result.now c.in_ok-common-in-Some-numbers.field-0.items c.members.result.now c.in_ok-common-in-Some-numbers.ensures c.addresses.ensures.order c.members.ensures.order c.addresses.ensures.offsets;
}

pub separate-requires-in-None-numbers-2 : goal.separate-requires-in-None-numbers-2
separate-requires-in-None-numbers-2 c = record {
  sound = picked_sound c.addresses-in-None-numbers-2.result.now c.in_ok-common-in-None-numbers-2.field-0.items c.members-in-None-numbers-2.result.now c.in_ok-common-in-None-numbers-2.ensures c.addresses-in-None-numbers-2.ensures.order c.members-in-None-numbers-2.ensures.order c.addresses-in-None-numbers-2.ensures.offsets;
}

pub separate-requires-in-Some-numbers-2 : goal.separate-requires-in-Some-numbers-2
separate-requires-in-Some-numbers-2 c = record {
  sound = common_sound c.addresses-in-Some-numbers-2.result.now c.addresses-in-Some-numbers-2-2.result.now c.in_ok-common-in-Some-numbers-2.field-0.items c.in_ok-common-in-Some-numbers-2.ensures
      c.addresses-in-Some-numbers-2.ensures.order c.addresses-in-Some-numbers-2-2.ensures.order c.addresses-in-Some-numbers-2.ensures.offsets c.addresses-in-Some-numbers-2-2.ensures.offsets;
}
