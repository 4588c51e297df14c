use Rattle.avalue_values.proofs.Growing.{widened_list}
use Rattle.avalue_values.proofs.value.AVal.widen_parts.Goals as goal

pub separate-requires : goal.separate-requires
separate-requires g c = record {
  sound = widened_list (g.S.Sizes.size_of c.args.sizes.now) c.args.marks.now c.addresses.result.now c.addresses-in-Some-numbers.result.now c.in_ok-union-in-Some-numbers.field-0.items c.requires.marks c.in_ok-union-in-Some-numbers.ensures
      c.addresses.ensures.order c.addresses-in-Some-numbers.ensures.order c.addresses.ensures.offsets c.addresses-in-Some-numbers.ensures.offsets;
}
