use Rattle.std.proofs.Common.{ap, ◌∙◌}
use Rattle.avalue_base.specs.Lists.{union_of}
use Rattle.avalue_values.proofs.Values.{union_list_sound}
use Rattle.avalue_values.proofs.value.AVal.join_mix.Goals as goal

pub invariant_of-result : goal.invariant_of-result
invariant_of-result c =
    union_list_sound c.args.self.now c.args.o.now c.in_ok-bases.bases.items c.in_ok-others.others.items c.in_ok-union.field-0.items
    (c.in_ok-union.ensures ∙ ap (λ bs. union_of bs c.as_slice-2.result.now) c.as_slice.ensures ∙ ap (union_of c.in_ok-bases.bases.items) c.as_slice-2.ensures) c.requires
    c.in_ok-bases.ensures.order c.in_ok-others.ensures.order c.in_ok-bases.ensures.some c.in_ok-others.ensures.some
