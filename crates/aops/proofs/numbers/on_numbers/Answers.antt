use Rattle.std.proofs.Common.{subst}
use Rattle.aops.specs.Numbers.{IsSort}
use Rattle.aops.proofs.Sorts.{arithmetic_set, arithmetic_kinds, to_gives, from_gives, bitwise_set, bitwise_kinds, to_bits, from_bits, shift_set, shifted_kinds, to_shift, from_shift, relation_set, relation_kinds, relation_held, relation_defined, none_allowed}
use Rattle.aops.proofs.Narrow.{narrow_arithmetic, narrow_bitwise, narrow_shift, narrow_relation}
use Rattle.aops.proofs.numbers.on_numbers.Goals as goal

pub returns-in-Arithmetic-clause-value : goal.returns-in-Arithmetic-clause-value
returns-in-Arithmetic-clause-value c = arithmetic_set c.args.op (subst (IsSort c.args.op) c.in-Arithmetic.is c.sort_of.ensures) c.args.k c.args.m c.args.a.now c.args.b.now c.binary.result.value c.binary.ensures.value

pub returns-in-Arithmetic-clause-kind_set : goal.returns-in-Arithmetic-clause-kind_set
returns-in-Arithmetic-clause-kind_set c = arithmetic_kinds c.args.op (subst (IsSort c.args.op) c.in-Arithmetic.is c.sort_of.ensures) c.args.k c.args.m c.args.a.now c.args.b.now c.binary.result.kinds c.binary.ensures.kind_set

pub returns-in-Arithmetic-clause-holds : goal.returns-in-Arithmetic-clause-holds
returns-in-Arithmetic-clause-holds c n g = c.binary.ensures.holds n (to_gives c.args.op (subst (IsSort c.args.op) c.in-Arithmetic.is c.sort_of.ensures) c.args.k c.args.m c.args.a.now c.args.b.now _ g)

pub returns-in-Arithmetic-clause-kinds : goal.returns-in-Arithmetic-clause-kinds
returns-in-Arithmetic-clause-kinds c kind =
    let i = subst (IsSort c.args.op) c.in-Arithmetic.is c.sort_of.ensures in
    let e = c.binary.ensures.kinds kind in
    ((λ h. from_gives c.args.op i c.args.k c.args.m c.args.a.now c.args.b.now _ (e.0 h)), (λ g. e.1 (to_gives c.args.op i c.args.k c.args.m c.args.a.now c.args.b.now _ g)))

pub returns-in-Bitwise-clause-value : goal.returns-in-Bitwise-clause-value
returns-in-Bitwise-clause-value c = bitwise_set c.args.op (subst (IsSort c.args.op) c.in-Bitwise.is c.sort_of.ensures) c.args.k c.args.m c.args.a.now c.args.b.now c.bitwise.result.value c.bitwise.ensures.value

pub returns-in-Bitwise-clause-kind_set : goal.returns-in-Bitwise-clause-kind_set
returns-in-Bitwise-clause-kind_set c = bitwise_kinds c.args.op (subst (IsSort c.args.op) c.in-Bitwise.is c.sort_of.ensures) c.args.k c.args.m c.args.a.now c.args.b.now c.bitwise.result.kinds c.bitwise.ensures.kind_set

pub returns-in-Bitwise-clause-holds : goal.returns-in-Bitwise-clause-holds
returns-in-Bitwise-clause-holds c n g = c.bitwise.ensures.holds n (to_bits c.args.op (subst (IsSort c.args.op) c.in-Bitwise.is c.sort_of.ensures) c.args.k c.args.m c.args.a.now c.args.b.now _ g)

pub returns-in-Bitwise-clause-kinds : goal.returns-in-Bitwise-clause-kinds
returns-in-Bitwise-clause-kinds c kind =
    let i = subst (IsSort c.args.op) c.in-Bitwise.is c.sort_of.ensures in
    let e = c.bitwise.ensures.kinds kind in
    ((λ h. from_bits c.args.op i c.args.k c.args.m c.args.a.now c.args.b.now _ (e.0 h)), (λ g. e.1 (to_bits c.args.op i c.args.k c.args.m c.args.a.now c.args.b.now _ g)))

pub returns-in-Shift-clause-value : goal.returns-in-Shift-clause-value
returns-in-Shift-clause-value c = shift_set c.args.op (subst (IsSort c.args.op) c.in-Shift.is c.sort_of.ensures) c.args.k c.args.m c.args.a.now c.args.b.now c.shift.result.value c.shift.ensures.value

pub returns-in-Shift-clause-kind_set : goal.returns-in-Shift-clause-kind_set
returns-in-Shift-clause-kind_set c = shifted_kinds c.args.op (subst (IsSort c.args.op) c.in-Shift.is c.sort_of.ensures) c.args.k c.args.m c.args.a.now c.args.b.now c.shift.result.kinds c.shift.ensures.kind_set

pub returns-in-Shift-clause-holds : goal.returns-in-Shift-clause-holds
returns-in-Shift-clause-holds c n g = c.shift.ensures.holds n (to_shift c.args.op (subst (IsSort c.args.op) c.in-Shift.is c.sort_of.ensures) c.args.k c.args.m c.args.a.now c.args.b.now _ g)

pub returns-in-Shift-clause-kinds : goal.returns-in-Shift-clause-kinds
returns-in-Shift-clause-kinds c kind =
    let i = subst (IsSort c.args.op) c.in-Shift.is c.sort_of.ensures in
    let e = c.shift.ensures.kinds kind in
    ((λ h. from_shift c.args.op i c.args.k c.args.m c.args.a.now c.args.b.now _ (e.0 h)), (λ g. e.1 (to_shift c.args.op i c.args.k c.args.m c.args.a.now c.args.b.now _ g)))

pub returns-in-Relation-clause-value : goal.returns-in-Relation-clause-value
returns-in-Relation-clause-value c = relation_set c.args.op c.in-Relation.rel (subst (IsSort c.args.op) c.in-Relation.is c.sort_of.ensures) c.args.k c.args.m c.args.a.now c.args.b.now c.relation.result.value c.relation.ensures.value

pub returns-in-Relation-clause-kind_set : goal.returns-in-Relation-clause-kind_set
returns-in-Relation-clause-kind_set c = relation_kinds c.args.op c.in-Relation.rel (subst (IsSort c.args.op) c.in-Relation.is c.sort_of.ensures) c.args.k c.args.m c.args.a.now c.args.b.now c.relation.result.kinds c.relation.ensures.kind_set

pub returns-in-Relation-clause-holds : goal.returns-in-Relation-clause-holds
returns-in-Relation-clause-holds c n g = relation_held c.args.op c.in-Relation.rel (subst (IsSort c.args.op) c.in-Relation.is c.sort_of.ensures) c.args.k c.args.m c.args.a.now c.args.b.now c.relation.result.value c.relation.ensures.value n g

pub returns-in-Relation-clause-kinds : goal.returns-in-Relation-clause-kinds
returns-in-Relation-clause-kinds c kind = (
  (λ h. absurd (none_allowed c.relation.result.kinds kind c.relation.ensures.kind_set h)),
  (λ g. absurd (relation_defined c.args.op c.in-Relation.rel (subst (IsSort c.args.op) c.in-Relation.is c.sort_of.ensures) c.args.k c.args.m c.args.a.now c.args.b.now kind g)),
)

pub returns-in-Arithmetic-clause-narrow : goal.returns-in-Arithmetic-clause-narrow
returns-in-Arithmetic-clause-narrow c =
    narrow_arithmetic c.args.op (subst (IsSort c.args.op) c.in-Arithmetic.is c.sort_of.ensures) c.args.k c.args.m c.args.a.now c.args.b.now c.binary.result.value c.binary.ensures.exact c.binary.ensures.least_sum c.binary.ensures.least_difference

pub returns-in-Bitwise-clause-narrow : goal.returns-in-Bitwise-clause-narrow
returns-in-Bitwise-clause-narrow c = narrow_bitwise c.args.op (subst (IsSort c.args.op) c.in-Bitwise.is c.sort_of.ensures) c.args.k c.args.m c.args.a.now c.args.b.now c.bitwise.result.value c.bitwise.ensures.exact

pub returns-in-Shift-clause-narrow : goal.returns-in-Shift-clause-narrow
returns-in-Shift-clause-narrow c = narrow_shift c.args.op (subst (IsSort c.args.op) c.in-Shift.is c.sort_of.ensures) c.args.k c.args.m c.args.a.now c.args.b.now c.shift.result.value c.shift.ensures.exact

pub returns-in-Relation-clause-narrow : goal.returns-in-Relation-clause-narrow
returns-in-Relation-clause-narrow c = narrow_relation c.args.op c.in-Relation.rel (subst (IsSort c.args.op) c.in-Relation.is c.sort_of.ensures) c.args.k c.args.m c.args.a.now c.args.b.now c.relation.result.value c.relation.ensures.value
