use Rattle.std.proofs.Common.{◌≡◌, ◌+◌, ◌++◌, [], ◌∷◌, ap, subst, arith, rules}
use Rattle.stepper_start.proofs.Packing.{packed_next, packed_is, no_room, few_made}
use Rattle.stepper_start.proofs.layouts.packed.Goals as goal

pub returns-then-end-last : goal.returns-then-end-last
returns-then-end-last c =
    let last = c.last_address-last.ensures.value in
    no_room c.args.program.now c.as_slice-base-items.result.now c.loop-base.base-index c.loop-base.address c.base-item.result c.as_slice-base-items.ensures (omega arith) c.base-item.is
    c.loop-base.invariant.next (omega arith)

pub loop-base-preserved : goal.loop-base-preserved
loop-base-preserved c =
    let same = c.in_ok-size.ensures in
    let last = c.last_address-last.ensures.value in
    packed_next c.args.program.now.machine c.as_slice-base-items.result.now c.loop-base.base-index c.loop-base.objects c.push.new.self c.loop-base.address _ c.base-item.result (omega arith) c.base-item.is
    c.loop-base.invariant (ap (λ n. c.loop-base.address + n) same) (omega arith) (subst (λ n. c.push.new.self ≡ c.loop-base.objects ++ record { address = c.loop-base.address; size = n; readonly = c.base-item.result.readonly } ∷ []) same (search rules))

pub invariant_of-result : goal.invariant_of-result
invariant_of-result c =
    record { few = few_made c.args.program.now c.as_slice-base-items.result.now c.loop-base.base-index c.loop-base.address c.loop-base.objects (let n = c.len.ensures in omega arith) c.as_slice-base-items.ensures c.loop-base.invariant }

pub returns : goal.returns
returns c =
    packed_is c.args.program.now c.as_slice-base-items.result.now c.loop-base.base-index c.loop-base.address c.loop-base.objects c.as_slice-base-items.ensures (omega arith) c.loop-base.invariant
