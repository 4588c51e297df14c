use Rattle.std.proofs.Common.{rules, ◌≡◌, ◌<◌, ◌+◌, Some, None, ◌∷◌, length, drop, subst, refl}
use Rattle.c_types.specs.Types.{Extent}
use Rattle.c_types.specs.Sizes as plain
use Rattle.c_types.specs.Agreeing.{Agrees, extent_option}
use Rattle.c_types.specs.Views.{type_of, composites_of, members_of, member_of, extent_of}
use Rattle.c_types.proofs.Extents.{aligned, aligned_agrees, aligned_placed, member_step, no_member_step}
use Rattle.c_types.proofs.Views.{next_member}
use Rattle.c_types.proofs.sizes.placed_members.Goals as goal

pub returns-in-None-clause-value : goal.returns-in-None-clause-value
returns-in-None-clause-value c sized =
    let known = plain.extent (composites_of c.args.c.now) c.args.m in
    let total = plain.placed_all known c.args.is_union plain.nothing_placed (members_of c.args.members.now) in
    let next = next_member c.args.members.now c.loop-member.member-index c.member-item.result c.loop-member-test.true c.member-item.is in
    no_member_step known c.args.is_union total (extent_of c.loop-member.before) (member_of c.member-item.result) (members_of (drop (c.loop-member.member-index + 1) c.args.members.now))
    (subst (λ ms. Agrees total (plain.placed_all known c.args.is_union (Some (extent_of c.loop-member.before)) ms)) next (c.loop-member.invariant sized).same)
    (subst (λ e. Agrees (known (type_of c.member-item.result.ctype)) (extent_option e)) c.in-None.is c.extent_of_type.ensures)

pub loop-member-preserved : goal.loop-member-preserved
loop-member-preserved c sized =
    let known = plain.extent (composites_of c.args.c.now) c.args.m in
    let total = plain.placed_all known c.args.is_union plain.nothing_placed (members_of c.args.members.now) in
    let next = next_member c.args.members.now c.loop-member.member-index c.member-item.result c.loop-member-test.true c.member-item.is in
    let found : Agrees (known (type_of c.member-item.result.ctype)) (Some (extent_of c.in-Some.extent)) =
    subst (λ e. Agrees (known (type_of c.member-item.result.ctype)) (extent_option e)) c.in-Some.is c.extent_of_type.ensures in
    let each = aligned (composites_of c.args.c.now) c.args.m sized in
    let placed = c.placed-before.ensures
    (aligned_agrees (known (type_of c.member-item.result.ctype)) (extent_of c.in-Some.extent) (each (type_of c.member-item.result.ctype)) found) in
    record {
      aligned = aligned_placed c.args.is_union (extent_of c.loop-member.before) (extent_of c.in-Some.extent) (extent_of c.placed-before.result) (c.loop-member.invariant sized).aligned
          (aligned_agrees (known (type_of c.member-item.result.ctype)) (extent_of c.in-Some.extent) (each (type_of c.member-item.result.ctype)) found) placed;
      same = member_step known each c.args.is_union total (extent_of c.loop-member.before) (member_of c.member-item.result) (members_of (drop (c.loop-member.member-index + 1) c.args.members.now))
          (extent_of c.in-Some.extent) (extent_of c.placed-before.result)
          (subst (λ ms. Agrees total (plain.placed_all known c.args.is_union (Some (extent_of c.loop-member.before)) ms)) next (c.loop-member.invariant sized).same)
          found placed;
    }
