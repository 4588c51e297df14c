use Rattle.std.proofs.Common.{◌≡◌, ◌<◌, ◌+◌, Some, None, take, subst, sym}
use Rattle.std.proofs.lemmas.List.{take-map}
use Rattle.c_types.specs.Sizes as plain
use Rattle.c_types.specs.Agreeing.{Agrees, extent_option}
use Rattle.c_types.specs.Views.{type_of, composites_of, members_of, member_of, extent_of}
use Rattle.c_types.proofs.Extents.{aligned, aligned_agrees, offset_step, no_offset_step, no_member_offset}
use Rattle.c_types.proofs.Views.{member_there}
use Rattle.c_types.proofs.sizes.offset_within.Goals as goal

pub returns-in-None : goal.returns-in-None
returns-in-None c sized closed =
    let known = plain.extent (composites_of c.args.c.now) c.args.m in
    no_offset_step known c.args.is_union (members_of c.args.members.now) c.args.at (member_of c.index-members-at.result)
    (member_there c.args.members.now c.args.at c.index-members-at.result c.requires c.index-members-at.is)
    (subst (λ ms. Agrees (plain.placed_all known c.args.is_union plain.nothing_placed ms) None) (sym (take-map member_of c.args.at c.args.members.now))
    (subst (λ e. Agrees (plain.placed_all known c.args.is_union plain.nothing_placed (members_of (take c.args.at c.args.members.now))) (extent_option e)) c.in-None.is (c.placed_members-before.ensures.value sized)))

pub returns-in-None-member : goal.returns-in-None-member
returns-in-None-member c sized closed =
    let known = plain.extent (composites_of c.args.c.now) c.args.m in
    let own : Agrees (known (type_of c.index-members-at.result.ctype)) (extent_option c.extent_of_type-member.result) =
    subst (λ x. Agrees (known (type_of x.ctype)) (extent_option c.extent_of_type-member.result)) (sym c.index-members-at.is) c.extent_of_type-member.ensures in
    no_member_offset known c.args.is_union (members_of c.args.members.now) c.args.at (member_of c.index-members-at.result)
    (member_there c.args.members.now c.args.at c.index-members-at.result c.requires c.index-members-at.is)
    (subst (λ e. Agrees (known (type_of c.index-members-at.result.ctype)) (extent_option e)) c.in-None-member.is own)

pub returns-in-Some-member : goal.returns-in-Some-member
returns-in-Some-member c sized closed =
    let known = plain.extent (composites_of c.args.c.now) c.args.m in
    let own : Agrees (known (type_of c.index-members-at.result.ctype)) (extent_option c.extent_of_type-member.result) =
    subst (λ x. Agrees (known (type_of x.ctype)) (extent_option c.extent_of_type-member.result)) (sym c.index-members-at.is) c.extent_of_type-member.ensures in
    offset_step known (aligned (composites_of c.args.c.now) c.args.m sized) c.args.is_union (members_of c.args.members.now) c.args.at (member_of c.index-members-at.result)
    (member_there c.args.members.now c.args.at c.index-members-at.result c.requires c.index-members-at.is)
    closed (extent_of c.in-Some.before) (extent_of c.in-Some-member.member) c.start.result
    (subst (λ ms. Agrees (plain.placed_all known c.args.is_union plain.nothing_placed ms) (Some (extent_of c.in-Some.before))) (sym (take-map member_of c.args.at c.args.members.now))
    (subst (λ e. Agrees (plain.placed_all known c.args.is_union plain.nothing_placed (members_of (take c.args.at c.args.members.now))) (extent_option e)) c.in-Some.is (c.placed_members-before.ensures.value sized)))
    (subst (λ e. Agrees (known (type_of c.index-members-at.result.ctype)) (extent_option e)) c.in-Some-member.is own)
    (c.start.ensures
    (aligned_agrees (known (type_of c.index-members-at.result.ctype)) (extent_of c.in-Some-member.member)
    (aligned (composites_of c.args.c.now) c.args.m sized (type_of c.index-members-at.result.ctype))
    (subst (λ e. Agrees (known (type_of c.index-members-at.result.ctype)) (extent_option e)) c.in-Some-member.is own)))
