use Rattle.std.proofs.Common.{◌≡◌, subst, sym, ap, ◌∙◌}
use Rattle.std.specs.Option.{option_copied}
use Rattle.c_types.specs.Sizes as plain
use Rattle.c_types.specs.Sizes.{IsSized, IsSizedMember}
use Rattle.c_types.specs.Views.{composites_of, composite_of, members_of}
use Rattle.c_types.proofs.Views.{composite_there}
use Rattle.c_types.proofs.sizes.member_offset.Goals as goal

pub returns : goal.returns
returns c sized member =
    let known = plain.extent (composites_of c.args.c.now) c.args.m in
    let there = composite_there c.args.c.now c.args.of c.in-Some.composite.now (sym c.get.ensures.value ∙ ap option_copied c.in-Some.is) in
    let whole = subst (λ x. IsSizedMember x c.args.member) there member in
    let extents = sized.extents c.args.of (composite_of c.in-Some.composite.now) there in
    let closed = subst (λ ms. IsSized (plain.closed known c.in-Some.composite.now.is_union (members_of ms))) (sym c.as_slice-members.ensures) (subst IsSized extents.0 whole.0) in
    c.offset_within.ensures sized closed
    ∙ ap (λ ms. plain.start_of known c.in-Some.composite.now.is_union plain.nothing_placed (members_of ms) c.args.member) c.as_slice-members.ensures
    ∙ sym (ap (λ x. plain.offset_in known x c.args.member) there)
