use Rattle.std.proofs.Common.{◌≡◌, drop, Option, Some}
use Rattle.c_types.specs.Types.{Extent}
use Rattle.c_types.specs.Sizes.{placed_all, extent, nothing_placed, AreSized}
use Rattle.c_types.specs.Agreeing.{IsAlignment, Agrees}
use Rattle.c_types.specs.Views.{members_of, composites_of, extent_of}
use Rattle.c_types.proofs.sizes.placed_members.Given as goal

pub record Placed (total rest : Option Extent) (before : Extent) : Type 0 where
  pub aligned : IsAlignment before.align
  pub same : Agrees total rest

abbrev pub invariant-loop-member : goal.invariant-loop-member
invariant-loop-member l =
    AreSized (composites_of l.c) l.m →
    Placed
    (placed_all (extent (composites_of l.c) l.m) l.is_union nothing_placed (members_of l.members))
    (placed_all (extent (composites_of l.c) l.m) l.is_union (Some (extent_of l.before)) (members_of (drop l.member-index l.members)))
    (extent_of l.before)
