use Rattle.std.proofs.Common.{◌<◌, length, sym, subst}
use Rattle.c_parse_base.proofs.code.Newest.{found_last, undone_last, one_fewer_below}
use Rattle.c_parse_base.proofs.names.TypeNames.forget_newest.Goals as goal

pub restore-requires : goal.restore-requires
restore-requires c = found_last _ _ _ _ _ c.last.view_is c.in-Some.ensures.items c.self.invariant.1

pub invariant_of-self : goal.invariant_of-self
invariant_of-self c = (
  one_fewer_below _ _ _ _ c.in-Some.ensures.items (subst (λ known. known.floor < length known.names) (sym c.self.view_is) c.requires),
  undone_last _ _ _ _ _ _ c.last.view_is c.in-Some.ensures.items c.self.invariant.1 c.restore.ensures,
)
