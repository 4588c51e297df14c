use Rattle.c_parse_base.specs.KnownNames.{a_use}
use Rattle.c_parse_base.specs.Newest.{Hiding}
use Rattle.c_parse_base.proofs.code.Newest.{one_more_kept}
use Rattle.c_parse_base.proofs.names.TypeNames.declare.Goals as goal

pub returns-clause-kept : goal.returns-clause-kept
returns-clause-kept c =
    let u : Hiding = record { known = a_use c.args.name c.args.is_typedef; hidden = c.in_ok-hidden.hidden } in
    rw (← c.self.view_is) (one_more_kept c.self.inside.uses.items c.reserve.new.self.items _ u c.self.inside.floor c.reserve.ensures.items c.in_ok-push.ensures.items c.self.invariant.0)
