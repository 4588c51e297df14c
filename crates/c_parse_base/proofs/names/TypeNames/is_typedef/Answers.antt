use Rattle.std.proofs.Common.{◌∙◌}
use Rattle.c_parse_base.proofs.code.Newest.{told_nothing, told}
use Rattle.c_parse_base.proofs.names.TypeNames.is_typedef.Goals as goal

pub returns-in-None : goal.returns-in-None
returns-in-None c = rw (← c.self.view_is) (told_nothing _ c.args.name.now (c.in-None.ensures.value ∙ c.self.invariant.1.finds c.args.name.now))

pub returns-in-Some : goal.returns-in-Some
returns-in-Some c = rw (← c.self.view_is) (told _ c.args.name.now _ (c.in-Some.ensures.value ∙ c.self.invariant.1.finds c.args.name.now))
