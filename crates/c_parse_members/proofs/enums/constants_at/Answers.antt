use Rattle.c_tree.specs.Views.{specifier_tree}
use Rattle.c_parse_members.proofs.code.Constants.{constants_none, constants_read}
use Rattle.c_parse_attributes.proofs.code.Narrowing.{absent}
use Rattle.c_parse_members.proofs.enums.constants_at.Goals as goal

pub returns-in-None-clause-found : goal.returns-in-None-clause-found
returns-in-None-clause-found g c =
    let none = rw c.in-None.is at c.in_ok-enumerator_at.ensures.found in
    absent specifier_tree _ _ _ _ (constants_none (g.B.Below.depth c.args.below.now) c.args.span c.args.tag _ _ none.same)

pub returns-in_ok-all-in-Some-clause-found : goal.returns-in_ok-all-in-Some-clause-found
returns-in_ok-all-in-Some-clause-found g c =
    constants_read _ c.args.span c.args.tag _ _ _ _ _ _ _ _ (rw c.in-Some.is at c.in_ok-enumerator_at.ensures.found)
    (rw c.new-found.ensures.items at c.in_ok-push-in-Some.ensures.items)
    c.in_ok-all-in-Some.ensures.found (c.enum_of.ensures.found (g.B.Below.depth c.args.below.now) c.args.names.now.names)
