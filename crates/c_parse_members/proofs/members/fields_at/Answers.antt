use Rattle.c_tree.specs.Views.{member_tree}
use Rattle.c_parse_rules.specs.Parsers.{specifier_at}
use Rattle.c_parse_attributes.proofs.code.Membership.{fields_none, fields_read, specifiers_are}
use Rattle.c_parse_attributes.proofs.code.Narrowing.{absent}
use Rattle.c_parse_members.proofs.members.fields_at.Goals as goal

pub returns-then-is_none-clause-found : goal.returns-then-is_none-clause-found
returns-then-is_none-clause-found g c =
    let d = g.B.Below.depth c.args.below.now in
    absent member_tree _ _ _ _ (fields_none d c.args.span _ _
    (specifiers_are d (specifier_at d) _ _ _ _ _ _ c.in_ok-specifiers.ensures.found (c.is_none.ensures.none d (specifier_at d) c.if-is_none.true)))

pub returns-clause-found : goal.returns-clause-found
returns-clause-found g c =
    let d = g.B.Below.depth c.args.below.now in
    fields_read d c.args.span _ _ _ _ _ _ _ _ c.in_ok-specifiers.ensures.found (c.is_none.ensures.some d (specifier_at d) c.if-is_none.false)
    c.in_ok-specifiers.ensures.before c.in_ok-fields.ensures.found (c.fields_end.ensures.found d c.args.names.now.names)
