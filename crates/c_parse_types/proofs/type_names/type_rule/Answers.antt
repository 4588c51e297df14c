use Rattle.c_tree.specs.Views.{type_name_tree}
use Rattle.c_parse_base.specs.Purposes.{before_of, purpose_of}
use Rattle.c_parse_attributes.specs.TypesAtDepth.{specifier_rule}
use Rattle.c_parse_attributes.proofs.code.Membership.{specifiers_are}
use Rattle.c_parse_attributes.proofs.code.Narrowing.{absent}
use Rattle.c_parse_types.proofs.code.Typing.{type_none, type_with, type_without}
use Rattle.c_parse_types.proofs.type_names.type_rule.Goals as goal

pub returns-then-is_none-clause-found : goal.returns-then-is_none-clause-found
returns-then-is_none-clause-found g c =
    let d = g.B.Below.depth c.args.below.now in
    absent type_name_tree _ _ _ _ (type_none d (purpose_of c.args.purpose) _ _
    (specifiers_are d (specifier_rule d) _ _ _ _ _ _ c.in_ok-found.ensures.found (c.is_none.ensures.none d (specifier_rule d) c.if-is_none.true)))

pub returns-in-None-clause-found : goal.returns-in-None-clause-found
returns-in-None-clause-found g c =
    let d = g.B.Below.depth c.args.below.now in
    type_without d (purpose_of c.args.purpose) (before_of c.in_ok-found.before) _ _ _ _ _ _ _
    c.in_ok-found.ensures.found (c.is_none.ensures.some d (specifier_rule d) c.if-is_none.false) c.in_ok-found.ensures.before c.in_ok-found.ensures.few
    c.first_span-span.ensures (rw c.in-None.is at c.in_ok-declarator.ensures.found) (rw c.in-None.is at c.in_ok-declarator.ensures.unchanged)
    (rw (← c.depth-depth.ensures.same) c.measured.ensures.same) c.measured.ensures.height c.measured.ensures.rest c.measured.ensures.names

pub returns-in-Some-clause-found : goal.returns-in-Some-clause-found
returns-in-Some-clause-found g c =
    let d = g.B.Below.depth c.args.below.now in
    type_with d (purpose_of c.args.purpose) (before_of c.in_ok-found.before) _ _ _ _ _ _ _ _
    c.in_ok-found.ensures.found (c.is_none.ensures.some d (specifier_rule d) c.if-is_none.false) c.in_ok-found.ensures.before
    c.first_span-span.ensures (rw c.in-Some.is at c.in_ok-declarator.ensures.found)
    (rw (← c.depth-depth.ensures.same) c.measured-in-Some.ensures.same) c.measured-in-Some.ensures.height c.measured-in-Some.ensures.rest c.measured-in-Some.ensures.names
