use Rattle.std.proofs.Common.{refl, sym}
use Rattle.c_parse_rules.specs.Parsers.{specifier_at}
use Rattle.c_parse_attributes.proofs.code.Membership.{specifiers_are}
use Rattle.c_parse_expr.proofs.declaring.some_specifiers.Goals as goal

pub returns-then-is_none-clause-found : goal.returns-then-is_none-clause-found
returns-then-is_none-clause-found c =
    let d = c.args.depth in
    sym (specifiers_are d (specifier_at d) _ _ _ _ _ _ c.in_ok-found.ensures.found (c.is_none.ensures.none d (specifier_at d) c.if-is_none.true))

pub returns-clause-found : goal.returns-clause-found
returns-clause-found c =
    let d = c.args.depth in
    sym (specifiers_are d (specifier_at d) _ _ _ _ _ _ c.in_ok-found.ensures.found (c.is_none.ensures.some d (specifier_at d) c.if-is_none.false))

pub returns-clause-height : goal.returns-clause-height
returns-clause-height c = let found = c.in_ok-found.ensures.found in found.height

pub returns-clause-names : goal.returns-clause-names
returns-clause-names c = let found = c.in_ok-found.ensures.found in found.names _ refl
