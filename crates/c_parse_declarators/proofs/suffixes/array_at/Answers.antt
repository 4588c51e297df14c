use Rattle.std.proofs.Common.{◌≤◌, ◌<◌, length, arith}
use Rattle.c_tree.specs.Views.{suffix_tree}
use Rattle.c_parse_attributes.proofs.code.Narrowing.{narrowed, named, array_none, array_some}
use Rattle.c_parse_declarators.proofs.suffixes.array_at.Goals as goal

pub returns-in-None-clause-found : goal.returns-in-None-clause-found
returns-in-None-clause-found g c =
    let none = rw c.in-None.is at c.in_ok-expr.ensures.found in
    narrowed suffix_tree _ _ _ _ _ _ _ _ (c.array_end.ensures.found c.args.names.now.names)
    (array_none _ c.args.span _ _ _ _ c.in_ok-qualifiers.ensures.found none.same) (rw c.in-None.is at c.in_ok-expr.ensures.unchanged) c.in_ok-qualifiers.ensures.shorter

pub returns-in-Some-clause-found : goal.returns-in-Some-clause-found
returns-in-Some-clause-found g c =
    let some = rw c.in-Some.is at c.in_ok-expr.ensures.found in
    let shorter : length c.in-Some.bound.rest.now < length c.in_ok-qualifiers.inside.now = some.shorter in
    let short : length c.in_ok-qualifiers.inside.now ≤ length c.args.tokens.now = c.in_ok-qualifiers.ensures.shorter in
    narrowed suffix_tree _ _ _ _ _ _ _ _ (c.array_end-in-Some.ensures.found c.args.names.now.names)
    (array_some _ c.args.span _ _ _ _ _ c.in_ok-qualifiers.ensures.found some.same) (named _ _ _ _ _ _ some) (omega arith)
