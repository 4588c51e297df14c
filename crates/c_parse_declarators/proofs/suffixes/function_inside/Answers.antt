use Rattle.std.proofs.Common.{refl, arith}
use Rattle.c_tree.specs.Views.{suffix_tree}
use Rattle.c_parse_attributes.proofs.code.Narrowing.{narrowed, function_none, function_read}
use Rattle.c_parse_declarators.proofs.suffixes.function_inside.Goals as goal

pub returns-in-None-clause-found : goal.returns-in-None-clause-found
returns-in-None-clause-found g c =
    let none = rw c.in-None.is at c.in_ok-parameter_at.ensures.found in
    narrowed suffix_tree _ _ _ _ _ _ _ _ (rw c.new.ensures at c.closed_at.ensures.found c.args.names.now.names)
    (function_none _ c.args.span _ _ none.same) refl (omega arith)

pub returns-in_ok-all-in-Some-clause-found : goal.returns-in_ok-all-in-Some-clause-found
returns-in_ok-all-in-Some-clause-found g c =
    function_read _ c.args.span _ _ _ _ _ _ _ (rw c.in-Some.is at c.in_ok-parameter_at.ensures.found) (rw c.new-found.ensures.items at c.in_ok-push-in-Some.ensures.items)
    c.in_ok-all-in-Some.ensures.found (c.function_of.ensures.found _ _)
