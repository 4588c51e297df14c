use Rattle.std.proofs.lemmas.List.{take_rest}
use Rattle.c_tree.specs.Spelling.{pieces}
use Rattle.c_tree.specs.Views.{tree_of}
use Rattle.c_parse_expr.proofs.Promised.{not_behind, parsed_to}
use Rattle.c_parse_expr.proofs.parse.parse_expr.Goals as goal

pub overflow_sub-result : goal.overflow_sub-result
overflow_sub-result c =
    let r = rw (c.in-Some.is, take_rest c.args.tokens.now c.args.start) at c.in_ok-expr.ensures.read in
    not_behind (pieces (tree_of c.in-Some.expr)) c.args.start c.args.tokens.now c.in-Some.rest.now r.0.longest.front.words

pub returns-in-Some-clause-parsed : goal.returns-in-Some-clause-parsed
returns-in-Some-clause-parsed c =
    let r = rw (c.in-Some.is, take_rest c.args.tokens.now c.args.start) at c.in_ok-expr.ensures.read in
    parsed_to c.args.names.now.names 0 200 c.args.start c.args.tokens.now (tree_of c.in-Some.expr) c.in-Some.rest.now c.requires
    (rw (← c.in_ok-known.ensures) r.0)

pub returns-clause-none : goal.returns-clause-none
returns-clause-none c = λ at e.
    let r = rw (c.in-None.is, take_rest c.args.tokens.now c.args.start) at c.in_ok-expr.ensures.read in
    rw (← c.in_ok-known.ensures) r.0
