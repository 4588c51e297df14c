use Rattle.std.proofs.lemmas.List.{take_rest}
use Rattle.c_grammar.specs.declared.rule.Sort.TheVariants as sort
use Rattle.c_unit_tree.specs.Views.{declaration_tree}
use Rattle.std.proofs.Common.{None}
use Rattle.c_parse_declaration.proofs.Ends.{not_behind}
use Rattle.c_parse_declaration.proofs.Read.{read_to, sort_end, sort_read}
use Rattle.c_parse_declaration.proofs.parse.parse_declaration.Goals as goal

pub overflow_sub-result : goal.overflow_sub-result
overflow_sub-result c =
    let r = rw (c.in-Some.is, take_rest c.args.tokens.now c.args.start) at c.in_ok-declaration.ensures.found in
    not_behind c.args.start c.args.tokens.now c.in-Some.rest.now (sort_end 200 sort.Declaration _ _ _ _ _ r)

pub returns-in-Some-clause-parsed : goal.returns-in-Some-clause-parsed
returns-in-Some-clause-parsed c =
    let r = rw (c.in-Some.is, take_rest c.args.tokens.now c.args.start) at c.in_ok-declaration.ensures.found in
    read_to 200 sort.Declaration _ _ c.args.start c.args.tokens.now c.in-Some.rest.now (declaration_tree c.in-Some.declaration) c.requires r

pub returns-in-None-clause-none : goal.returns-in-None-clause-none
returns-in-None-clause-none c = λ at e.
    let r = rw (c.in-None.is, take_rest c.args.tokens.now c.args.start) at c.in_ok-declaration.ensures.found in
    sort_read 200 sort.Declaration _ _ None r
