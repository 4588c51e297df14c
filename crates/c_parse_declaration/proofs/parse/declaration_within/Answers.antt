use Rattle.std.proofs.Common.{ap, ◌∙◌}
use Rattle.c_parse_base.specs.KnownNames.{Known}
use Rattle.grammar.specs.Reading.{parse}
use Rattle.c_grammar.specs.declared.rule.Sort.TheVariants as sort
use Rattle.c_grammar.specs.Leaves.{C}
use Rattle.c_grammar.specs.Picking.{readers}
use Rattle.c_grammar.specs.Table.{table}
use Rattle.c_unit_tree.specs.Views.{declaration_tree}
use Rattle.c_parse_declaration.proofs.Read.{failed_unchanged, found_settled, none_unchanged}
use Rattle.c_parse_declaration.proofs.parse.declaration_within.Goals as goal

pub returns-clause-found : goal.returns-clause-found
returns-clause-found c =
    found_settled declaration_tree _ (λ names. parse C table readers c.args.depth sort.Declaration names c.args.tokens.now) _ _ _ _ c.enter-below.ensures.same c.settle.ensures.names c.declaration_at-found.ensures.found

pub returns-clause-unchanged : goal.returns-clause-unchanged
returns-clause-unchanged c = none_unchanged c.declaration_at-found.result c.declaration_at-found.new.names c.args.names.now.names c.settle.new.names.names c.settle.ensures.names (ap (λ (k : Known). k.names) c.declaration_at-found.ensures.kept ∙ c.enter-below.ensures.kept)

pub returns-clause-failed : goal.returns-clause-failed
returns-clause-failed c = failed_unchanged c.declaration_at-found.result c.declaration_at-found.new.names c.args.names.now.names c.settle.new.names.names c.settle.ensures.names (ap (λ (k : Known). k.names) c.declaration_at-found.ensures.kept ∙ c.enter-below.ensures.kept)
