use Rattle.std.proofs.Common.{ap, ◌∙◌}
use Rattle.c_parse_base.specs.KnownNames.{Known}
use Rattle.grammar.specs.Reading.{parse, rule_at}
use Rattle.c_grammar.specs.Leaves.{C}
use Rattle.c_grammar.specs.Picking.{readers}
use Rattle.c_grammar.specs.Table.{table}
use Rattle.c_unit_tree.specs.Views.{statement_tree}
use Rattle.c_parse_stmt.specs.Rules.{rule_of}
use Rattle.c_parse_stmt.proofs.Picked.{scoped}
use Rattle.c_parse_stmt.proofs.rules.scope_rule.Goals as goal

pub returns-clause-found : goal.returns-clause-found
returns-clause-found g c =
    let d = g.B.StatementsBelow.depth c.args.below.now in
    scoped statement_tree _ (λ ns. rule_at C table readers d (parse C table readers d) (rule_of c.args.scope) ns c.args.tokens.now) _ _ _ c.enter-outer.ensures.same
    (c.leave.ensures.names ∙ ap (λ (k : Known). k.names) c.inside_rule-found.ensures.kept ∙ c.enter-outer.ensures.kept) c.inside_rule-found.ensures.found
