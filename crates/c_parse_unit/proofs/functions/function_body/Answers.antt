use Rattle.std.proofs.Common.{◌∙◌, ap}
use Rattle.c_tree.specs.Views.{declarator_tree}
use Rattle.c_parse_base.specs.KnownNames.{Known}
use Rattle.c_grammar.specs.Leaves.{ADeclarator}
use Rattle.c_grammar.specs.Table.{with_formals}
use Rattle.c_unit_tree.specs.Views.{body_tree}
use Rattle.c_parse_unit.proofs.Steps.{body_scoped}
use Rattle.c_parse_unit.proofs.functions.function_body.Goals as goal

pub returns-clause-found : goal.returns-clause-found
returns-clause-found c =
    body_scoped body_tree _ _ (with_formals (ADeclarator (declarator_tree c.args.declarator.now))) _ _ _ _ _ c.enter-below.ensures.same
    (c.leave.ensures.names ∙ ap (λ (k : Known). k.names) c.body_behind-found.ensures.kept ∙ c.enter-below.ensures.kept) c.body_behind-found.ensures.found
