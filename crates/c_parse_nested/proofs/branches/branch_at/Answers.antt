use Rattle.c_unit_tree.specs.Views.{statement_tree}
use Rattle.c_parse_nested.proofs.Steps.{branch_read}
use Rattle.c_parse_nested.proofs.branches.branch_at.Goals as goal

pub returns-clause-found : goal.returns-clause-found
returns-clause-found g c = branch_read statement_tree _ _ _ _ _ _ c.enter-scope.ensures.same c.statement-found.ensures.found
