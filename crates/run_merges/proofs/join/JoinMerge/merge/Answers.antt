use Rattle.std.proofs.Common.{sym, ◌∙◌}
use Rattle.std.proofs.lemmas.Result.{IfOk-weaker}
use Rattle.run_merges.proofs.Allowing.{cell_allowed, cell_joined}
use Rattle.run_merges.proofs.join.JoinMerge.merge.Goals as goal

pub returns-then-is_allowed : goal.returns-then-is_allowed
returns-then-is_allowed g c =
    IfOk-weaker c.copy.result _ _ (λ d e. e ∙ cell_allowed g.C.Cells.ops c.args.bits c.args.first.now c.args.second.now (sym c.is_allowed.ensures ∙ c.if-is_allowed.true)) c.copy.ensures

pub returns : goal.returns
returns g c =
    IfOk-weaker c.join.result _ _ (λ d e. e ∙ cell_joined g.C.Cells.ops c.args.bits c.args.first.now c.args.second.now (sym c.is_allowed.ensures ∙ c.if-is_allowed.false)) c.join.ensures
