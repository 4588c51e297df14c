use Rattle.std.proofs.Common.{sym, ◌∙◌}
use Rattle.std.proofs.lemmas.Result.{IfOk-weaker}
use Rattle.run_merges.proofs.Allowing.{cell_same, cell_widened}
use Rattle.run_merges.proofs.widen.WideningMerge.merge.Goals as goal

pub returns-then-is_same_number : goal.returns-then-is_same_number
returns-then-is_same_number g c =
    IfOk-weaker c.copy.result _ _ (λ d e. e ∙ cell_same g.C.Cells.ops (g.W.Widens.widened c.args.self.now.by.now) c.args.bits c.args.first.now c.args.second.now (sym c.is_same_number.ensures ∙ c.if-is_same_number.true)) c.copy.ensures

pub returns : goal.returns
returns g c =
    IfOk-weaker c.widen.result _ _ (λ d e. e ∙ cell_widened g.C.Cells.ops (g.W.Widens.widened c.args.self.now.by.now) c.args.bits c.args.first.now c.args.second.now (sym c.is_same_number.ensures ∙ c.if-is_same_number.false)) c.widen.ensures
