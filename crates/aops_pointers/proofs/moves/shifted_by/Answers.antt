use Rattle.std.proofs.Common.{subst, sym, ◌∙◌}
use Rattle.aops_pointers.proofs.Moving.{none_shifted}
use Rattle.std.proofs.lemmas.Result.{IfOk-weaker}
use Rattle.ival_core.specs.Ivals.{IsOnly}
use Rattle.aops_pointers.proofs.Sole.{same_set}
use Rattle.aops_pointers.proofs.moves.shifted_by.Goals as goal

pub returns-then-is_none-clause-value : goal.returns-then-is_none-clause-value
returns-then-is_none-clause-value c =
    none_shifted c.args.back c.args.m c.args.a.now c.number.result c.args.steps.now c.in-Some.steps c.empty.result c.in-Some.is (sym c.is_none.ensures ∙ c.if-is_none.true) c.number.ensures c.empty.ensures.value

pub returns-else-is_none-clause-alone : goal.returns-else-is_none-clause-alone
returns-else-is_none-clause-alone c =
    IfOk-weaker c.shifted.result _ _ (λ v f. λ l s k e h o n. f l k h (subst (λ z. IsOnly z k) (same_set c.args.steps.now s c.in-Some.steps c.in-Some.is e) o) n) c.shifted.ensures.alone
