use Rattle.std.proofs.Common.{◌∙◌, subst, ap, sym}
use Rattle.stepper_memory.specs.Views.{memory_of, AllBefore}
use Rattle.stepper_memory.proofs.Tables.{grown, before_grown}
use Rattle.stepper_memory.proofs.table.grow.Goals as goal

pub loop-table-preserved : goal.loop-table-preserved
loop-table-preserved c =
    let i = c.loop-table.invariant in (
      λ deaths. grown deaths c.loop-table.table.items c.push.new.self.items c.in_ok-push.ensures.items ∙ i.0 deaths,
      λ now all. before_grown now c.loop-table.table.items c.push.new.self.items c.in_ok-push.ensures.items (i.1 now all),
    )

pub returns-in_err-push-clause-same : goal.returns-in_err-push-clause-same
returns-in_err-push-clause-same c = λ deaths. ap (memory_of deaths) c.in_err-push.ensures.items ∙ c.loop-table.invariant.0 deaths

pub returns-in_err-push-clause-times : goal.returns-in_err-push-clause-times
returns-in_err-push-clause-times c = λ now all. subst (AllBefore now) (sym c.in_err-push.ensures.items) (c.loop-table.invariant.1 now all)
