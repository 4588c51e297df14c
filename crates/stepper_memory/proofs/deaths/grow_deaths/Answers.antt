use Rattle.std.proofs.Common.{◌∙◌, ◌≤◌, ap, subst, sym}
use Rattle.std.specs.List.{AllByRecursion}
use Rattle.stepper_memory.specs.Views.{memory_of}
use Rattle.stepper_memory.proofs.Dying.{deaths_grown, times_grown}
use Rattle.stepper_memory.proofs.deaths.grow_deaths.Goals as goal

pub loop-deaths-preserved : goal.loop-deaths-preserved
loop-deaths-preserved c =
    let i = c.loop-deaths.invariant in (
      λ table. deaths_grown c.loop-deaths.deaths c.push.new.self c.in_ok-push.ensures.ok table ∙ i.0 table,
      λ now all. times_grown now c.loop-deaths.deaths c.push.new.self c.in_ok-push.ensures.ok (i.1 now all),
    )

pub returns-in_err-push-clause-same : goal.returns-in_err-push-clause-same
returns-in_err-push-clause-same c = λ table. ap (λ d. memory_of d table) c.in_err-push.ensures.err ∙ c.loop-deaths.invariant.0 table

pub returns-in_err-push-clause-times : goal.returns-in_err-push-clause-times
returns-in_err-push-clause-times c = λ now all. subst (AllByRecursion (λ d. d ≤ now)) (sym c.in_err-push.ensures.err) (c.loop-deaths.invariant.1 now all)
