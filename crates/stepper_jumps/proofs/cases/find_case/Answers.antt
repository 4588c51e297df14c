use Rattle.std.proofs.Common.{◌∙◌, ◌<◌, ap, subst, length, option_copied, arith}
use Rattle.stepper_jumps.proofs.Lists.{case_others}
use Rattle.stepper_jumps.specs.Found.{case_work}
use Rattle.stepper_jumps.proofs.cases.find_case.Goals as goal

pub search-preserved : goal.search-preserved
search-preserved c =
    let within : c.search.n < length c.args.stmts.now = subst (λ k. c.search.n < k) c.len.ensures c.search-test.true in (
      omega arith,
      λ rest. c.search.invariant.1 rest
          ∙ case_others c.args.value c.args.stmts.now c.search.n rest within (λ more. c.case_body.ensures more ∙ ap (λ found. case_work (option_copied found) more) c.in_default.is),
    )
