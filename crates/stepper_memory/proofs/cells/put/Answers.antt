use Rattle.std.proofs.Common.{◌≡◌, ◌∙◌, subst, List, OnOk, arith}
use Rattle.stepper_memory.specs.declared.stored.Stored.{Stored}
use Rattle.stepper_memory.proofs.Written.{set_is_put, push_is_put}
use Rattle.stepper_memory.proofs.cells.put.Goals as goal

pub returns-then-at-len-clause-done : goal.returns-then-at-len-clause-done
returns-then-at-len-clause-done c = c.set.ensures ∙ set_is_put c.args.cells.now c.args.at c.args.stored (omega (arith, c.len.ensures))

pub returns-else-at-len-clause-done : goal.returns-else-at-len-clause-done
returns-else-at-len-clause-done c =
    let P : List Stored → Type 0 = λ all. OnOk c.push.result (c.push.new.self ≡ all) in
    subst P (push_is_put c.args.cells.now c.args.at c.args.stored (omega (arith, c.len.ensures))) c.push.ensures.ok
