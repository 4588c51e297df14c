use Rattle.std.proofs.Common.{rules, ◌≡◌}
use Rattle.ival_arith.specs.Answers.{typed}
use Rattle.ival_arith.proofs.answers.typed.Goals as goal
use Rattle.std.proofs.Common.{subst}
use Rattle.ival_core.specs.Sets.{Has}
use Rattle.ival_arith.proofs.Answering.{typed-ranged}

-- src/answers.rt:29:1
pub returns-clause-typed : goal.returns-clause-typed
returns-clause-typed c =
    let r = typed-ranged c.args.format.signed c.args.format.width c.args.set.now.shape (record { some = c.args.format.some; room = c.args.format.room }) c.args.set.now.valid in
    let e : c.clipped.result.shape ≡ typed c.args.format.signed c.args.format.width c.args.set.now.shape = search rules in
    record { fits = λ n h. r.word.typed.fits n (subst (λ s. Has s n) e h) }
