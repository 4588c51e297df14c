use Rattle.std.proofs.Common.{rules, ◌≡◌}
use Rattle.ival_arith.proofs.answers.negated.Goals as goal
use Rattle.std.proofs.Common.{◌^◌}
use Rattle.ival_arith.specs.Values.{residues}
use Rattle.ival_arith.proofs.Negating.{negated_signed, negated_unsigned}

-- src/answers.rt:58:1
pub returns-then-format : goal.returns-then-format
returns-then-format c = negated_signed c.args.format.signed c.args.format.width c.args.set.now.shape c.changed-turned.result.shape c.typed.result.shape c.if-format.true c.changed-turned.ensures c.typed.ensures.value

-- src/answers.rt:58:1
pub returns-else-format : goal.returns-else-format
returns-else-format c = let e : c.residues.result.shape ≡ residues (2 ^ c.args.format.width) c.changed-turned.result.shape = search rules in negated_unsigned c.args.format.signed c.args.format.width c.args.set.now.shape c.changed-turned.result.shape c.residues.result.shape c.if-format.false c.changed-turned.ensures e
