use Rattle.std.proofs.Common.{◌∙◌, ap, ◌≡◌, ℤ, pos, arith}
use Rattle.std.specs.Prelude.{◌-ℤ◌, neg_ℤ}
use Rattle.std.proofs.lemmas.Int.{ints}
use Rattle.c_base.specs.Integers.{is_signed, width_of}
use Rattle.c_base.specs.Operators.{arithmetic}
use Rattle.stepper_values.specs.Views.{number_of}
use Rattle.stepper_values.proofs.number.computed_one.Goals as goal

zero_minus : (a : ℤ) → pos 0 -ℤ a ≡ neg_ℤ a
zero_minus a = omega (arith, ints)

pub returns-in-Neg : goal.returns-in-Neg
returns-in-Neg c =
    rw c.in-Neg.is
    (c.computed.ensures ∙ ap (arithmetic (is_signed c.args.kind) (width_of c.args.kind c.args.machine)) (zero_minus (number_of c.args.n)))
