use Rattle.std.proofs.Common.{◌∙◌, ap, ◌-◌, ◌^◌}
use Rattle.c_base.specs.Integers as integers
use Rattle.c_base.proofs.Singles.{complement_is}
use Rattle.stepper_values.specs.Views.{number_of}
use Rattle.stepper_values.proofs.number.complemented.Goals as goal

pub returns : goal.returns
returns c =
    let s = c.args.signed in
    let b = c.args.bits in
    c.signed_number.ensures ∙ ap (integers.signed_number s b) c.saturating_sub-turned.ensures
    ∙ ap (λ r. integers.signed_number s b (r - 1 - c.pattern_of.result)) c.patterns-ones.ensures.value
    ∙ ap (λ r. integers.signed_number s b (2 ^ b - 1 - r)) c.pattern_of.ensures ∙ complement_is s b (number_of c.args.n)
