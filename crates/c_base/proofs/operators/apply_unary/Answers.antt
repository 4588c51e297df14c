use Rattle.std.proofs.Common.{ap, ◌∙◌, sym, pos, ◌-ℤ◌, FitsSigned, rules}
use Rattle.std.specs.Prelude.{neg_ℤ}
use Rattle.std.specs.Int.{w128}
use Rattle.c_base.specs.Integers.{is_signed, width_of}
use Rattle.c_base.specs.Operators.{arithmetic, applied_unary}
use Rattle.c_base.proofs.Singles.{passed_neg}
use Rattle.c_base.proofs.operators.apply_unary.Goals as goal

pub returns-in-Neg : goal.returns-in-Neg
returns-in-Neg c =
    let k = c.args.k in
    let a = c.args.a in
    let format = c.format_of-format.result in
    let f : FitsSigned w128 (pos 0 -ℤ a) = search rules in
    c.in_type.ensures
    ∙ passed_neg (arithmetic format.signed format.width) a c.ranges.a f
    ∙ ap (λ s. arithmetic s format.width (neg_ℤ a)) (format.sign ∙ ap is_signed c.format_of-format.ensures.kind)
    ∙ ap (λ w. arithmetic (is_signed k) w (neg_ℤ a)) (format.bits ∙ ap (λ k. width_of k format.machine) c.format_of-format.ensures.kind ∙ ap (width_of k) c.format_of-format.ensures.machine)
    ∙ ap (λ op. applied_unary op k c.args.m a) (sym c.in-Neg.is)
