use Rattle.std.proofs.Common.{◌∙◌, sym, rules, FitsSigned}
use Rattle.std.specs.Prelude.{int_div}
use Rattle.std.specs.Int.{w128}
use Rattle.c_base.specs.Integers.{fits_bits}
use Rattle.c_base.proofs.Singles.{passed_div, quotient_is, not_zero}
use Rattle.c_base.proofs.operators.quotient.Goals as goal

pub returns-then-fits : goal.returns-then-fits
returns-then-fits c =
    let s = c.args.format.signed in
    let w = c.args.format.width in
    let f : FitsSigned w128 (int_div c.args.a c.args.b) = search rules in
    quotient_is s w c.args.a c.args.b c.ranges.a c.ranges.b f
    (not_zero c.args.b c.if-b-eq0.false)
    (sym (passed_div (fits_bits s w) c.args.a c.args.b c.ranges.a c.ranges.b f) ∙ sym c.fits.ensures ∙ c.if-fits.true)
