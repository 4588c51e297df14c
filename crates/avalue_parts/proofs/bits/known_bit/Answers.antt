use Rattle.std.proofs.Common.{sym, ◌∙◌, ap}
use Rattle.ival_arith.specs.Values.{residues}
use Rattle.avalue_parts.proofs.Rows.{bit_is, no_bit}
use Rattle.avalue_parts.proofs.bits.known_bit.Goals as goal

pub returns-in-Some : goal.returns-in-Some
returns-in-Some c =
    bit_is c.args.numbers.now c.residues-rests.result c.extract.result c.in-Some.field-0 c.args.bits c.args.index c.contains.result (c.residues-rests.ensures ∙ ap (λ m. residues m c.args.numbers.now.shape) c.power.ensures.value) (sym c.as_single.ensures.value ∙ c.in-Some.is) c.requires.inside c.requires.few c.extract.ensures.value c.contains.ensures

pub returns-in-None : goal.returns-in-None
returns-in-None c =
    no_bit c.args.numbers.now c.residues-rests.result c.args.bits c.args.index (c.residues-rests.ensures ∙ ap (λ m. residues m c.args.numbers.now.shape) c.power.ensures.value) (sym c.as_single.ensures.value ∙ c.in-None.is)
