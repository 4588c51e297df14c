use Rattle.std.proofs.Common.{◌≡◌, pos, ◌^◌, ◌+ℤ◌, ◌-ℤ◌, ◌<ℤ◌, FitsSigned, ap, ◌∙◌, subst, sym, rules}
use Rattle.std.specs.Int.{w128}
use Rattle.std.proofs.lemmas.Int.{to_z-of_z}
use Rattle.c_base.specs.Integers.{least_of, greatest_of}
use Rattle.ival_core.specs.Sets.{IsNumber}
use Rattle.ival_core.proofs.Runs.{number_fits}
use Rattle.ival_bits.specs.Masks.{turned}
use Rattle.ival_bits.proofs.MaskSets.{Turns, turns}
use Rattle.ival_bits.proofs.masks.turned.Goals as goal

pub returns-clause-small : goal.returns-clause-small
returns-clause-small c =
    let o = c.args.format in
    let t : Turns o.signed o.width c.args.n = turns o.signed o.width c.args.n (record { some = o.some; room = o.room }) c.requires in
    let f : FitsSigned w128 c.args.n = c.ranges.n in
    let g : FitsSigned w128 c.least.result = search rules in
    let h : FitsSigned w128 c.greatest.result = search rules in
    let e : c.least.result +ℤ c.greatest.result ≡ least_of o.signed o.width +ℤ greatest_of o.signed o.width = ap (λ z. z +ℤ c.greatest.result) c.least.ensures.value ∙ ap (λ z. least_of o.signed o.width +ℤ z) c.greatest.ensures.value in
    let d : (c.least.result +ℤ c.greatest.result) -ℤ c.args.n ≡ turned o.signed o.width c.args.n = ap (λ z. z -ℤ c.args.n) e in
    let i : FitsSigned w128 (c.least.result +ℤ c.greatest.result) = number_fits (c.least.result +ℤ c.greatest.result) (subst IsNumber (sym e) t.sum) in
    let j : FitsSigned w128 ((c.least.result +ℤ c.greatest.result) -ℤ c.args.n) = number_fits ((c.least.result +ℤ c.greatest.result) -ℤ c.args.n) (subst IsNumber (sym d) t.number) in
    simp to_z-of_z (subst (λ z. z <ℤ pos (2 ^ 64)) (sym d) t.small)
