use Rattle.std.proofs.Common.{◌≡◌, ◌≤◌, ◌-◌, ◌/◌, ◌^◌, pos, to_z, refl, ap, ◌∙◌, subst, sym, arith}
use Rattle.std.specs.Prelude.{neg_ℤ}
use Rattle.std.specs.Int.{w128}
use Rattle.std.proofs.lemmas.Int.{ints}
use Rattle.std.proofs.Math.Nat.{div-le_self}
use Rattle.ival_core.specs.declared.value.Shape.{Shape}
use Rattle.ival_core.specs.Sets.{Has}
use Rattle.ival_core.proofs.Runs.{Steps-low, Steps-high}
use Rattle.ival_arith.specs.Exact.{shape_option}
use Rattle.ival_arith.specs.Pieces.{clipped}
use Rattle.ival_arith.specs.Values.{least_factor}
use Rattle.ival_arith.proofs.Codes.{valid_run}
use Rattle.ival_arith.proofs.CrossCodes.{near_products-is}
use Rattle.ival_arith.proofs.Parts.{clipped-exactly}
use Rattle.ival_arith.proofs.TrialCodes.{size_is, minus_is}
use Rattle.ival_arith.proofs.runs.near_products.Goals as goal

pub set_lines-requires-clause-low : goal.set_lines-requires-clause-low
set_lines-requires-clause-low c =
    c.requires.right.fits _ (subst (λ (s : Shape). Has s c.args.run.low) (sym c.requires.run) (Steps-low c.args.run (valid_run c.args.b.now.shape c.args.b.now.shape c.args.run refl c.requires.run c.args.b.now.valid)))

pub set_lines-requires-clause-high : goal.set_lines-requires-clause-high
set_lines-requires-clause-high c =
    c.requires.right.fits _ (subst (λ (s : Shape). Has s c.args.run.high) (sym c.requires.run) (Steps-high c.args.run (valid_run c.args.b.now.shape c.args.b.now.shape c.args.run refl c.requires.run c.args.b.now.valid)))

pub set_lines-requires-clause-factors : goal.set_lines-requires-clause-factors
set_lines-requires-clause-factors c =
    let k = c.power.result / c.least_factor.result in
    let s : k ≤ 2 ^ 120 = (let d = div-le_self c.power.result c.least_factor.result in let p = c.power.ensures.small in omega arith) in
    let e : c.clipped-near.result.shape ≡ clipped (neg_ℤ (pos k)) (pos k) c.args.a.now.shape =
    c.clipped-near.ensures ∙ ap (λ z. clipped z (to_z w128 k) c.args.a.now.shape) (minus_is k s) ∙ ap (λ z. clipped (neg_ℤ (pos k)) z c.args.a.now.shape) (size_is k s) in
    let x = clipped-exactly (neg_ℤ (pos k)) (pos k) c.args.a.now.shape c.args.a.now.valid (record { least = omega (arith, ints); greatest = omega (arith, ints) }) (record { least = omega (arith, ints); greatest = omega (arith, ints) }) in
    record { fits = λ n h. c.requires.left.fits n (x.only n (subst (λ (u : Shape). Has u n) e h)).has }

pub returns : goal.returns
returns c =
    let o = c.args.format in
    let k = c.power.result / c.least_factor.result in
    let s : k ≤ 2 ^ 120 = (let d = div-le_self c.power.result c.least_factor.result in let p = c.power.ensures.small in omega arith) in
    let q : k ≡ 2 ^ (o.width - 1) / least_factor c.args.b.now.shape = ap (λ p. p / c.least_factor.result) c.power.ensures.value ∙ ap (λ f. 2 ^ (o.width - 1) / f) c.least_factor.ensures.value in
    near_products-is o.signed o.width c.args.a.now.shape c.args.b.now.shape c.zero_products.result.shape c.clipped-near.result.shape c.args.run (shape_option c.set_lines.result) c.requires.signed c.requires.run c.zero_products.ensures
    (c.clipped-near.ensures ∙ ap (λ z. clipped z (to_z w128 k) c.args.a.now.shape) (minus_is k s) ∙ ap (λ z. clipped (neg_ℤ (pos k)) z c.args.a.now.shape) (size_is k s) ∙ ap (λ n. clipped (neg_ℤ (pos n)) (pos n) c.args.a.now.shape) q)
    c.set_lines.ensures
