use Rattle.std.proofs.Common.{◌≡◌, ◌*◌, pos, ◌+ℤ◌, ◌-ℤ◌, to_z, of_z, FitsSigned, sym, subst, ap, ◌∙◌, arith}
use Rattle.std.specs.Prelude.{neg_ℤ}
use Rattle.std.specs.Int.{w128}
use Rattle.std.proofs.lemmas.Int.{to_z-of_z}
use Rattle.ival_core.specs.declared.value.Progression.{Progression}
use Rattle.ival_core.specs.declared.value.Shape.TheVariants.{Few}
use Rattle.ival_core.specs.Sets.{IsLongRun, Has, steps_from}
use Rattle.ival_core.proofs.Runs.{number_fits}
use Rattle.ival_arith.proofs.SumCodes.{run_sums-low, run_sums-high, run_sums-all, back_is, steps_small}
use Rattle.ival_arith.specs.Pieces.{none, run_clipped}
use Rattle.ival_arith.specs.Sums.{firsts, lasts, sums_onto}
use Rattle.ival_arith.proofs.Adding.{firsts-steps, lasts-steps, hull_long}
use Rattle.ival_core.proofs.Runs.{Steps-low, Steps-high}
use Rattle.ival_arith.proofs.sums.run_sums.Goals as goal

pub few_sums-requires-clause-sums : goal.few_sums-requires-clause-sums
few_sums-requires-clause-sums c x y h k =
    let p = c.args.p in
    let q = c.args.q in
    let a = number_fits p.low c.requires.left.first in
    let b = number_fits q.low c.requires.right.first in
    let d : c.eight.result.shape ≡ Few (record { items = firsts p }) = simp to_z-of_z at c.eight.ensures in
    let e : c.eight-then-starts_low.result.shape ≡ Few (record { items = firsts q }) = simp to_z-of_z at c.eight-then-starts_low.ensures in
    c.requires.sums x y (firsts-steps p c.requires.left x (subst (λ s. Has s x) d h)) (firsts-steps q c.requires.right y (subst (λ s. Has s y) e k))

pub returns-then-starts_low : goal.returns-then-starts_low
returns-then-starts_low c =
    let p = c.args.p in
    let q = c.args.q in
    let a = number_fits p.low c.requires.left.first in
    let b = number_fits q.low c.requires.right.first in
    let f : FitsSigned w128 c.args.lo = c.ranges.lo in
    let g : FitsSigned w128 c.args.hi = c.ranges.hi in
    let d : c.eight.result.shape ≡ Few (record { items = firsts p }) = simp to_z-of_z at c.eight.ensures in
    let e : c.eight-then-starts_low.result.shape ≡ Few (record { items = firsts q }) = simp to_z-of_z at c.eight-then-starts_low.ensures in
    let t = (simp to_z-of_z at c.starts_low.ensures) in
    (simp to_z-of_z at c.few_sums.ensures) (record { items = firsts q }) e ∙ ap (λ s. sums_onto c.args.lo c.args.hi none s (firsts q)) d
    ∙ sym (run_sums-low c.args.lo c.args.hi p q (sym t ∙ c.if-starts_low.true))

lower : (p : Progression) → IsLongRun p → to_z w128 (of_z w128 (to_z w128 (of_z w128 p.high) -ℤ to_z w128 (7 * p.stride))) ≡ p.high +ℤ neg_ℤ (pos (7 * p.stride))
lower p l = back_is p.high (7 * p.stride) l.last (omega (arith, steps_small p l))

pub few_sums-requires-then-ends_high-clause-sums : goal.few_sums-requires-then-ends_high-clause-sums
few_sums-requires-then-ends_high-clause-sums c x y h k =
    let p = c.args.p in
    let q = c.args.q in
    let d : c.eight-left.result.shape ≡ Few (record { items = lasts p }) = c.eight-left.ensures ∙ ap (λ z. Few (record { items = steps_from z p.stride 8 })) (lower p c.requires.left) in
    let e : c.eight-right.result.shape ≡ Few (record { items = lasts q }) = c.eight-right.ensures ∙ ap (λ z. Few (record { items = steps_from z q.stride 8 })) (lower q c.requires.right) in
    c.requires.sums x y (lasts-steps p c.requires.left x (subst (λ s. Has s x) d h)) (lasts-steps q c.requires.right y (subst (λ s. Has s y) e k))

pub returns-then-ends_high : goal.returns-then-ends_high
returns-then-ends_high c =
    let p = c.args.p in
    let q = c.args.q in
    let f : FitsSigned w128 c.args.lo = c.ranges.lo in
    let g : FitsSigned w128 c.args.hi = c.ranges.hi in
    let d : c.eight-left.result.shape ≡ Few (record { items = lasts p }) = c.eight-left.ensures ∙ ap (λ z. Few (record { items = steps_from z p.stride 8 })) (lower p c.requires.left) in
    let e : c.eight-right.result.shape ≡ Few (record { items = lasts q }) = c.eight-right.ensures ∙ ap (λ z. Few (record { items = steps_from z q.stride 8 })) (lower q c.requires.right) in
    let t = (simp to_z-of_z at c.starts_low.ensures) in
    let u = (simp to_z-of_z at c.ends_high.ensures) in
    (simp to_z-of_z at c.few_sums-then-ends_high.ensures) (record { items = lasts q }) e ∙ ap (λ s. sums_onto c.args.lo c.args.hi none s (lasts q)) d
    ∙ sym (run_sums-high c.args.lo c.args.hi p q (sym t ∙ c.if-starts_low.false) (sym u ∙ c.if-ends_high.true))

pub run_clipped-requires-clause-run : goal.run_clipped-requires-clause-run
run_clipped-requires-clause-run c =
    let p = c.args.p in
    let q = c.args.q in
    subst IsLongRun (sym c.sum_hull.ensures) (hull_long c.args.lo c.args.hi p q c.requires.left c.requires.right
    (c.requires.sums p.low q.low (Steps-low p c.requires.left) (Steps-low q c.requires.right)) (c.requires.sums p.high q.high (Steps-high p c.requires.left) (Steps-high q c.requires.right)))

pub returns : goal.returns
returns c =
    let p = c.args.p in
    let q = c.args.q in
    let f : FitsSigned w128 c.args.lo = c.ranges.lo in
    let g : FitsSigned w128 c.args.hi = c.ranges.hi in
    let t = (simp to_z-of_z at c.starts_low.ensures) in
    let u = (simp to_z-of_z at c.ends_high.ensures) in
    (simp to_z-of_z at c.run_clipped.ensures) ∙ ap (run_clipped c.args.lo c.args.hi) c.sum_hull.ensures
    ∙ sym (run_sums-all c.args.lo c.args.hi p q (sym t ∙ c.if-starts_low.false) (sym u ∙ c.if-ends_high.false))
