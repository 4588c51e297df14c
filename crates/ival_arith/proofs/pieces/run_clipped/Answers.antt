use Rattle.std.proofs.Common.{◌≡◌, pos, to_z, FitsSigned, sym, subst, ap, ◌∙◌}
use Rattle.std.specs.Prelude.{◌≤ℤ◌, ◌<ℤ◌}
use Rattle.std.specs.Int.{w128, int_min, int_max, int_rem_euclid}
use Rattle.std.proofs.lemmas.Int.{to_z-of_z}
use Rattle.ival_core.proofs.Runs.{number_fits}
use Rattle.ival_arith.proofs.Codes.{run_clipped-none, run_clipped-some, range_same, ranged_same, stride_is}
use Rattle.ival_arith.proofs.Parts.{clip_range}
use Rattle.ival_core.proofs.Orders.{lt_true, lt_false}
use Rattle.ival_arith.proofs.pieces.run_clipped.Goals as goal

pub returns-then-last-first : goal.returns-then-last-first
returns-then-last-first c =
    let f = c.ranges.lo in
    let g = c.ranges.hi in
    let a = number_fits c.args.run.low c.requires.run.first in
    let b = number_fits c.args.run.high c.requires.run.last in
    let h : FitsSigned w128 c.max-first.result = record { sfits = c.max-first.type_inv } in
    let k : FitsSigned w128 c.min-last.result = record { sfits = c.min-last.type_inv } in
    let d : c.max-first.result ≡ int_max c.args.lo c.args.run.low = simp to_z-of_z at c.max-first.ensures.value in
    let e : c.min-last.result ≡ int_min c.args.hi c.args.run.high = simp to_z-of_z at c.min-last.ensures.value in
    let l : c.min-last.result <ℤ c.max-first.result = lt_true c.min-last.result c.max-first.result (simp to_z-of_z at c.if-last-first.true) in
    c.empty.ensures.value ∙ sym (run_clipped-none c.args.lo c.args.hi c.args.run (subst (λ x. x <ℤ int_max c.args.lo c.args.run.low) e (subst (λ x. c.min-last.result <ℤ x) d l)))

pub range-requires : goal.range-requires
range-requires c =
    let f = c.ranges.lo in
    let g = c.ranges.hi in
    let a = number_fits c.args.run.low c.requires.run.first in
    let b = number_fits c.args.run.high c.requires.run.last in
    let h : FitsSigned w128 c.max-first.result = record { sfits = c.max-first.type_inv } in
    let k : FitsSigned w128 c.min-last.result = record { sfits = c.min-last.type_inv } in
    let o : FitsSigned w128 c.rem_euclid.result = record { sfits = c.rem_euclid.type_inv } in
    let d : c.max-first.result ≡ int_max c.args.lo c.args.run.low = simp to_z-of_z at c.max-first.ensures.value in
    let e : c.min-last.result ≡ int_min c.args.hi c.args.run.high = simp to_z-of_z at c.min-last.ensures.value in
    let t : to_z w128 c.args.run.stride ≡ pos c.args.run.stride = stride_is c.args.run c.requires.run in
    let u : c.rem_euclid.result ≡ int_rem_euclid c.args.run.low (pos c.args.run.stride) = (simp to_z-of_z at c.rem_euclid.ensures.value) ∙ ap (int_rem_euclid c.args.run.low) t in
    let l : c.max-first.result ≤ℤ c.min-last.result = lt_false c.min-last.result c.max-first.result (simp to_z-of_z at c.if-last-first.false) in
    let m : int_max c.args.lo c.args.run.low ≤ℤ int_min c.args.hi c.args.run.high = subst (λ x. int_max c.args.lo c.args.run.low ≤ℤ x) e (subst (λ x. x ≤ℤ c.min-last.result) d l) in
    simp to_z-of_z (range_same _ _ _ _ (int_max c.args.lo c.args.run.low) (int_min c.args.hi c.args.run.high) (int_rem_euclid c.args.run.low (pos c.args.run.stride)) (pos c.args.run.stride) d e u t
    (clip_range c.args.lo c.args.hi c.args.run c.requires.run c.requires.lo c.requires.hi m))

pub returns : goal.returns
returns c =
    let f = c.ranges.lo in
    let g = c.ranges.hi in
    let a = number_fits c.args.run.low c.requires.run.first in
    let b = number_fits c.args.run.high c.requires.run.last in
    let h : FitsSigned w128 c.max-first.result = record { sfits = c.max-first.type_inv } in
    let k : FitsSigned w128 c.min-last.result = record { sfits = c.min-last.type_inv } in
    let o : FitsSigned w128 c.rem_euclid.result = record { sfits = c.rem_euclid.type_inv } in
    let d : c.max-first.result ≡ int_max c.args.lo c.args.run.low = simp to_z-of_z at c.max-first.ensures.value in
    let e : c.min-last.result ≡ int_min c.args.hi c.args.run.high = simp to_z-of_z at c.min-last.ensures.value in
    let t : to_z w128 c.args.run.stride ≡ pos c.args.run.stride = stride_is c.args.run c.requires.run in
    let u : c.rem_euclid.result ≡ int_rem_euclid c.args.run.low (pos c.args.run.stride) = (simp to_z-of_z at c.rem_euclid.ensures.value) ∙ ap (int_rem_euclid c.args.run.low) t in
    let l : c.max-first.result ≤ℤ c.min-last.result = lt_false c.min-last.result c.max-first.result (simp to_z-of_z at c.if-last-first.false) in
    let m : int_max c.args.lo c.args.run.low ≤ℤ int_min c.args.hi c.args.run.high = subst (λ x. int_max c.args.lo c.args.run.low ≤ℤ x) e (subst (λ x. x ≤ℤ c.min-last.result) d l) in
    (simp to_z-of_z at c.range.ensures.value)
    ∙ ranged_same _ _ _ _ (int_max c.args.lo c.args.run.low) (int_min c.args.hi c.args.run.high) (int_rem_euclid c.args.run.low (pos c.args.run.stride)) (pos c.args.run.stride) d e u t
    ∙ sym (run_clipped-some c.args.lo c.args.hi c.args.run m)
