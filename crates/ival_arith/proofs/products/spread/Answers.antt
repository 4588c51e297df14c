use Rattle.std.proofs.Common.{◌≡◌, pos, to_z, FitsSigned, refl, ap, ◌∙◌, arith}
use Rattle.std.specs.Int.{w128, int_min, int_max}
use Rattle.std.proofs.lemmas.Int.{ints, clamps, to_z-of_z, to_z_pos}
use Rattle.c_base.specs.Integers.{least_of, greatest_of}
use Rattle.ival_arith.proofs.Codes.{same_run}
use Rattle.ival_arith.proofs.ProductCodes.{spread_is}
use Rattle.ival_arith.proofs.products.spread.Goals as goal

pub run_from-requires-clause-first : goal.run_from-requires-clause-first
run_from-requires-clause-first c =
    let a = c.least.ensures.within.least in let b = c.least.ensures.below in let d = c.low_of.ensures.below in
    let f : FitsSigned w128 c.low_of.result = record { sfits = c.low_of.type_inv } in
    let g : FitsSigned w128 c.least.result = record { sfits = c.least.type_inv } in
    let h : FitsSigned w128 c.max.result = record { sfits = c.max.type_inv } in
    let e : c.max.result ≡ int_max c.least.result c.low_of.result = simp to_z-of_z at c.max.ensures.value in
    simp to_z-of_z (record { least = omega (arith, ints, clamps, e); greatest = omega (arith, ints, clamps, e) })

pub run_from-requires-clause-order : goal.run_from-requires-clause-order
run_from-requires-clause-order c =
    let a = c.least.ensures.below in let b = c.low_of.ensures.below in let u = c.greatest.ensures.above in
    let f : FitsSigned w128 c.low_of.result = record { sfits = c.low_of.type_inv } in
    let g : FitsSigned w128 c.least.result = record { sfits = c.least.type_inv } in
    let h : FitsSigned w128 c.max.result = record { sfits = c.max.type_inv } in
    let i : FitsSigned w128 c.greatest.result = record { sfits = c.greatest.type_inv } in
    let j : FitsSigned w128 c.min.result = record { sfits = c.min.type_inv } in
    let k : to_z w128 c.args.m ≡ pos c.args.m = to_z_pos w128 c.args.m (omega arith) in
    let e : c.max.result ≡ int_max c.least.result c.low_of.result = simp to_z-of_z at c.max.ensures.value in
    let d : c.min.result ≡ int_min c.greatest.result (to_z w128 c.args.m) = simp to_z-of_z at c.min.ensures.value in
    simp to_z-of_z (omega (arith, ints, clamps, e, d, k))

pub returns : goal.returns
returns c =
    let o = c.args.format in
    let f : FitsSigned w128 c.low_of.result = record { sfits = c.low_of.type_inv } in
    let g : FitsSigned w128 c.least.result = record { sfits = c.least.type_inv } in
    let h : FitsSigned w128 c.max.result = record { sfits = c.max.type_inv } in
    let i : FitsSigned w128 c.greatest.result = record { sfits = c.greatest.type_inv } in
    let j : FitsSigned w128 c.min.result = record { sfits = c.min.type_inv } in
    let k : to_z w128 c.args.m ≡ pos c.args.m = to_z_pos w128 c.args.m (omega arith) in
    let e : c.max.result ≡ int_max c.least.result c.low_of.result = simp to_z-of_z at c.max.ensures.value in
    let d : c.min.result ≡ int_min c.greatest.result (to_z w128 c.args.m) = simp to_z-of_z at c.min.ensures.value in
    c.run_from.ensures.value
    ∙ same_run _ _ _ _ 1 1 (to_z-of_z w128 c.max.result h) (to_z-of_z w128 c.min.result j) refl
    ∙ spread_is o.signed o.width c.args.natural c.args.m c.max.result c.min.result
    (e ∙ ap (λ z. int_max z c.low_of.result) c.least.ensures.value ∙ ap (int_max (least_of o.signed o.width)) c.low_of.ensures.value)
    (d ∙ ap (λ z. int_min z (to_z w128 c.args.m)) c.greatest.ensures.value ∙ ap (int_min (greatest_of o.signed o.width)) k)
