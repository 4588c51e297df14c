use Rattle.std.proofs.Common.{rules, ◌≡◌, ◌^◌, pos, ◌+ℤ◌, FitsSigned}
use Rattle.c_base.specs.Integers.{greatest_of}
use Rattle.ival_core.specs.Sets.{IsNumber, apart}
use Rattle.ival_bits.specs.Wraps.{resigned}
use Rattle.ival_bits.proofs.wraps.run_wrapped.Goals as goal
use Rattle.std.proofs.Common.{FitsSigned, subst, sym, ap, refl, ◌∙◌, ◌^◌}
use Rattle.std.specs.Int.{w128}
use Rattle.std.proofs.lemmas.Int.{to_z-of_z}
use Rattle.c_base.specs.Operators.{reduced}
use Rattle.c_base.specs.Integers.{greatest_of}
use Rattle.ival_core.specs.Sets.{apart, IsNumber}
use Rattle.ival_core.proofs.Orders.{le_true}
use Rattle.ival_arith.specs.Values.{residues}
use Rattle.ival_arith.proofs.Codes.{same_run}
use Rattle.ival_bits.specs.Wraps.{resigned}
use Rattle.ival_bits.proofs.WrapSets.{Moved, run_moved, run_turned}
use Rattle.ival_bits.proofs.WrapCodes.{moved_by, test_ends}

-- src/wraps.rt:99:9
pub run_from-requires-clause-first : goal.run_from-requires-clause-first
run_from-requires-clause-first c =
    let p = c.args.run in
    let f : FitsSigned w128 p.low = search rules in
    let g : FitsSigned w128 c.reduced-low.result = search rules in
    let h : FitsSigned w128 c.end-high.result = search rules in
    let i : FitsSigned w128 c.greatest.result = search rules in
    let a : c.reduced-low.result ≡ reduced c.args.signed c.args.bits p.low = simp to_z-of_z at c.reduced-low.ensures.value in
    let b : c.end-high.result ≡ reduced c.args.signed c.args.bits p.low +ℤ pos (apart p.low p.high) = (simp to_z-of_z at c.end-high.ensures) ∙ ap (λ z. z +ℤ pos (apart p.low p.high)) a in
    let m : Moved c.args.signed c.args.bits p = moved_by c.args.signed c.args.bits p c.end-high.result c.greatest.result (record { some = c.requires.bits.0; room = c.requires.bits.1 }) b c.greatest.ensures (le_true c.end-high.result c.greatest.result (simp to_z-of_z at c.if-high-greatest.true)) in
    simp to_z-of_z (subst IsNumber (sym a) m.first)

-- src/wraps.rt:99:9
pub run_from-requires-clause-high : goal.run_from-requires-clause-high
run_from-requires-clause-high c =
    let p = c.args.run in
    let f : FitsSigned w128 p.low = search rules in
    let g : FitsSigned w128 c.reduced-low.result = search rules in
    let h : FitsSigned w128 c.end-high.result = search rules in
    let i : FitsSigned w128 c.greatest.result = search rules in
    let a : c.reduced-low.result ≡ reduced c.args.signed c.args.bits p.low = simp to_z-of_z at c.reduced-low.ensures.value in
    let b : c.end-high.result ≡ reduced c.args.signed c.args.bits p.low +ℤ pos (apart p.low p.high) = (simp to_z-of_z at c.end-high.ensures) ∙ ap (λ z. z +ℤ pos (apart p.low p.high)) a in
    let m : Moved c.args.signed c.args.bits p = moved_by c.args.signed c.args.bits p c.end-high.result c.greatest.result (record { some = c.requires.bits.0; room = c.requires.bits.1 }) b c.greatest.ensures (le_true c.end-high.result c.greatest.result (simp to_z-of_z at c.if-high-greatest.true)) in
    simp to_z-of_z (subst IsNumber (sym b) m.last)

-- src/wraps.rt:90:1
pub returns-then-high-greatest : goal.returns-then-high-greatest
returns-then-high-greatest c =
    let p = c.args.run in
    let f : FitsSigned w128 p.low = search rules in
    let g : FitsSigned w128 c.reduced-low.result = search rules in
    let h : FitsSigned w128 c.end-high.result = search rules in
    let i : FitsSigned w128 c.greatest.result = search rules in
    let a : c.reduced-low.result ≡ reduced c.args.signed c.args.bits p.low = simp to_z-of_z at c.reduced-low.ensures.value in
    let b : c.end-high.result ≡ reduced c.args.signed c.args.bits p.low +ℤ pos (apart p.low p.high) = (simp to_z-of_z at c.end-high.ensures) ∙ ap (λ z. z +ℤ pos (apart p.low p.high)) a in
    run_moved c.args.signed c.args.bits p c.run_from.result.shape (sym (test_ends c.end-high.result c.greatest.result (reduced c.args.signed c.args.bits p.low +ℤ pos (apart p.low p.high)) (greatest_of c.args.signed c.args.bits) b c.greatest.ensures) ∙ (simp to_z-of_z at c.if-high-greatest.true))
    (c.run_from.ensures.value ∙ same_run _ _ _ _ p.stride p.stride (to_z-of_z w128 c.reduced-low.result g ∙ a) (to_z-of_z w128 c.end-high.result h ∙ b) refl)

-- src/wraps.rt:90:1
pub returns-else-high-greatest : goal.returns-else-high-greatest
returns-else-high-greatest c =
    let p = c.args.run in
    let f : FitsSigned w128 p.low = search rules in
    let g : FitsSigned w128 c.reduced-low.result = search rules in
    let h : FitsSigned w128 c.end-high.result = search rules in
    let i : FitsSigned w128 c.greatest.result = search rules in
    let a : c.reduced-low.result ≡ reduced c.args.signed c.args.bits p.low = simp to_z-of_z at c.reduced-low.ensures.value in
    let b : c.end-high.result ≡ reduced c.args.signed c.args.bits p.low +ℤ pos (apart p.low p.high) = (simp to_z-of_z at c.end-high.ensures) ∙ ap (λ z. z +ℤ pos (apart p.low p.high)) a in
    run_turned c.args.signed c.args.bits p c.resigned.result.shape (sym (test_ends c.end-high.result c.greatest.result (reduced c.args.signed c.args.bits p.low +ℤ pos (apart p.low p.high)) (greatest_of c.args.signed c.args.bits) b c.greatest.ensures) ∙ (simp to_z-of_z at c.if-high-greatest.false))
    (c.resigned.ensures ∙ ap (resigned c.args.signed c.args.bits) (c.residues.ensures ∙ ap (λ k. residues k c.args.set.now.shape) c.power.ensures.value ∙ ap (residues (2 ^ c.args.bits)) c.requires.run))
