use Rattle.std.proofs.Common.{◌≡◌, ◌≤◌, ◌^◌, ◌-◌, pos, ◌-ℤ◌, ◌*ℤ◌, arith, to_z, subst, IfOk}
use Rattle.std.specs.Int.{w128}
use Rattle.std.specs.Prelude.{FitsSigned}
use Rattle.std.proofs.lemmas.Int.{ints, to_z-of_z, to_z_pos}
use Rattle.avalue_parts.proofs.Marks.{Half, halves, bits_marked, half_are_marks}
use Rattle.avalue.specs.Widenings.{widened_cell}
use Rattle.avalue.proofs.cell.Cellv.widen_in.Goals as goal

pub widen_by-requires-2-clause-own : goal.widen_by-requires-2-clause-own
widen_by-requires-2-clause-own g c =
    let n = c.if-bits-eq1.false in
    let a = c.requires.some in
    let b = c.requires.few in
    let e = c.power-half.ensures.value in
    let r : Half (2 ^ (c.args.bits - 1)) = halves c.args.bits (omega arith) b in
    let l : 2 ≤ 2 ^ (c.args.bits - 1) = r.some in
    let u : 2 ^ (c.args.bits - 1) ≤ 2 ^ 63 = r.few in
    let p : to_z w128 c.power-half.result ≡ pos c.power-half.result = to_z_pos w128 c.power-half.result (omega arith) in
    let f : FitsSigned w128 (pos 0 -ℤ pos c.power-half.result) = omega (arith, ints) in
    let q : FitsSigned w128 (pos c.power-half.result -ℤ pos 1) = omega (arith, ints) in
    let h : FitsSigned w128 (pos 2 *ℤ pos c.power-half.result) = omega (arith, ints) in
    let k : FitsSigned w128 (pos 2 *ℤ pos c.power-half.result -ℤ pos 1) = omega (arith, ints) in
    simp (p, to_z-of_z) (half_are_marks (pos c.power-half.result) (omega (arith, ints)) (omega (arith, ints)))

pub returns-clause-value : goal.returns-clause-value
returns-clause-value g c =
    let n = c.if-bits-eq1.false in
    let a = c.requires.some in
    let b = c.requires.few in
    let e = c.power-half.ensures.value in
    let r : Half (2 ^ (c.args.bits - 1)) = halves c.args.bits (omega arith) b in
    let l : 2 ≤ 2 ^ (c.args.bits - 1) = r.some in
    let u : 2 ^ (c.args.bits - 1) ≤ 2 ^ 63 = r.few in
    let p : to_z w128 c.power-half.result ≡ pos c.power-half.result = to_z_pos w128 c.power-half.result (omega arith) in
    let f : FitsSigned w128 (pos 0 -ℤ pos c.power-half.result) = omega (arith, ints) in
    let q : FitsSigned w128 (pos c.power-half.result -ℤ pos 1) = omega (arith, ints) in
    let h : FitsSigned w128 (pos 2 *ℤ pos c.power-half.result) = omega (arith, ints) in
    let k : FitsSigned w128 (pos 2 *ℤ pos c.power-half.result -ℤ pos 1) = omega (arith, ints) in
    subst (λ own. IfOk c.widen_by-2.result (λ z. z ≡ widened_cell (g.S.Sizes.size_of c.args.sizes.now) c.args.marks.now own c.args.self.now c.args.o.now)) (bits_marked c.args.bits c.power-half.result n e) (simp (p, to_z-of_z) at c.widen_by-2.ensures.value)
