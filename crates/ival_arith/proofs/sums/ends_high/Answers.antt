use Rattle.std.proofs.Common.{◌≡◌, ◌*◌, pos, ◌+ℤ◌, to_z, FitsSigned, arith}
use Rattle.std.specs.Int.{w128}
use Rattle.std.proofs.lemmas.Int.{to_z-of_z, to_z_pos}
use Rattle.ival_core.proofs.Runs.{number_fits}
use Rattle.ival_core.proofs.Orders.{lt_true, lt_false, le_true, le_false}
use Rattle.ival_arith.proofs.SumCodes.{further_fits, wide, wide_sum, wide_fits, steps_small, ends_not, ends_far, ends_else}
use Rattle.ival_arith.proofs.sums.ends_high.Goals as goal

pub returns-then-hi-last : goal.returns-then-hi-last
returns-then-hi-last c =
    let p = c.args.p in
    let q = c.args.q in
    let l = c.requires.left in
    let r = c.requires.right in
    let a = number_fits p.low l.first in
    let b = number_fits q.low r.first in
    let d = number_fits p.high l.last in
    let e = number_fits q.high r.last in
    let f : FitsSigned w128 c.args.lo = c.ranges.lo in
    let g : FitsSigned w128 c.args.hi = c.ranges.hi in
    let h = wide_fits (p.low +ℤ q.low) (wide_sum p.low q.low l.first r.first) in
    let i = wide_fits (p.high +ℤ q.high) (wide_sum p.high q.high l.last r.last) in
    let j : to_z w128 (8 * p.stride) ≡ pos (8 * p.stride) = to_z_pos w128 (8 * p.stride) (omega (arith, steps_small p l)) in
    let k : to_z w128 (8 * q.stride) ≡ pos (8 * q.stride) = to_z_pos w128 (8 * q.stride) (omega (arith, steps_small q r)) in
    ends_not c.args.lo c.args.hi p q (lt_true c.args.hi (p.high +ℤ q.high) (simp to_z-of_z at c.if-hi-last.true))

pub returns-then-lo-p : goal.returns-then-lo-p
returns-then-lo-p c =
    let p = c.args.p in
    let q = c.args.q in
    let l = c.requires.left in
    let r = c.requires.right in
    let a = number_fits p.low l.first in
    let b = number_fits q.low r.first in
    let d = number_fits p.high l.last in
    let e = number_fits q.high r.last in
    let f : FitsSigned w128 c.args.lo = c.ranges.lo in
    let g : FitsSigned w128 c.args.hi = c.ranges.hi in
    let h = wide_fits (p.low +ℤ q.low) (wide_sum p.low q.low l.first r.first) in
    let i = wide_fits (p.high +ℤ q.high) (wide_sum p.high q.high l.last r.last) in
    let j : to_z w128 (8 * p.stride) ≡ pos (8 * p.stride) = to_z_pos w128 (8 * p.stride) (omega (arith, steps_small p l)) in
    let k : to_z w128 (8 * q.stride) ≡ pos (8 * q.stride) = to_z_pos w128 (8 * q.stride) (omega (arith, steps_small q r)) in
    let m = further_fits c.args.lo (8 * p.stride) (wide c.args.lo c.requires.lo) (steps_small p l) in
    let n = further_fits c.args.lo (8 * q.stride) (wide c.args.lo c.requires.lo) (steps_small q r) in
    ends_far c.args.lo c.args.hi p q (lt_false c.args.hi (p.high +ℤ q.high) (simp to_z-of_z at c.if-hi-last.false))
    (le_true (c.args.lo +ℤ pos (8 * p.stride)) (p.high +ℤ q.high) (simp (to_z-of_z, j) at c.if-lo-p.true))

pub returns : goal.returns
returns c =
    let p = c.args.p in
    let q = c.args.q in
    let l = c.requires.left in
    let r = c.requires.right in
    let a = number_fits p.low l.first in
    let b = number_fits q.low r.first in
    let d = number_fits p.high l.last in
    let e = number_fits q.high r.last in
    let f : FitsSigned w128 c.args.lo = c.ranges.lo in
    let g : FitsSigned w128 c.args.hi = c.ranges.hi in
    let h = wide_fits (p.low +ℤ q.low) (wide_sum p.low q.low l.first r.first) in
    let i = wide_fits (p.high +ℤ q.high) (wide_sum p.high q.high l.last r.last) in
    let j : to_z w128 (8 * p.stride) ≡ pos (8 * p.stride) = to_z_pos w128 (8 * p.stride) (omega (arith, steps_small p l)) in
    let k : to_z w128 (8 * q.stride) ≡ pos (8 * q.stride) = to_z_pos w128 (8 * q.stride) (omega (arith, steps_small q r)) in
    let m = further_fits c.args.lo (8 * p.stride) (wide c.args.lo c.requires.lo) (steps_small p l) in
    let n = further_fits c.args.lo (8 * q.stride) (wide c.args.lo c.requires.lo) (steps_small q r) in
    simp (to_z-of_z, k)
    (ends_else c.args.lo c.args.hi p q (lt_false c.args.hi (p.high +ℤ q.high) (simp to_z-of_z at c.if-hi-last.false))
    (le_false (c.args.lo +ℤ pos (8 * p.stride)) (p.high +ℤ q.high) (simp (to_z-of_z, j) at c.if-lo-p.false)))
