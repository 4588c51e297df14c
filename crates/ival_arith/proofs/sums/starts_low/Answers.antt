use Rattle.std.proofs.Common.{◌≡◌, ◌*◌, pos, ◌+ℤ◌, to_z, FitsSigned, arith}
use Rattle.std.specs.Int.{w128}
use Rattle.std.proofs.lemmas.Int.{to_z-of_z, to_z_pos}
use Rattle.ival_core.proofs.Runs.{number_fits}
use Rattle.ival_core.proofs.Orders.{lt_true, lt_false, le_true, le_false}
use Rattle.ival_arith.proofs.SumCodes.{further_fits, wide_sum, wide_fits, steps_small, starts_not, starts_far, starts_else}
use Rattle.ival_arith.proofs.sums.starts_low.Goals as goal

pub returns-then-first-lo : goal.returns-then-first-lo
returns-then-first-lo c =
    let p = c.args.p in
    let q = c.args.q in
    let l = c.requires.left in
    let r = c.requires.right in
    let a = number_fits p.low l.first in
    let b = number_fits q.low r.first in
    let d = number_fits p.high l.last in
    let e = number_fits q.high r.last in
    let f : FitsSigned w128 c.args.lo = c.ranges.lo in
    let g : FitsSigned w128 c.args.hi = c.ranges.hi in
    let h = wide_fits (p.low +ℤ q.low) (wide_sum p.low q.low l.first r.first) in
    let i = wide_fits (p.high +ℤ q.high) (wide_sum p.high q.high l.last r.last) in
    let j : to_z w128 (8 * p.stride) ≡ pos (8 * p.stride) = to_z_pos w128 (8 * p.stride) (omega (arith, steps_small p l)) in
    let k : to_z w128 (8 * q.stride) ≡ pos (8 * q.stride) = to_z_pos w128 (8 * q.stride) (omega (arith, steps_small q r)) in
    starts_not c.args.lo c.args.hi p q (lt_true (p.low +ℤ q.low) c.args.lo (simp to_z-of_z at c.if-first-lo.true))

pub overflow_add-first-2 : goal.overflow_add-first-2
overflow_add-first-2 c =
    let p = c.args.p in
    let q = c.args.q in
    let l = c.requires.left in
    let r = c.requires.right in
    let a = number_fits p.low l.first in
    let b = number_fits q.low r.first in
    let d = number_fits p.high l.last in
    let e = number_fits q.high r.last in
    let f : FitsSigned w128 c.args.lo = c.ranges.lo in
    let g : FitsSigned w128 c.args.hi = c.ranges.hi in
    let h = wide_fits (p.low +ℤ q.low) (wide_sum p.low q.low l.first r.first) in
    let i = wide_fits (p.high +ℤ q.high) (wide_sum p.high q.high l.last r.last) in
    let j : to_z w128 (8 * p.stride) ≡ pos (8 * p.stride) = to_z_pos w128 (8 * p.stride) (omega (arith, steps_small p l)) in
    let k : to_z w128 (8 * q.stride) ≡ pos (8 * q.stride) = to_z_pos w128 (8 * q.stride) (omega (arith, steps_small q r)) in
    let m = further_fits (p.low +ℤ q.low) (8 * p.stride) (wide_sum p.low q.low l.first r.first) (steps_small p l) in
    let n = further_fits (p.low +ℤ q.low) (8 * q.stride) (wide_sum p.low q.low l.first r.first) (steps_small q r) in
    simp (to_z-of_z, j) m

pub returns-then-first-p : goal.returns-then-first-p
returns-then-first-p c =
    let p = c.args.p in
    let q = c.args.q in
    let l = c.requires.left in
    let r = c.requires.right in
    let a = number_fits p.low l.first in
    let b = number_fits q.low r.first in
    let d = number_fits p.high l.last in
    let e = number_fits q.high r.last in
    let f : FitsSigned w128 c.args.lo = c.ranges.lo in
    let g : FitsSigned w128 c.args.hi = c.ranges.hi in
    let h = wide_fits (p.low +ℤ q.low) (wide_sum p.low q.low l.first r.first) in
    let i = wide_fits (p.high +ℤ q.high) (wide_sum p.high q.high l.last r.last) in
    let j : to_z w128 (8 * p.stride) ≡ pos (8 * p.stride) = to_z_pos w128 (8 * p.stride) (omega (arith, steps_small p l)) in
    let k : to_z w128 (8 * q.stride) ≡ pos (8 * q.stride) = to_z_pos w128 (8 * q.stride) (omega (arith, steps_small q r)) in
    let m = further_fits (p.low +ℤ q.low) (8 * p.stride) (wide_sum p.low q.low l.first r.first) (steps_small p l) in
    let n = further_fits (p.low +ℤ q.low) (8 * q.stride) (wide_sum p.low q.low l.first r.first) (steps_small q r) in
    starts_far c.args.lo c.args.hi p q (lt_false (p.low +ℤ q.low) c.args.lo (simp to_z-of_z at c.if-first-lo.false))
    (le_true ((p.low +ℤ q.low) +ℤ pos (8 * p.stride)) c.args.hi (simp (to_z-of_z, j) at c.if-first-p.true))

pub overflow_add-result : goal.overflow_add-result
overflow_add-result c =
    let p = c.args.p in
    let q = c.args.q in
    let l = c.requires.left in
    let r = c.requires.right in
    let a = number_fits p.low l.first in
    let b = number_fits q.low r.first in
    let d = number_fits p.high l.last in
    let e = number_fits q.high r.last in
    let f : FitsSigned w128 c.args.lo = c.ranges.lo in
    let g : FitsSigned w128 c.args.hi = c.ranges.hi in
    let h = wide_fits (p.low +ℤ q.low) (wide_sum p.low q.low l.first r.first) in
    let i = wide_fits (p.high +ℤ q.high) (wide_sum p.high q.high l.last r.last) in
    let j : to_z w128 (8 * p.stride) ≡ pos (8 * p.stride) = to_z_pos w128 (8 * p.stride) (omega (arith, steps_small p l)) in
    let k : to_z w128 (8 * q.stride) ≡ pos (8 * q.stride) = to_z_pos w128 (8 * q.stride) (omega (arith, steps_small q r)) in
    let m = further_fits (p.low +ℤ q.low) (8 * p.stride) (wide_sum p.low q.low l.first r.first) (steps_small p l) in
    let n = further_fits (p.low +ℤ q.low) (8 * q.stride) (wide_sum p.low q.low l.first r.first) (steps_small q r) in
    simp (to_z-of_z, k) n

pub returns : goal.returns
returns c =
    let p = c.args.p in
    let q = c.args.q in
    let l = c.requires.left in
    let r = c.requires.right in
    let a = number_fits p.low l.first in
    let b = number_fits q.low r.first in
    let d = number_fits p.high l.last in
    let e = number_fits q.high r.last in
    let f : FitsSigned w128 c.args.lo = c.ranges.lo in
    let g : FitsSigned w128 c.args.hi = c.ranges.hi in
    let h = wide_fits (p.low +ℤ q.low) (wide_sum p.low q.low l.first r.first) in
    let i = wide_fits (p.high +ℤ q.high) (wide_sum p.high q.high l.last r.last) in
    let j : to_z w128 (8 * p.stride) ≡ pos (8 * p.stride) = to_z_pos w128 (8 * p.stride) (omega (arith, steps_small p l)) in
    let k : to_z w128 (8 * q.stride) ≡ pos (8 * q.stride) = to_z_pos w128 (8 * q.stride) (omega (arith, steps_small q r)) in
    let m = further_fits (p.low +ℤ q.low) (8 * p.stride) (wide_sum p.low q.low l.first r.first) (steps_small p l) in
    let n = further_fits (p.low +ℤ q.low) (8 * q.stride) (wide_sum p.low q.low l.first r.first) (steps_small q r) in
    simp (to_z-of_z, k)
    (starts_else c.args.lo c.args.hi p q (lt_false (p.low +ℤ q.low) c.args.lo (simp to_z-of_z at c.if-first-lo.false))
    (le_false ((p.low +ℤ q.low) +ℤ pos (8 * p.stride)) c.args.hi (simp (to_z-of_z, j) at c.if-first-p.false)))
