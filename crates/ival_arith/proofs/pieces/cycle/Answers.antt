use Rattle.std.proofs.Common.{◌≡◌, ℕ, ◌+◌, ◌-◌, ◌*◌, ◌%◌, ◌<◌, ◌≤◌, ◌^◌, true, false, pos, refl, sym, subst, ◌∙◌, arith}
use Rattle.std.specs.Int.{w128}
use Rattle.std.proofs.lemmas.Int.{ints, to_z_pos}
use Rattle.ival_core.specs.Ranges.{IsRange}
use Rattle.std.specs.Prelude.{nat_lt}
use Rattle.std.proofs.lemmas.Bool.{ltb-true, ltb-false}
use Rattle.std.proofs.lemmas.Nat.Gcd.{le_of_dvd, same_from_IsGcd}
use Rattle.std.proofs.lemmas.Nat.{mod_below}
use Rattle.ival_core.specs.Joined.{gcd}
use Rattle.ival_core.proofs.Joined.{gcd_is}
use Rattle.ival_arith.specs.Pieces.{residues_from}
use Rattle.ival_arith.proofs.Codes.{cycle-few, cycle-run, cycle-all, same_run, gathered_start, range_same, ranged_same, one_less}
use Rattle.ival_arith.proofs.Cycles.{positive, range_may, cycle_moves}
use Rattle.ival_arith.proofs.pieces.cycle.Goals as goal

pub returns-then-is_left : goal.returns-then-is_left
returns-then-is_left c =
    c.with_residues.ensures ∙ gathered_start c.empty.result.shape (residues_from c.args.m c.args.first c.args.stride 8) c.empty.ensures.value
    ∙ sym (cycle-few c.args.m c.args.first c.args.stride c.args.more (sym c.is_left.ensures ∙ c.if-is_left.true))

below : (m first stride more : ℕ) → nat_lt (first + more * stride) m ≡ true → first + more * stride < m
below m first stride more e = ltb-true (first + more * stride) m e

above : (m first stride more : ℕ) → nat_lt (first + more * stride) m ≡ false → m ≤ first + more * stride
above m first stride more e = ltb-false (first + more * stride) m e

pub returns-then-is_below : goal.returns-then-is_below
returns-then-is_below c =
    let a : c.args.first < 2 ^ 64 = omega arith in
    let d = below c.args.m c.args.first c.args.stride c.args.more (sym c.is_below.ensures ∙ c.if-is_below.true) in
    let b : c.args.first + c.args.more * c.args.stride < 2 ^ 64 = omega arith in
    c.run_from.ensures.value
    ∙ same_run _ _ _ _ c.args.stride c.args.stride (to_z_pos w128 c.args.first (omega arith)) (to_z_pos w128 (c.args.first + c.args.more * c.args.stride) (omega arith)) refl
    ∙ sym (cycle-run c.args.m c.args.first c.args.stride c.args.more (sym c.is_left.ensures ∙ c.if-is_left.false) (below c.args.m c.args.first c.args.stride c.args.more (sym c.is_below.ensures ∙ c.if-is_below.true)))

pub nonzero_rem-first-2 : goal.nonzero_rem-first-2
nonzero_rem-first-2 c = positive c.gcd-step.result c.args.m c.requires.modulus.0 c.gcd-step.ensures.1

pub overflow_cast-step : goal.overflow_cast-step
overflow_cast-step c =
    let l : c.gcd-step.result ≤ c.args.m = le_of_dvd c.requires.modulus.0 c.gcd-step.ensures.1 in omega (arith, ints)

step_is : (c : goal.After-gcd-step) → c.gcd-step.result ≡ gcd c.args.stride c.args.m
step_is c = same_from_IsGcd c.args.stride c.args.m c.gcd-step.result (gcd c.args.stride c.args.m) c.gcd-step.ensures (gcd_is c.args.stride c.args.m)

pub range-requires : goal.range-requires
range-requires c =
    let m = c.args.m in
    let p = c.requires.modulus.0 in
    let q = c.requires.modulus.1 in
    let step = c.gcd-step.result in
    let s : 0 < step = positive step m p c.gcd-step.ensures.1 in
    let l : step ≤ m = le_of_dvd p c.gcd-step.ensures.1 in
    let r : c.args.first % step < step = mod_below c.args.first step s in
    range_same _ _ _ _ (pos 0) (pos (m - 1)) (pos (c.args.first % step)) (pos step) refl (one_less m p q)
    (to_z_pos w128 (c.args.first % step) (omega arith)) (to_z_pos w128 step (omega arith))
    (subst (λ (g : ℕ). IsRange (pos 0) (pos (m - 1)) (pos (c.args.first % g)) (pos g)) (sym (step_is c)) (range_may m c.args.first c.args.stride p q))

pub returns : goal.returns
returns c =
    let m = c.args.m in
    let p = c.requires.modulus.0 in
    let q = c.requires.modulus.1 in
    let step = c.gcd-step.result in
    let s : 0 < step = positive step m p c.gcd-step.ensures.1 in
    let l : step ≤ m = le_of_dvd p c.gcd-step.ensures.1 in
    let r : c.args.first % step < step = mod_below c.args.first step s in
    c.range.ensures.value
    ∙ ranged_same _ _ _ _ (pos 0) (pos (m - 1)) (pos (c.args.first % step)) (pos step) refl (one_less m p q)
    (to_z_pos w128 (c.args.first % step) (omega arith)) (to_z_pos w128 step (omega arith))
    ∙ sym (cycle-all m c.args.first c.args.stride c.args.more step (sym c.is_left.ensures ∙ c.if-is_left.false) (above c.args.m c.args.first c.args.stride c.args.more (sym c.is_below.ensures ∙ c.if-is_below.false)) c.gcd-step.ensures)

pub is_below-requires-clause-moves : goal.is_below-requires-clause-moves
is_below-requires-clause-moves c = cycle_moves c.args.m c.args.first c.args.stride (sym c.is_left.ensures ∙ c.if-is_left.false)

pub run_from-requires-clause-moves : goal.run_from-requires-clause-moves
run_from-requires-clause-moves c = cycle_moves c.args.m c.args.first c.args.stride (sym c.is_left.ensures ∙ c.if-is_left.false)
