use Rattle.std.proofs.Common.{arith, ◌≤ℤ◌, ◌%◌, ◌≡◌}
use Rattle.std.specs.Int.{w128}
use Rattle.std.specs.Prelude.{FitsSigned}
use Rattle.std.proofs.lemmas.Int.{to_z-of_z, ints}
use Rattle.std.proofs.lemmas.Nat.Gcd.{mod-eq-zero_of_dvd}
use Rattle.ival_core.proofs.Inclusion.{Wider, Wider-from, Wider-tested}
use Rattle.ival_core.proofs.Runs.{number_fits}
use Rattle.ival_core.proofs.Decisions.{never}
use Rattle.ival_core.proofs.value.Progression.is_within.Goals as goal

pub returns-then-self-wide : goal.returns-then-self-wide
returns-then-self-wide c = never _ (λ h.
    let w : Wider c.args.wide.now c.args.self.now = Wider-from c.args.wide.now c.args.self.now c.requires.own h in
    let f : FitsSigned w128 c.args.self.now.low = number_fits _ c.requires.own.first in
    let g : FitsSigned w128 c.args.wide.now.low = number_fits _ c.requires.other.first in
    absurd (omega (arith, ints)))

pub returns-then-wide-self : goal.returns-then-wide-self
returns-then-wide-self c = never _ (λ h.
    let w : Wider c.args.wide.now c.args.self.now = Wider-from c.args.wide.now c.args.self.now c.requires.own h in
    let f : FitsSigned w128 c.args.self.now.high = number_fits _ c.requires.own.last in
    let g : FitsSigned w128 c.args.wide.now.high = number_fits _ c.requires.other.last in
    absurd (omega (arith, ints)))

pub returns-then-self-wide-ne0 : goal.returns-then-self-wide-ne0
returns-then-self-wide-ne0 c = never _ (λ h.
    let w : Wider c.args.wide.now c.args.self.now = Wider-from c.args.wide.now c.args.self.now c.requires.own h in
    let z : c.args.self.now.stride % c.args.wide.now.stride ≡ 0 = mod-eq-zero_of_dvd c.args.wide.now.stride w.stride in
    c.if-self-wide-ne0.true z)

pub returns : goal.returns
returns c =
    let f : FitsSigned w128 c.args.self.now.low = number_fits _ c.requires.own.first in
    let g : FitsSigned w128 c.args.wide.now.low = number_fits _ c.requires.other.first in
    let h : FitsSigned w128 c.args.self.now.high = number_fits _ c.requires.own.last in
    let k : FitsSigned w128 c.args.wide.now.high = number_fits _ c.requires.other.last in
    let low : c.args.wide.now.low ≤ℤ c.args.self.now.low = omega (arith, ints) in
    let high : c.args.self.now.high ≤ℤ c.args.wide.now.high = omega (arith, ints) in
    Wider-tested c.args.wide.now c.args.self.now c.abs_diff.result c.requires.own low high c.if-self-wide-ne0.false (simp to_z-of_z at c.abs_diff.ensures)
