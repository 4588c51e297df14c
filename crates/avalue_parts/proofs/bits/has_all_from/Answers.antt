use Rattle.std.proofs.Common.{◌≡◌, ◌<ℤ◌, pos, ◌+ℤ◌, ◌-ℤ◌, ◌^◌, arith, to_z}
use Rattle.std.specs.Int.{w128}
use Rattle.std.specs.Prelude.{FitsSigned}
use Rattle.std.proofs.lemmas.Int.{ints, to_z-of_z, to_z_pos}
use Rattle.avalue_parts.proofs.Rows.{row_from, row_beyond}
use Rattle.avalue_parts.proofs.bits.has_all_from.Goals as goal

pub returns-then-more-first : goal.returns-then-more-first
returns-then-more-first c =
    let f : FitsSigned w128 c.args.first = c.ranges.first in
    let a = c.requires.first.least in
    let b = c.requires.first.greatest in
    let l : (pos (2 ^ 120) -ℤ c.args.first) <ℤ pos c.args.more = omega (arith, ints) in
    row_beyond c.args.numbers.now c.args.first (pos c.args.more) l (omega (arith, ints))

pub returns : goal.returns
returns c =
    let f : FitsSigned w128 c.args.first = c.ranges.first in
    let a = c.requires.first.least in
    let b = c.requires.first.greatest in
    let m = c.requires.more in
    let p : to_z w128 c.args.more ≡ pos c.args.more = to_z_pos w128 c.args.more (omega arith) in
    let g : FitsSigned w128 (c.args.first +ℤ pos c.args.more) = omega (arith, ints) in
    row_from c.args.numbers.now c.range.result c.args.first (pos c.args.more) c.included.result (omega (arith, ints)) (simp (p, to_z-of_z) at c.range.ensures.numbers) c.included.ensures
