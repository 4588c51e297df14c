use Rattle.std.proofs.Common.{rules}
use Rattle.std.specs.Int.{w128}
use Rattle.std.specs.Prelude.{FitsSigned}
use Rattle.std.proofs.lemmas.Int.{to_z-of_z}
use Rattle.ival_core.proofs.Congruences.{range_of, range_holds}
use Rattle.ival_core.proofs.Runs.{number_fits}
use Rattle.ival_core.proofs.widening.move_bounds.Goals as goal

pub range-requires : goal.range-requires
range-requires c =
    let f : FitsSigned w128 c.args.least = c.ranges.least in
    let g : FitsSigned w128 c.args.greatest = c.ranges.greatest in
    let a : FitsSigned w128 c.move_low.result = number_fits _ c.move_low.ensures.number in
    let b : FitsSigned w128 c.move_high.result = number_fits _ c.move_high.ensures.number in
    let d : FitsSigned w128 c.congruence-rem.result.0 = search rules in
    let e : FitsSigned w128 c.congruence-rem.result.1 = search rules in
    simp to_z-of_z (range_of c.args.joined.now c.args.least c.args.greatest c.move_low.result c.move_high.result c.congruence-rem.result.0 c.congruence-rem.result.1
    c.requires.bounds c.congruence-rem.ensures.same (simp to_z-of_z at c.move_low.ensures.below) c.move_low.ensures.number (simp to_z-of_z at c.move_high.ensures.above) c.move_high.ensures.number)

pub returns-clause-holds : goal.returns-clause-holds
returns-clause-holds c n h =
    let f : FitsSigned w128 c.args.least = c.ranges.least in
    let g : FitsSigned w128 c.args.greatest = c.ranges.greatest in
    let a : FitsSigned w128 c.move_low.result = number_fits _ c.move_low.ensures.number in
    let b : FitsSigned w128 c.move_high.result = number_fits _ c.move_high.ensures.number in
    let d : FitsSigned w128 c.congruence-rem.result.0 = search rules in
    let e : FitsSigned w128 c.congruence-rem.result.1 = search rules in
    ((simp to_z-of_z at c.range.ensures.numbers) n).1
    (range_holds c.args.joined.now c.args.least c.args.greatest c.move_low.result c.move_high.result c.congruence-rem.result.0 c.congruence-rem.result.1 n
    c.requires.bounds c.congruence-rem.ensures.same (simp to_z-of_z at c.move_low.ensures.below) (simp to_z-of_z at c.move_high.ensures.above) h)

pub returns-clause-how : goal.returns-clause-how
returns-clause-how c =
    let f : FitsSigned w128 c.args.least = c.ranges.least in
    let g : FitsSigned w128 c.args.greatest = c.ranges.greatest in
    let h : FitsSigned w128 c.args.low = c.ranges.low in
    let k : FitsSigned w128 c.args.high = c.ranges.high in
    let a : FitsSigned w128 c.move_low.result = number_fits _ c.move_low.ensures.number in
    let b : FitsSigned w128 c.move_high.result = number_fits _ c.move_high.ensures.number in
    let d : FitsSigned w128 c.congruence-rem.result.0 = search rules in
    let e : FitsSigned w128 c.congruence-rem.result.1 = search rules in
    record {
      least = c.args.least;
      greatest = c.args.greatest;
      bounds = c.requires.bounds;
      unstable = c.requires.unstable;
      lower = c.move_low.result;
      upper = c.move_high.result;
      lower_is = simp to_z-of_z at c.move_low.ensures.end;
      upper_is = simp to_z-of_z at c.move_high.ensures.end;
      rem = c.congruence-rem.result.0;
      modulus = c.congruence-rem.result.1;
      congruence = c.congruence-rem.ensures.same;
      numbers = simp to_z-of_z at c.range.ensures.numbers;
    }
