use Rattle.std.proofs.Common.{rules, ◌≡◌, FitsSigned}
use Rattle.ival_core.specs.Sets.{apart}
use Rattle.ival_bits.proofs.wraps.end.Goals as goal
use Rattle.std.proofs.Common.{FitsSigned}
use Rattle.std.specs.Int.{w128}
use Rattle.std.proofs.lemmas.Int.{to_z-of_z}
use Rattle.ival_core.specs.Sets.{apart}
use Rattle.ival_bits.proofs.WrapCodes.{distance, apart_small, sum_end}

-- src/wraps.rt:82:1
pub returns : goal.returns
returns c =
    let p = c.args.run in
    let f : FitsSigned w128 c.args.low = search rules in
    let g : FitsSigned w128 p.low = search rules in
    let h : FitsSigned w128 p.high = search rules in
    let d : c.abs_diff.result ≡ apart p.low p.high = distance p.low p.high c.abs_diff.result (simp to_z-of_z at c.abs_diff.ensures) in
    let a = c.requires.low.least in let b = c.requires.low.greatest in
    let k = apart_small p.low p.high c.requires.run.first c.requires.run.last in
    sum_end c.args.low c.abs_diff.result (apart p.low p.high) c.requires.low d k
