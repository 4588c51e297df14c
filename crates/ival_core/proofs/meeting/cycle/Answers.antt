use Rattle.std.proofs.Common.{◌<◌}
use Rattle.std.specs.Int.{w128}
use Rattle.std.specs.Prelude.{FitsSigned}
use Rattle.std.proofs.lemmas.Int.{to_z-of_z}
use Rattle.ival_core.proofs.Meetings.{MeetsBoth-run, MeetsBoth-first, common_moves, gcd_moves}
use Rattle.ival_core.proofs.Decisions.{both_ways}
use Rattle.ival_core.proofs.meeting.cycle.Goals as goal

pub run_from-requires-clause-moves : goal.run_from-requires-clause-moves
run_from-requires-clause-moves c = common_moves c.args.one c.args.other c.gcd.result c.requires.one.0 c.requires.other.0 c.gcd.ensures.0

pub returns-then-abs_diff-other : goal.returns-then-abs_diff-other
returns-then-abs_diff-other c =
    let f : FitsSigned w128 c.args.first = c.ranges.first in
    let h : FitsSigned w128 c.args.high = c.ranges.high in
    let m : 0 < c.gcd.result = gcd_moves c.args.one c.gcd.result c.requires.one.0 c.gcd.ensures.0 in
    both_ways _ _ _ (simp to_z-of_z at c.single.ensures.only)
    (MeetsBoth-first c.args.first c.args.high c.args.one c.args.other c.gcd.result c.abs_diff.result c.requires.order m c.requires.other.0 c.gcd.ensures (simp to_z-of_z at c.abs_diff.ensures) c.if-abs_diff-other.true)

pub returns-else-abs_diff-other : goal.returns-else-abs_diff-other
returns-else-abs_diff-other c =
    let f : FitsSigned w128 c.args.first = c.ranges.first in
    let h : FitsSigned w128 c.args.high = c.ranges.high in
    let m : 0 < c.gcd.result = gcd_moves c.args.one c.gcd.result c.requires.one.0 c.gcd.ensures.0 in
    both_ways _ _ _ (simp to_z-of_z at c.run_from.ensures.numbers)
    (MeetsBoth-run c.args.first c.args.high c.args.one c.args.other c.gcd.result m c.gcd.ensures)
