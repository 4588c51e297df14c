use Rattle.std.proofs.Common.{arith, ◌<◌, ◌%◌, subst, sym}
use Rattle.ival_core.specs.Solutions.{IsLeastSolution}
use Rattle.ival_core.proofs.Solving.{none_whole, none_lifted, some_lifted}
use Rattle.ival_core.proofs.meeting.+solve.Goals as goal

pub returns-then-less-eq0 : goal.returns-then-less-eq0
returns-then-less-eq0 t c = none_whole c.args.step c.args.rest c.args.modulus c.args.bound (omega arith) c.if-less-eq0.true

pub returns-in-None : goal.returns-in-None
returns-in-None t c =
    let m : 0 < c.args.step % c.args.modulus = omega arith in
    none_lifted c.args.step c.args.rest c.args.modulus c.args.bound c.gap_to.result c.requires.rest m c.gap_to.ensures c.in-None.ensures

pub returns-in-Some : goal.returns-in-Some
returns-in-Some t c =
    let m : 0 < c.args.step % c.args.modulus = omega arith in
    subst (IsLeastSolution c.args.step c.args.rest c.args.modulus c.args.bound) (sym c.lifted.ensures)
    (some_lifted c.args.step c.args.rest c.args.modulus c.args.bound c.gap_to.result c.in-Some.turns c.requires.rest c.requires.step.0 m c.gap_to.ensures c.in-Some.ensures)
