use Rattle.std.proofs.Common.{◌≡◌, ◌+◌, ◌==◌, get_or, None, Some}
use Rattle.c_lex.specs.Pieces.{step}
use Rattle.c_lex.proofs.Longest.{going_stops, going_on}
use Rattle.c_lex.proofs.cut.longest_front.Goals as goal

pub returns-in-None-clause-longest : goal.returns-in-None-clause-longest
returns-in-None-clause-longest c =
    let none : None ≡ step c.args.context c.going.state (get_or c.args.bytes.now c.going.next 0) (get_or c.args.bytes.now (c.going.next + 1) 0 == 46) = rw c.byte_at.ensures at c.in-None.ensures in
    going_stops c.args.context c.args.fresh c.args.bytes.now c.going.next c.going.state c.going.found none c.going.invariant

pub going-preserved : goal.going-preserved
going-preserved c =
    let some : Some c.in-Some.after ≡ step c.args.context c.going.state (get_or c.args.bytes.now c.going.next 0) (get_or c.args.bytes.now (c.going.next + 1) 0 == 46) = rw c.byte_at.ensures at c.in-Some.ensures in
    going_on c.args.context c.args.fresh c.args.bytes.now c.going.next c.going.state c.in-Some.after c.going.found c.longer-found.result c.going-test.true some
    c.longer-found.ensures c.going.invariant
