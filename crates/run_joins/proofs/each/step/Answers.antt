use Rattle.std.proofs.Common.{arith}
use Rattle.run_joins.proofs.Running.{bits_same}
use Rattle.run_joins.proofs.Opening.{second_index}
use Rattle.run_joins.proofs.each.step.Goals as goal

pub offset_bounds-b-j : goal.offset_bounds-b-j
offset_bounds-b-j g c = let h = second_index c.args.a.now c.args.b.now c.args.i.now c.args.j.now c.requires.even c.requires.first c.requires.maps.some_first in omega arith

pub bounds-b-j : goal.bounds-b-j
bounds-b-j g c = second_index c.args.a.now c.args.b.now c.args.i.now c.args.j.now c.requires.even c.requires.first c.requires.maps.some_first

pub same_run-requires-clause-second : goal.same_run-requires-clause-second
same_run-requires-clause-second g c = second_index c.args.a.now c.args.b.now c.args.i.now c.args.j.now c.requires.even c.requires.first c.requires.maps.some_first

pub same_run-requires-clause-same : goal.same_run-requires-clause-same
same_run-requires-clause-same g c =
    bits_same c.args.a.now c.args.b.now c.args.i.now.index c.args.j.now.index c.index-a-i.result c.index-b-j.result c.requires.first
    (second_index c.args.a.now c.args.b.now c.args.i.now c.args.j.now c.requires.even c.requires.first c.requires.maps.some_first) c.index-a-i.is c.index-b-j.is c.if-x-y.true
