use Rattle.std.proofs.Common.{arith}
use Rattle.cell_runs.proofs.Taking.{bits_at, fine_at}
use Rattle.run_joins.proofs.Running.{bits_same}
use Rattle.run_joins.proofs.Opening.{second_index}
use Rattle.run_joins.proofs.Repeated.{periods_from}
use Rattle.run_joins.proofs.join.step.Goals as goal

pub offset_bounds-b-j : goal.offset_bounds-b-j
offset_bounds-b-j g c = let h = second_index c.args.a.now c.args.b.now c.args.i.now c.args.j.now c.requires.even c.requires.first c.requires.maps.some_first in omega arith

pub bounds-b-j : goal.bounds-b-j
bounds-b-j g c = second_index c.args.a.now c.args.b.now c.args.i.now c.args.j.now c.requires.even c.requires.first c.requires.maps.some_first

pub same_run-requires-clause-second : goal.same_run-requires-clause-second
same_run-requires-clause-second g c = second_index c.args.a.now c.args.b.now c.args.i.now c.args.j.now c.requires.even c.requires.first c.requires.maps.some_first

pub same_run-requires-clause-same : goal.same_run-requires-clause-same
same_run-requires-clause-same g c =
    bits_same c.args.a.now c.args.b.now c.args.i.now.index c.args.j.now.index c.index-a-i.result c.index-b-j.result c.requires.first
    (second_index c.args.a.now c.args.b.now c.args.i.now c.args.j.now c.requires.even c.requires.first c.requires.maps.some_first) c.index-a-i.is c.index-b-j.is c.if-x-y.true

pub periods_of-next-requires-clause-first : goal.periods_of-next-requires-clause-first
periods_of-next-requires-clause-first g c = bits_at c.args.a.now c.args.i.now.index c.index-a-i.result c.requires.first c.index-a-i.is c.requires.maps.some_first

pub periods_of-next-requires-clause-first_few : goal.periods_of-next-requires-clause-first_few
periods_of-next-requires-clause-first_few g c =
    g.met.C.Cells.fine_laws.few_bits c.index-a-i.result.bits c.index-a-i.result.cell
    (fine_at g.C.Cells.fine c.args.a.now c.args.i.now.index c.index-a-i.result c.requires.first c.index-a-i.is c.requires.maps.some_first c.requires.maps.fine_first)

pub periods_of-next-requires-clause-second : goal.periods_of-next-requires-clause-second
periods_of-next-requires-clause-second g c =
    let h = second_index c.args.a.now c.args.b.now c.args.i.now c.args.j.now c.requires.even c.requires.first c.requires.maps.some_first in
    bits_at c.args.b.now c.args.j.now.index c.index-b-j.result h c.index-b-j.is c.requires.maps.some_second

pub periods_of-next-requires-clause-second_few : goal.periods_of-next-requires-clause-second_few
periods_of-next-requires-clause-second_few g c =
    let h = second_index c.args.a.now c.args.b.now c.args.i.now c.args.j.now c.requires.even c.requires.first c.requires.maps.some_first in
    g.met.C.Cells.fine_laws.few_bits c.index-b-j.result.bits c.index-b-j.result.cell
    (fine_at g.C.Cells.fine c.args.b.now c.args.j.now.index c.index-b-j.result h c.index-b-j.is c.requires.maps.some_second c.requires.maps.fine_second)

pub repeat-requires-clause-second : goal.repeat-requires-clause-second
repeat-requires-clause-second g c = second_index c.args.a.now c.args.b.now c.args.i.now c.args.j.now c.requires.even c.requires.first c.requires.maps.some_first

pub repeat-requires-clause-periods : goal.repeat-requires-clause-periods
repeat-requires-clause-periods g c =
    periods_from c.args.a.now c.args.b.now c.args.i.now.index c.args.j.now.index c.args.i.now.used c.args.j.now.used c.index-a-i.result c.index-b-j.result c.periods_of-next.result c.requires.first c.index-a-i.is
    (second_index c.args.a.now c.args.b.now c.args.i.now c.args.j.now c.requires.even c.requires.first c.requires.maps.some_first) c.index-b-j.is c.periods_of-next.ensures
