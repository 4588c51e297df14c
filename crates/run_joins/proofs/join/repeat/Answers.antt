use Rattle.std.proofs.Common.{arith, sym, ◌∙◌}
use Rattle.cell_runs.proofs.Taking.{bits_at, fine_at}
use Rattle.cell_runs.specs.Runs.{elements}
use Rattle.run_joins.proofs.Repeated.{periods_at, many_small, front_is, front_maps, front_wide, made_view, repeat_steps}
use Rattle.run_joins.proofs.join.repeat.Goals as goal

pub join_each-requires-clause-maps : goal.join_each-requires-clause-maps
join_each-requires-clause-maps g c =
    let p = (periods_at c.args.a.now c.args.b.now c.args.i.now.index c.args.j.now.index c.args.i.now.used c.args.j.now.used c.index-a-i.result c.index-b-j.result c.args.next c.requires.first c.index-a-i.is
    c.requires.second c.index-b-j.is c.requires.periods) in
    front_maps g.C.Cells.fine c.deref.result.now c.deref-2.result.now
    (record { bits = c.index-a-i.result.bits; count = c.args.next.first; cell = c.index-a-i.result.cell })
    (record { bits = c.index-b-j.result.bits; count = c.args.next.second; cell = c.index-b-j.result.cell })
    (c.deref.ensures.value ∙ c.in_ok-first.ensures) (c.deref-2.ensures.value ∙ c.in_ok-second.ensures)
    (bits_at c.args.a.now c.args.i.now.index c.index-a-i.result c.requires.first c.index-a-i.is c.requires.maps.some_first) p.some_first
    (bits_at c.args.b.now c.args.j.now.index c.index-b-j.result c.requires.second c.index-b-j.is c.requires.maps.some_second) p.some_second
    (fine_at g.C.Cells.fine c.args.a.now c.args.i.now.index c.index-a-i.result c.requires.first c.index-a-i.is c.requires.maps.some_first c.requires.maps.fine_first)
    (fine_at g.C.Cells.fine c.args.b.now c.args.j.now.index c.index-b-j.result c.requires.second c.index-b-j.is c.requires.maps.some_second c.requires.maps.fine_second)

pub join_each-requires-clause-even : goal.join_each-requires-clause-even
join_each-requires-clause-even g c =
    front_wide c.deref.result.now (record { bits = c.index-a-i.result.bits; count = c.args.next.first; cell = c.index-a-i.result.cell }) (c.deref.ensures.value ∙ c.in_ok-first.ensures)
    ∙ (periods_at c.args.a.now c.args.b.now c.args.i.now.index c.args.j.now.index c.args.i.now.used c.args.j.now.used c.index-a-i.result c.index-b-j.result c.args.next c.requires.first c.index-a-i.is
    c.requires.second c.index-b-j.is c.requires.periods).even
    ∙ sym (front_wide c.deref-2.result.now (record { bits = c.index-b-j.result.bits; count = c.args.next.second; cell = c.index-b-j.result.cell }) (c.deref-2.ensures.value ∙ c.in_ok-second.ensures))

pub join_each-requires-clause-small : goal.join_each-requires-clause-small
join_each-requires-clause-small g c =
    let s = (many_small c.args.a.now c.args.b.now c.args.i.now c.args.j.now c.index-a-i.result c.index-b-j.result c.args.next c.requires.first c.index-a-i.is c.requires.second c.index-b-j.is
    c.requires.maps.some_first c.requires.maps.some_second c.requires.even (periods_at c.args.a.now c.args.b.now c.args.i.now.index c.args.j.now.index c.args.i.now.used c.args.j.now.used c.index-a-i.result c.index-b-j.result c.args.next c.requires.first c.index-a-i.is
    c.requires.second c.index-b-j.is c.requires.periods) c.requires.some).wide in
    let w = front_wide c.deref.result.now (record { bits = c.index-a-i.result.bits; count = c.args.next.first; cell = c.index-a-i.result.cell }) (c.deref.ensures.value ∙ c.in_ok-first.ensures) in
    omega arith

pub overflow_mul-next : goal.overflow_mul-next
overflow_mul-next g c = let s = (many_small c.args.a.now c.args.b.now c.args.i.now c.args.j.now c.index-a-i.result c.index-b-j.result c.args.next c.requires.first c.index-a-i.is c.requires.second c.index-b-j.is
    c.requires.maps.some_first c.requires.maps.some_second c.requires.even (periods_at c.args.a.now c.args.b.now c.args.i.now.index c.args.j.now.index c.args.i.now.used c.args.j.now.used c.index-a-i.result c.index-b-j.result c.args.next c.requires.first c.index-a-i.is
    c.requires.second c.index-b-j.is c.requires.periods) c.requires.some).first in omega arith

pub overflow_mul-next-2 : goal.overflow_mul-next-2
overflow_mul-next-2 g c = let s = (many_small c.args.a.now c.args.b.now c.args.i.now c.args.j.now c.index-a-i.result c.index-b-j.result c.args.next c.requires.first c.index-a-i.is c.requires.second c.index-b-j.is
    c.requires.maps.some_first c.requires.maps.some_second c.requires.even (periods_at c.args.a.now c.args.b.now c.args.i.now.index c.args.j.now.index c.args.i.now.used c.args.j.now.used c.index-a-i.result c.index-b-j.result c.args.next c.requires.first c.index-a-i.is
    c.requires.second c.index-b-j.is c.requires.periods) c.requires.some).second in omega arith

pub returns : goal.returns
returns g c =
    repeat_steps g.C.Cells.ops (g.M.Merge.merged c.args.merge.now) c.args.a.now c.args.b.now c.args.i.now c.advance.new.at c.args.j.now c.advance-2.new.at c.index-a-i.result c.index-b-j.result c.args.next
    (elements c.deref.result.now) (elements c.deref-2.result.now) (elements c.deref-3.result.now) c.args.out.now.items c.push_times.new.out.items
    c.requires.first c.index-a-i.is c.requires.second c.index-b-j.is c.requires.maps.some_first c.requires.maps.some_second c.requires.even (periods_at c.args.a.now c.args.b.now c.args.i.now.index c.args.j.now.index c.args.i.now.used c.args.j.now.used c.index-a-i.result c.index-b-j.result c.args.next c.requires.first c.index-a-i.is
    c.requires.second c.index-b-j.is c.requires.periods) c.requires.some
    (front_is c.deref.result.now c.in_ok-first.first.items (record { bits = c.index-a-i.result.bits; count = c.args.next.first; cell = c.index-a-i.result.cell }) c.deref.ensures.value c.in_ok-first.ensures)
    (front_is c.deref-2.result.now c.in_ok-second.second.items (record { bits = c.index-b-j.result.bits; count = c.args.next.second; cell = c.index-b-j.result.cell }) c.deref-2.ensures.value c.in_ok-second.ensures)
    (made_view c.new-made.result.items c.join_each.new.out.items c.deref-3.result.now _ c.new-made.ensures.items c.deref-3.ensures.value c.in_ok-join_each.ensures)
    c.in_ok-push_times.ensures c.advance.ensures.rest c.advance.ensures.cursor c.advance-2.ensures.rest c.advance-2.ensures.cursor
