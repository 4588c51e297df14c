use Rattle.std.proofs.Common.{◌∙◌, ◌-◌, length, arith}
use Rattle.std.proofs.lemmas.Result.{IfOk-weaker}
use Rattle.memory_reads.proofs.Fitting.{place_at, read_last, read_more, read_none}
use Rattle.memory_reads.proofs.reads.read.Goals as goal

pub returns-then-i-eq0 : goal.returns-then-i-eq0
returns-then-i-eq0 g c =
    IfOk-weaker c.void.result _ _
    (λ d h ranges r. h ∙ read_none g.C.Cells.ops c.args.memory.now ranges c.args.bits c.args.places.now c.if-i-eq0.true) c.void.ensures

pub read_place-requires-clause-fits : goal.read_place-requires-clause-fits
read_place-requires-clause-fits g c =
    let n = c.if-i-eq0.false in
    place_at c.args.memory.now c.args.bits c.args.places.now (length c.args.places.now - 1) c.index-places-i.result c.index-places-i.result (omega arith) c.index-places-i.is c.requires.fit

pub loop-i-init : goal.loop-i-init
loop-i-init g c =
    let n = c.if-i-eq0.false in (
      omega arith,
      λ ranges r. c.in_ok-cell.ensures ranges r
          ∙ read_last g.C.Cells.ops c.args.memory.now ranges c.args.bits (length c.args.places.now - 1) c.args.places.now c.index-places-i.result (omega arith) (omega arith) c.index-places-i.is,
    )

pub read_place-requires-in-loop-i-clause-fits : goal.read_place-requires-in-loop-i-clause-fits
read_place-requires-in-loop-i-clause-fits g c =
    let i = c.loop-i.invariant.0 in
    place_at c.args.memory.now c.args.bits c.args.places.now (c.loop-i.i - 1) c.index-places-i-in-loop-i.result c.index-places-i-in-loop-i.result (omega arith) c.index-places-i-in-loop-i.is c.requires.fit

pub loop-i-preserved : goal.loop-i-preserved
loop-i-preserved g c =
    let i = c.loop-i.invariant.0 in (
      omega arith,
      λ ranges r.
          read_more g.C.Cells.ops c.args.memory.now ranges c.args.bits (c.loop-i.i - 1) c.loop-i.i c.args.places.now c.index-places-i-in-loop-i.result c.in_ok-here.here c.loop-i.cell c.in_ok-cell-2.cell
          (omega arith) i c.index-places-i-in-loop-i.is (c.in_ok-here.ensures ranges r) (c.loop-i.invariant.1 ranges r) c.in_ok-cell-2.ensures,
    )
