use Rattle.std.proofs.Common.{◌∙◌, sym, ap}
use Rattle.std.proofs.lemmas.Result.{IfOk-weaker}
use Rattle.std.specs.Option.{option_copied}
use Rattle.memory_maps.specs.Memories.{map_at, with_map}
use Rattle.memory_writes.specs.Writes.{weak_in}
use Rattle.memory_reads.proofs.Fitting.{found_fits}
use Rattle.memory_writes.proofs.writes.write_weak_at.Goals as goal

pub returns-in-None : goal.returns-in-None
returns-in-None g c =
    let e = sym c.find.ensures ∙ ap option_copied c.in-None.is in
    IfOk-weaker c.duplicate.result _ _
    (λ d h. h ∙ sym (ap (weak_in g.C.Cells.ops c.args.bits c.args.cell.now c.args.place.now c.args.memory.now) e)) c.duplicate.ensures

pub store_weak-requires-clause-inside : goal.store_weak-requires-clause-inside
store_weak-requires-clause-inside g c =
    found_fits c.args.bits c.args.place.now.1 (map_at c.args.memory.now c.args.place.now.0) c.in-Some.map.now (sym c.find.ensures ∙ ap option_copied c.in-Some.is) c.requires.fits

pub returns-in_ok-stored-in-Some : goal.returns-in_ok-stored-in-Some
returns-in_ok-stored-in-Some g c =
    let e = sym c.find.ensures ∙ ap option_copied c.in-Some.is in
    IfOk-weaker c.with_map.result _ _
    (λ d h. h ∙ ap (with_map c.args.memory.now c.args.place.now.0) c.in_ok-stored-in-Some.ensures
    ∙ sym (ap (weak_in g.C.Cells.ops c.args.bits c.args.cell.now c.args.place.now c.args.memory.now) e)) c.with_map.ensures
