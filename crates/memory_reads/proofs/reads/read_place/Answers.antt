use Rattle.std.proofs.Common.{◌∙◌, sym, ap}
use Rattle.std.proofs.lemmas.Result.{IfOk-weaker}
use Rattle.std.specs.Option.{option_copied}
use Rattle.memory_maps.specs.Memories.{map_at}
use Rattle.memory_reads.specs.Reads.{loaded_in}
use Rattle.memory_reads.proofs.Fitting.{missing_fits, found_fits}
use Rattle.memory_reads.proofs.reads.read_place.Goals as goal

pub returns-in-None : goal.returns-in-None
returns-in-None g c =
    absurd (missing_fits c.args.bits c.args.place.now.1 (map_at c.args.memory.now c.args.place.now.0) (sym c.find.ensures ∙ ap option_copied c.in-None.is) c.requires.fits)

pub load-requires-clause-inside : goal.load-requires-clause-inside
load-requires-clause-inside g c =
    found_fits c.args.bits c.args.place.now.1 (map_at c.args.memory.now c.args.place.now.0) c.in-Some.map.now (sym c.find.ensures ∙ ap option_copied c.in-Some.is) c.requires.fits

pub returns-in-Some : goal.returns-in-Some
returns-in-Some g c =
    let e = sym c.find.ensures ∙ ap option_copied c.in-Some.is in
    IfOk-weaker c.load.result _ _
    (λ d h ranges r. h (ranges c.args.place.now.0) (r c.args.place.now.0 c.in-Some.map.now e)
    ∙ ap (loaded_in g.C.Cells.ops (ranges c.args.place.now.0) c.args.bits c.args.place.now.1) (sym e)) c.load.ensures
