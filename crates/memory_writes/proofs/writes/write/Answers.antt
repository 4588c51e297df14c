use Rattle.std.proofs.Common.{◌∙◌, sym, ap}
use Rattle.std.proofs.lemmas.Result.{IfOk-weaker}
use Rattle.memory_writes.specs.Writes.{by_one}
use Rattle.memory_writes.proofs.Fitting.{many_fit}
use Rattle.memory_writes.proofs.writes.write.Goals as goal

pub write_weak-requires-clause-fit : goal.write_weak-requires-clause-fit
write_weak-requires-clause-fit g c = many_fit c.args.memory.now c.args.bits c.args.places.now (sym c.one_place.ensures ∙ c.in-None.is) c.requires.fit

pub returns-in-None : goal.returns-in-None
returns-in-None g c =
    IfOk-weaker c.write_weak.result _ _
    (λ d h. h ∙ sym (ap (by_one g.C.Cells.ops c.args.bits c.args.cell.now c.args.places.now c.args.memory.now) (sym c.one_place.ensures ∙ c.in-None.is))) c.write_weak.ensures
