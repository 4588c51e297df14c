use Rattle.std.proofs.Common.{ap, ◌∙◌, suc, ℕ, List}
use Rattle.std.proofs.lemmas.Result.{IfOk-weaker}
use Rattle.cell_laws.specs.Access.{loaded_all}
use Rattle.cell_runs.specs.declared.runs.Run.{Run}
use Rattle.cell_runs.specs.Runs.{elements}
use Rattle.run_slots.specs.Repeats.{told_once}
use Rattle.offmap.proofs.Gluing.{represented_within, steps_loaded}
use Rattle.offmap.proofs.Ranges.{ranges_are}
use Rattle.offmap.proofs.map.OffMap.load_steps.Goals as goal

pub load_all-requires-clause-inside : goal.load_all-requires-clause-inside
load_all-requires-clause-inside g c =
    represented_within g.C.Cells.ops c.deref.result.now c.args.self.now c.args.bits c.args.steps.first c.args.steps.step _ c.in_ok-offsets.offsets.items c.deref-2.result.now
    (ap elements c.deref.ensures.value ∙ c.self.view_is) c.deref-2.ensures.value c.in_ok-offsets.ensures.all

pub returns-clause-value : goal.returns-clause-value
returns-clause-value g c =
    let own = ranges_are g.C.Cells.fine c.self.inside.bits c.self.inside.runs.items c.deref.result.now c.args.self.now c.self.invariant c.self.view_is c.deref.ensures.value in
    let load = λ (l : List ℕ). loaded_all g.C.Cells.ops c.args.self.now l c.args.bits in
    IfOk-weaker c.load_all.result _ _
    (λ d e rs r. e ∙ ap load (c.deref-2.ensures.value ∙ c.in_ok-offsets.ensures.value)
    ∙ ap (λ x. load (told_once x c.args.bits c.args.steps.first c.args.steps.step (suc c.args.steps.more))) (r.only c.deref.result.now own.some own.apart own.view)) c.load_all.ensures

pub returns-clause-all : goal.returns-clause-all
returns-clause-all g c =
    IfOk-weaker c.load_all.result _ _
    (λ d e. steps_loaded g.C.Cells.ops c.deref.result.now c.args.self.now c.args.bits c.args.steps.first c.args.steps.step _ c.in_ok-offsets.offsets.items c.deref-2.result.now d
    (ap elements c.deref.ensures.value ∙ c.self.view_is) c.deref-2.ensures.value c.in_ok-offsets.ensures.all e) c.load_all.ensures
