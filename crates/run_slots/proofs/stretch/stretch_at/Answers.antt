use Rattle.std.proofs.Common.{◌*◌, ◌-◌, ◌∙◌, ap, sym, subst, arith, refl}
use Rattle.cell_laws.specs.Elements.{Element}
use Rattle.cell_runs.specs.Runs.{elements}
use Rattle.cell_runs.proofs.Taking.{fine_at, small_at, bits_at}
use Rattle.run_slots.specs.declared.stretch.Stretch.{Stretch}
use Rattle.run_slots.specs.Walks.{bits_before}
use Rattle.run_slots.specs.Weakens.{ComeAgain}
use Rattle.run_slots.proofs.Walking.{has_run}
use Rattle.run_slots.proofs.Stretching.{stretch_is, stretch_comes}
use Rattle.run_slots.proofs.stretch.stretch_at.Goals as goal

pub bounds-runs-spot : goal.bounds-runs-spot
bounds-runs-spot g c = has_run c.args.runs.now (bits_before c.args.runs.now c.args.spot) c.args.spot c.requires.spot c.requires.inside

pub overflow_mul-rest : goal.overflow_mul-rest
overflow_mul-rest g c =
    let i = has_run c.args.runs.now (bits_before c.args.runs.now c.args.spot) c.args.spot c.requires.spot c.requires.inside in
    let h = small_at c.args.runs.now c.args.spot.index c.index-runs-spot.result i c.index-runs-spot.is c.requires.runs.small in
    omega arith

pub stretch_in-requires-clause-some : goal.stretch_in-requires-clause-some
stretch_in-requires-clause-some g c =
    let i = has_run c.args.runs.now (bits_before c.args.runs.now c.args.spot) c.args.spot c.requires.spot c.requires.inside in
    bits_at c.args.runs.now c.args.spot.index c.index-runs-spot.result i c.index-runs-spot.is c.requires.runs.some

pub stretch_in-requires-clause-few : goal.stretch_in-requires-clause-few
stretch_in-requires-clause-few g c =
    let i = has_run c.args.runs.now (bits_before c.args.runs.now c.args.spot) c.args.spot c.requires.spot c.requires.inside in
    let f = fine_at g.C.Cells.fine c.args.runs.now c.args.spot.index c.index-runs-spot.result i c.index-runs-spot.is c.requires.runs.some c.requires.runs.fine in
    g.met.C.Cells.fine_laws.few_bits c.index-runs-spot.result.bits c.index-runs-spot.result.cell f

pub returns-clause-value : goal.returns-clause-value
returns-clause-value g c =
    let i = has_run c.args.runs.now (bits_before c.args.runs.now c.args.spot) c.args.spot c.requires.spot c.requires.inside in
    c.stretch_in.ensures
    ∙ stretch_is c.args.runs.now (bits_before c.args.runs.now c.args.spot) c.args.wide c.args.reach c.args.left c.args.spot c.index-runs-spot.result c.requires.spot i c.index-runs-spot.is

pub returns-clause-again : goal.returns-clause-again
returns-clause-again g c =
    let at = bits_before c.args.runs.now c.args.spot in
    let i = has_run c.args.runs.now at c.args.spot c.requires.spot c.requires.inside in
    subst (λ (s : Stretch). ComeAgain g.C.Cells.ops (elements c.args.runs.now) at c.args.wide c.args.reach c.args.left s.size s.repeats) (sym c.stretch_in.ensures)
    (stretch_comes g.C.Cells.ops c.args.runs.now at c.args.wide c.args.reach c.args.left _ c.args.spot c.index-runs-spot.result c.requires.runs.some c.requires.spot i c.index-runs-spot.is refl c.requires.far c.requires.left)
