use Rattle.std.proofs.Common.{arith, take, sym, ◌∙◌, subst, ℕ}
use Rattle.std.proofs.lemmas.Result.{IfOk-weaker}
use Rattle.cell_runs.proofs.Taking.{at_run, fine_at}
use Rattle.run_places.specs.Spots.{ahead}
use Rattle.run_places.proofs.Passing.{in_range}
use Rattle.run_places.proofs.Knowing.{whole_yes_at, whole_not}
use Rattle.run_places.proofs.TakingIn.{with_merged, with_same, with_other}
use Rattle.run_places.proofs.taking.with_places.Goals as goal

pub bounds-runs-spot : goal.bounds-runs-spot
bounds-runs-spot g c = let e = c.requires.enough in let s = c.requires.some in in_range c.args.runs.now c.args.spot (omega arith)

pub offset_bounds-runs-spot : goal.offset_bounds-runs-spot
offset_bounds-runs-spot g c = let e = c.requires.enough in let s = c.requires.some in let h = in_range c.args.runs.now c.args.spot (omega arith) in omega arith

pub merge-requires-clause-first : goal.merge-requires-clause-first
merge-requires-clause-first g c =
    let e = c.requires.enough in
    let s = c.requires.some in
    let h = in_range c.args.runs.now c.args.spot (omega arith) in
    let w = whole_yes_at c.args.runs.now c.args.spot c.args.bits c.index-runs-spot.result c.starts.result c.if-starts.true c.starts.ensures (at_run c.args.runs.now c.args.spot.index c.index-runs-spot.result h c.index-runs-spot.is) in
    subst (λ (n : ℕ). g.C.Cells.fine n c.index-runs-spot.result.cell) w.0
    (fine_at g.C.Cells.fine c.args.runs.now c.args.spot.index c.index-runs-spot.result h c.index-runs-spot.is c.requires.runs.some c.requires.runs.fine)

pub returns-then-starts : goal.returns-then-starts
returns-then-starts g c =
    let e = c.requires.enough in
    let s = c.requires.some in
    let h = in_range c.args.runs.now c.args.spot (omega arith) in
    let w = whole_yes_at c.args.runs.now c.args.spot c.args.bits c.index-runs-spot.result c.starts.result c.if-starts.true c.starts.ensures (at_run c.args.runs.now c.args.spot.index c.index-runs-spot.result h c.index-runs-spot.is) in
    with_merged g.C.Cells.ops (g.M.Merge.merged c.args.merge.now) c.args.bits c.args.cell.now c.index-runs-spot.result.cell c.in_ok-merged.merged (take c.args.bits (ahead c.args.runs.now c.args.spot))
    w.1 c.in_ok-merged.ensures

pub returns-then-is_in : goal.returns-then-is_in
returns-then-is_in g c =
    with_same g.C.Cells.ops (g.M.Merge.merged c.args.merge.now) c.args.bits c.args.cell.now c.in_ok-same.same (take c.args.bits (ahead c.args.runs.now c.args.spot))
    (whole_not c.args.runs.now c.args.spot c.args.bits c.starts.result c.if-starts.false c.starts.ensures) (sym c.is_in.ensures ∙ c.if-is_in.true) c.in_ok-same.ensures

pub returns : goal.returns
returns g c =
    IfOk-weaker c.with_others.result _ _
    (λ d e. e ∙ with_other g.C.Cells.ops (g.M.Merge.merged c.args.merge.now) c.args.bits c.args.cell.now (take c.args.bits (ahead c.args.runs.now c.args.spot))
    (whole_not c.args.runs.now c.args.spot c.args.bits c.starts.result c.if-starts.false c.starts.ensures) (sym c.is_in.ensures ∙ c.if-is_in.false)) c.with_others.ensures
