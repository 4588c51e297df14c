use Rattle.std.proofs.Common.{◌-◌, arith, refl, length, ◌∙◌}
use Rattle.cell_runs.proofs.Taking.{some_at}
use Rattle.offmap.proofs.Gluing.{none_glued, last_whole, last_fits, more_whole, more_fits}
use Rattle.std.proofs.lemmas.Result.{IfOk-weaker}
use Rattle.offmap.proofs.access.glue_runs.Goals as goal

pub returns-then-i-eq0 : goal.returns-then-i-eq0
returns-then-i-eq0 g c = IfOk-weaker c.void.result _ _ (λ d e. e ∙ none_glued g.C.Cells.ops c.args.runs.now c.if-i-eq0.true) c.void.ensures

pub overflow_sub-last : goal.overflow_sub-last
overflow_sub-last g c = (some_at c.args.runs.now (length c.args.runs.now - 1) c.index-runs-i.result (omega arith) c.index-runs-i.is c.requires.some).1

pub glue_run-requires : goal.glue_run-requires
glue_run-requires g c = record {
  small = last_fits g.C.Cells.ops c.args.runs.now (length c.args.runs.now - 1) c.index-runs-i.result c.index-runs-i.result.bits (omega arith) c.index-runs-i.is c.requires.some c.requires.small refl;
}

pub loop-i-init : goal.loop-i-init
loop-i-init g c = record {
  whole = last_whole g.C.Cells.ops c.args.runs.now (length c.args.runs.now - 1) c.index-runs-i.result (record { bits = c.index-runs-i.result.bits; cell = c.in_ok-cell.cell }) c.in_ok-piece.piece
      (omega arith) c.index-runs-i.is c.requires.some refl c.in_ok-cell.ensures c.in_ok-piece.ensures;
  inside = omega arith;
}

pub glue_run-requires-in-loop-i : goal.glue_run-requires-in-loop-i
glue_run-requires-in-loop-i g c =
    let i = c.loop-i.invariant.inside in
    record { small = more_fits g.C.Cells.ops c.args.runs.now (c.loop-i.i - 1) c.loop-i.i c.index-runs-i-in-loop-i.result c.loop-i.piece (omega arith) (omega arith) c.index-runs-i-in-loop-i.is c.requires.small c.loop-i.invariant.whole }

pub loop-i-preserved : goal.loop-i-preserved
loop-i-preserved g c =
    let i = c.loop-i.invariant.inside in
    record {
      whole = more_whole g.C.Cells.ops c.args.runs.now (c.loop-i.i - 1) c.loop-i.i c.index-runs-i-in-loop-i.result c.loop-i.piece c.in_ok-piece-2.piece (omega arith) (omega arith) c.index-runs-i-in-loop-i.is c.requires.some
          c.loop-i.invariant.whole c.in_ok-piece-2.ensures;
      inside = omega arith;
    }
