use Rattle.std.proofs.Common.{arith, length-drop}
use Rattle.std.proofs.lemmas.Result.{err_from_is_err_and}
use Rattle.eva_io.proofs.Writing.{appended_more, refused_in_part, rest_from, kept_longer}
use Rattle.eva_io.proofs.sink.write_whole.Goals as goal

pub returns-in_err-done-clause-part : goal.returns-in_err-done-clause-part
returns-in_err-done-clause-part g c =
    let p = err_from_is_err_and c.from_residual.result c.from_residual.ensures.1 in
    rw p.1 (refused_in_part _ _ _ _ _ c.loop-done-test.true c.loop-done.invariant.1 c.in_err-done.ensures.refused)

pub loop-done-preserved : goal.loop-done-preserved
loop-done-preserved g c =
    let within = rw (rest_from c.args.bytes.now c.loop-done.done, length-drop) at c.in_ok-done.ensures.within in (
      omega arith,
      appended_more _ _ _ _ _ _ c.loop-done.invariant.1 c.in_ok-done.ensures.taken,
      kept_longer _ _ _ c.loop-done.invariant.2 c.in_ok-done.ensures.counted,
    )
