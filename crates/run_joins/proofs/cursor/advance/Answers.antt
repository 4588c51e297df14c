use Rattle.std.proofs.Common.{◌+◌, arith}
use Rattle.run_joins.proofs.Running.{rest_next, rest_on, has_left, cursor_next, cursor_from}
use Rattle.run_joins.proofs.cursor.advance.Goals as goal

pub returns-then-n-run-clause-rest : goal.returns-then-n-run-clause-rest
returns-then-n-run-clause-rest g c =
    let r = c.index-runs-at.result in
    let l = has_left c.args.runs.now c.args.at.now.index (c.args.at.now.used + c.args.n) r c.requires.inside c.index-runs-at.is c.requires.fits in
    rest_next c.args.runs.now c.args.at.now c.args.n r c.requires.inside c.index-runs-at.is (omega arith)

pub returns-then-n-run-clause-cursor : goal.returns-then-n-run-clause-cursor
returns-then-n-run-clause-cursor g c = cursor_next c.args.runs.now (c.args.at.now.index + 1) c.requires.some

pub returns-else-n-run-clause-rest : goal.returns-else-n-run-clause-rest
returns-else-n-run-clause-rest g c = rest_on c.args.runs.now c.args.at.now c.args.n

pub returns-else-n-run-clause-cursor : goal.returns-else-n-run-clause-cursor
returns-else-n-run-clause-cursor g c =
    let r = c.index-runs-at.result in
    let l = has_left c.args.runs.now c.args.at.now.index (c.args.at.now.used + c.args.n) r c.requires.inside c.index-runs-at.is c.requires.fits in
    cursor_from c.args.runs.now c.args.at.now.index (c.args.at.now.used + c.args.n) r c.requires.inside c.index-runs-at.is (omega arith)
