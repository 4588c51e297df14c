use Rattle.cell_runs.proofs.Taking.{bits_at}
use Rattle.run_joins.proofs.Walking.{moves}
use Rattle.run_joins.proofs.step.take.Goals as goal

pub returns : goal.returns
returns g c =
    moves c.args.runs.now c.args.at.now c.advance.new.at c.index-runs-at.result c.in_ok-cell.cell c.args.into.now.items c.push.new.out.items
    c.requires.inside c.index-runs-at.is c.requires.cursor c.requires.some c.in_ok-cell.ensures c.in_ok-push.ensures c.advance.ensures.rest c.advance.ensures.cursor

pub push-requires-clause-bits : goal.push-requires-clause-bits
push-requires-clause-bits g c = bits_at c.args.runs.now c.args.at.now.index c.index-runs-at.result c.requires.inside c.index-runs-at.is c.requires.some
