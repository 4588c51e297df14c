use Rattle.std.proofs.Common.{sym}
use Rattle.eva_io.proofs.Counting.{count_of-found, count_of-nowhere}
use Rattle.eva_io.proofs.counts.Counts.count.Goals as goal

pub returns-in-Some : goal.returns-in-Some
returns-in-Some c =
    sym (count_of-found c.args.self.now.entries.items c.args.name.now _ _ (sym c.in-Some.ensures) c.index.ensures)

pub returns-in-None : goal.returns-in-None
returns-in-None c = sym (count_of-nowhere c.args.self.now.entries.items c.args.name.now (sym c.in-None.ensures))
