use Rattle.std.proofs.Common.{sym, arith}
use Rattle.eva_io.proofs.Counting.{count_of-found, count_of-replaced, count_of-others, count_of-grows}
use Rattle.eva_io.proofs.counts.Counts.raise.Goals as goal

pub returns-in-Some-clause-raised : goal.returns-in-Some-clause-raised
returns-in-Some-clause-raised c =
    let counts = c.args.self.now.entries.items in
    let here = sym c.in-Some.ensures in
    let read = c.index_mut-entry.ensures.value in
    rw (
      count_of-replaced counts c.args.name.now _ c.saturating_add-entry.result _ here read,
      count_of-found counts c.args.name.now _ _ here read,
    )
    c.saturating_add-entry.ensures

pub returns-in-Some-clause-others : goal.returns-in-Some-clause-others
returns-in-Some-clause-others c = λ other apart.
    count_of-others c.args.self.now.entries.items c.args.name.now other _ _ _
    (sym c.in-Some.ensures) c.index_mut-entry.ensures.value apart

pub returns-in-Some-clause-grows : goal.returns-in-Some-clause-grows
returns-in-Some-clause-grows c = λ other.
    count_of-grows c.args.self.now.entries.items c.args.name.now _ _ _
    (sym c.in-Some.ensures) c.index_mut-entry.ensures.value (omega arith) other
