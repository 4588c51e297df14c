use Rattle.eva_io.proofs.Counting.{count_of-admitted, place_of-admitted}
use Rattle.eva_io.proofs.counts.Counts.admit.Goals as goal

pub returns-in_ok-push-clause-admitted : goal.returns-in_ok-push-clause-admitted
returns-in_ok-push-clause-admitted c =
    rw (c.in_ok-push.ensures.items, c.in_ok-duplicate.ensures)
    (place_of-admitted c.args.self.now.entries.items c.args.name.now)

pub returns-in_ok-push-clause-kept : goal.returns-in_ok-push-clause-kept
returns-in_ok-push-clause-kept c = λ other.
    rw c.in_ok-push.ensures.items (count_of-admitted c.args.self.now.entries.items c.in_ok-duplicate.field-0 other)
