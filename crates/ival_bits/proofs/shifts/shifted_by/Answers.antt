use Rattle.std.proofs.Common.{pos, subst, sym}
use Rattle.std.specs.Prelude.{◌*ℤ◌}
use Rattle.ival_core.specs.Sets.{Has, IsNumber}
use Rattle.ival_bits.proofs.Shifting.{kept_number}
use Rattle.ival_bits.proofs.shifts.shifted_by.Goals as goal

pub changed-requires-clause-numbers : goal.changed-requires-clause-numbers
changed-requires-clause-numbers c = λ n i.
    let o = c.args.format in
    subst (λ m. IsNumber (n *ℤ pos m)) (sym c.power.ensures.value)
    (kept_number o.signed o.width c.args.count c.args.set.now.shape (record { some = o.some; room = o.room }) c.requires c.args.set.now.valid n (subst (λ s. Has s n) c.kept_left-kept.ensures i))
