use Rattle.std.proofs.Common.{rules, ◌≡◌, ◌^◌, ◌-◌, pos, ◌+ℤ◌, FitsSigned}
use Rattle.ival_core.specs.Sets.{IsNumber}
use Rattle.ival_arith.specs.Pieces.{clipped}
use Rattle.ival_bits.proofs.wraps.negatives.Goals as goal
use Rattle.std.proofs.Common.{FitsSigned, subst, sym, ◌^◌}
use Rattle.std.specs.Int.{w128}
use Rattle.std.proofs.lemmas.Int.{to_z-of_z}
use Rattle.ival_core.specs.Sets.{Has, IsNumber}
use Rattle.ival_bits.proofs.WrapSets.{high_number}

-- src/wraps.rt:65:5
pub changed-requires-clause-numbers : goal.changed-requires-clause-numbers
changed-requires-clause-numbers c = λ n h.
    let e : c.clipped-high.result.shape ≡ clipped (pos (2 ^ (c.args.bits - 1))) (pos (2 ^ c.args.bits - 1)) c.args.patterns.now.shape = search rules in
    let f : FitsSigned w128 c.negative.result = search rules in
    simp to_z-of_z (subst (λ z. IsNumber (n +ℤ z)) (sym c.negative.ensures) (high_number c.args.bits c.args.patterns.now.shape (record { some = c.requires.0; room = c.requires.1 }) c.args.patterns.now.valid n (subst (λ s. Has s n) e h)))
