use Rattle.std.proofs.Common.{length, ◌-◌, ◌<◌, pos, rules, slice_index_or}
use Rattle.std.specs.Int.{w128}
use Rattle.std.specs.Prelude.{FitsSigned}
use Rattle.std.proofs.lemmas.Int.{to_z-of_z}
use Rattle.ival_core.proofs.Ends.{AreEnds-at}
use Rattle.ival_core.proofs.value.ends.Goals as goal

pub returns-else-is_empty-clause-some : goal.returns-else-is_empty-clause-some
returns-else-is_empty-clause-some c =
    let h : 0 < length c.args.numbers.now = search rules in
    let f : FitsSigned w128 (slice_index_or c.args.numbers.now 0 (pos 0)) = search rules in
    let g : FitsSigned w128 (slice_index_or c.args.numbers.now (length c.args.numbers.now - 1) (pos 0)) = search rules in
    simp to_z-of_z (AreEnds-at c.args.numbers.now (pos 0) c.requires h)
