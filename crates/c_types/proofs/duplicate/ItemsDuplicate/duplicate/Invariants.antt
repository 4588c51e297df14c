use Rattle.std.proofs.Common.{◌≡◌, take}
use Rattle.c_types.proofs.duplicate.ItemsDuplicate.duplicate.Given as goal

abbrev pub invariant-loop-each : goal.invariant-loop-each
invariant-loop-each g l = l.copies ≡ take l.each-index l.self
