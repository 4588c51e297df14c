use Rattle.std.proofs.Common.{◌≡◌, take}
use Rattle.c_types.proofs.+copying.Given as goal

abbrev pub invariant-copies::copied_types-loop-each : goal.invariant-copies::copied_types-loop-each
invariant-copies::copied_types-loop-each l = l.copies ≡ take l.each-index l.all
