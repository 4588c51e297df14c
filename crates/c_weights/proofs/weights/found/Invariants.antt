use Rattle.std.proofs.Common.{◌≡◌, drop}
use Rattle.c_program.specs.Weights.{found_in}
use Rattle.c_weights.proofs.weights.found.Given as goal

abbrev pub invariant-loop-each : goal.invariant-loop-each
invariant-loop-each l = found_in (drop l.each-index l.all) l.base.0 ≡ found_in l.all l.base.0
