use Rattle.std.proofs.Common.{◌≡◌, drop}
use Rattle.c_conversions.specs.Kinds as plain
use Rattle.c_conversions.proofs.kinds.first_suiting.Given as goal

abbrev pub invariant-loop-kind : goal.invariant-loop-kind
invariant-loop-kind l = plain.first_suiting l.machine l.c (drop l.kind-index l.kinds) ≡ plain.first_suiting l.machine l.c l.kinds
