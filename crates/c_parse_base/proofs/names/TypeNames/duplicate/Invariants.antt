use Rattle.std.proofs.Common.{◌≡◌, take}
use Rattle.std.specs.Prelude.{reverse}
use Rattle.c_parse_base.specs.Newest.{known_of}
use Rattle.c_parse_base.proofs.names.TypeNames.duplicate.Given as goal

abbrev pub invariant-loop-known : goal.invariant-loop-known
invariant-loop-known l = l.copy.names ≡ known_of (reverse (take l.known-index l.self-inside.uses.items))
