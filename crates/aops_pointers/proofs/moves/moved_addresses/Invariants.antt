use Rattle.std.proofs.Common.{◌≡◌, ◌++◌, map, drop}
use Rattle.aops_pointers.specs.Moves.{moved_address}
use Rattle.aops_pointers.proofs.moves.moved_addresses.Given as goal

abbrev pub invariant-loop-address : goal.invariant-loop-address
invariant-loop-address l = l.list.items ++ map (moved_address l.back l.steps) (drop l.address-index l.addresses) ≡ map (moved_address l.back l.steps) l.addresses
