use Rattle.std.proofs.Common.{◌≡◌, drop}
use Rattle.std.specs.List.{list_all}
use Rattle.aops_pointers.specs.Moves.{stays_near}
use Rattle.aops_pointers.proofs.moves.stay_near.Given as goal

abbrev pub invariant-loop-address : goal.invariant-loop-address
invariant-loop-address l = list_all (stays_near l.back l.steps) (drop l.address-index l.addresses) ≡ list_all (stays_near l.back l.steps) l.addresses
