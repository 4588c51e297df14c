use Rattle.std.proofs.Common.{◌≡◌, drop}
use Rattle.std.specs.List.{list_all}
use Rattle.aops_relations.specs.Comparisons.{is_good}
use Rattle.aops_relations.proofs.places.are_good.Given as goal

abbrev pub invariant-loop-address : goal.invariant-loop-address
invariant-loop-address g l = list_all (is_good (g.S.Sizes.size_of l.sizes)) (drop l.address-index l.addresses) ≡ list_all (is_good (g.S.Sizes.size_of l.sizes)) l.addresses
