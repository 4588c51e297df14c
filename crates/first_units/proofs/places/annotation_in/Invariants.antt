use Rattle.std.proofs.Common.{◌≡◌, drop}
use Rattle.first_units.specs.Language.{has_annotation}
use Rattle.first_units.proofs.places.annotation_in.Given as goal

abbrev pub invariant-loop-token : goal.invariant-loop-token
invariant-loop-token l = has_annotation (drop l.token-index l.tokens) ≡ has_annotation l.tokens
