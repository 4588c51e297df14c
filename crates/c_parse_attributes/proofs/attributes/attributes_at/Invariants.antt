use Rattle.std.proofs.Common.{[], suc, length}
use Rattle.c_parse_rules.specs.TypeRules.{attributes}
use Rattle.c_parse_attributes.proofs.code.Lists.{MidList}
use Rattle.c_parse_attributes.proofs.attributes.attributes_at.Given as goal

abbrev pub invariant-reading : goal.invariant-reading
invariant-reading l = MidList attributes (attributes (suc (length l.tokens)) [] l.tokens) l.tokens l.found.items l.rest

abbrev pub decreases-reading : goal.decreases-reading
decreases-reading l = length l.rest
