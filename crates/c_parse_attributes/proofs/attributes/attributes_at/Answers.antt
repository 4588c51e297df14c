use Rattle.std.proofs.Common.{[]}
use Rattle.c_parse_rules.specs.TypeRules.{attributes, attributes_at}
use Rattle.c_parse_attributes.proofs.code.Lists.{list_begins, list_goes_on, list_ends}
use Rattle.c_parse_attributes.proofs.code.Plainly.{attribute_goes_on, attribute_stops}
use Rattle.c_parse_attributes.proofs.attributes.attributes_at.Goals as goal

pub reading-init : goal.reading-init
reading-init c = rw c.new-found.ensures.items (list_begins attributes [] c.args.tokens.now)

pub reading-preserved : goal.reading-preserved
reading-preserved c =
    list_goes_on attributes _ _ _ _ _ _ _ c.reading.invariant (rw c.in-Some.is at c.in_ok-attribute.ensures.shorter) c.in_ok-push.ensures.items (attribute_goes_on _ c.reading.rest.now _ _ (rw c.in-Some.is at c.in_ok-attribute.ensures.found))

pub returns-clause-found : goal.returns-clause-found
unfolding attributes_at
returns-clause-found c = rw c.from_vec.ensures (list_ends attributes _ _ _ _ c.reading.invariant (attribute_stops _ c.reading.rest.now (rw c.in_default.is at c.in_ok-attribute.ensures.found)))
