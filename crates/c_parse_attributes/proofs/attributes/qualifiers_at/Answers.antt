use Rattle.std.proofs.Common.{[]}
use Rattle.c_parse_rules.specs.TypeRules.{qualifiers}
use Rattle.c_parse_attributes.proofs.code.Lists.{list_begins, list_goes_on, list_ends}
use Rattle.c_parse_attributes.proofs.code.Plainly.{qualifier_goes_on, qualifier_stops}
use Rattle.c_parse_attributes.proofs.attributes.qualifiers_at.Goals as goal

pub reading-init : goal.reading-init
reading-init c = rw c.new-found.ensures.items (list_begins qualifiers [] c.args.tokens.now)

pub reading-preserved : goal.reading-preserved
reading-preserved c =
    list_goes_on qualifiers _ _ _ _ _ _ _ c.reading.invariant (rw c.in-Some.is at c.in_ok-qualifier.ensures.shorter) c.in_ok-push.ensures.items (qualifier_goes_on _ _ _ _ (rw c.in-Some.is at c.in_ok-qualifier.ensures.found))

pub returns-clause-found : goal.returns-clause-found
returns-clause-found c = rw c.from_vec.ensures (list_ends qualifiers _ _ _ _ c.reading.invariant (qualifier_stops _ _ (rw c.in_default.is at c.in_ok-qualifier.ensures.found)))
