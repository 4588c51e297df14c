use Rattle.std.proofs.Common.{[]}
use Rattle.c_parse_rules.specs.TypeRules.{array_words}
use Rattle.c_parse_attributes.proofs.code.Lists.{list_begins, list_goes_on, list_ends}
use Rattle.c_parse_attributes.proofs.code.Plainly.{word_goes_on, word_stops}
use Rattle.c_parse_attributes.proofs.attributes.array_words_at.Goals as goal

pub reading-init : goal.reading-init
reading-init c = rw c.new-found.ensures.items (list_begins array_words [] c.args.tokens.now)

pub reading-preserved : goal.reading-preserved
reading-preserved c =
    list_goes_on array_words _ _ _ _ _ _ _ c.reading.invariant c.in-Some.ensures.shorter c.in_ok-push.ensures.items (word_goes_on _ _ _ _ c.in-Some.ensures.found)

pub returns-clause-found : goal.returns-clause-found
returns-clause-found c = rw c.from_vec.ensures (list_ends array_words _ _ _ _ c.reading.invariant (word_stops _ _ c.in_default.ensures.found))
