use Rattle.std.proofs.Common.{length, reverse}
use Rattle.c_parse_attributes.proofs.code.Plainly.{MidWords}
use Rattle.c_parse_attributes.proofs.attributes.balanced.Given as goal

abbrev pub invariant-reading : goal.invariant-reading
invariant-reading l = MidWords l.tokens l.words.items (reverse l.unclosed.items) l.rest

abbrev pub decreases-reading : goal.decreases-reading
decreases-reading l = length l.rest
