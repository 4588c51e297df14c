-- What stands between braces, and the form behind it.
use Rattle.std.proofs.Common.{◌≡◌, ℕ, List, [], Some, refl}
use Rattle.c_base.specs.declared.token.Punctuator.TheVariants as mark
use Rattle.c_base.specs.declared.token.Token.{Token}
use Rattle.c_tree.specs.WellFormed.{Names}
use Rattle.c_parse_rules.specs.Tokens.{behind_mark}
use Rattle.grammar.specs.Forms.{Form, Many, Mark, Trees}
use Rattle.grammar.specs.Reading.{several, with_kid}
use Rattle.c_grammar.specs.Leaves.{C}
use Rattle.c_grammar.specs.Table.{block_item, until_mark}
use Rattle.c_unit_tree.specs.Views.{listing}
use Rattle.c_parse_initialisers.specs.Reads.{at}

pub braced : (d : ℕ) (f : Form C) (names between : Names) (tokens inside behind : List Token) (items : List (Trees C)) → behind_mark mark.OpenBrace tokens ≡ Some inside →
    Some (items, between, behind) ≡ several C (at d block_item) (until_mark mark.CloseBrace) [] names inside →
    with_kid C (listing items) (at d f between behind) ≡ at d (Mark mark.OpenBrace (Many (until_mark mark.CloseBrace) block_item f)) names tokens
braced d f names between tokens inside behind items opened list = rw (opened, ← list) refl
