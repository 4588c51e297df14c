-- The words of an attribute, read one by one.
use Rattle.std.specs.Prelude.{Bool, true, false, List, ◌++◌, Option, None, Some, reverse}
use Rattle.c_base.specs.declared.token.Punctuator.{Punctuator}
use Rattle.c_base.specs.declared.token.Token.{Token}
use Rattle.c_base.specs.declared.token.Word.{Word}
use Rattle.c_tree.specs.WellFormed.{Open}

-- what is open behind a word that stands there, where these marks close it, the innermost last
abbrev pub open_where : Bool → List Punctuator → Option Open
open_where true marks = Some (reverse marks)
open_where false marks = None

-- words before others
abbrev pub with_words : List Word → Option (List Word × List Token) → Option (List Word × List Token)
with_words words None = None
with_words words (Some more) = Some (words ++ more.0, more.1)
