-- The words that C's declarations, statements and units spell.
use Rattle.std.specs.Prelude.{List, map}
use Rattle.c_base.specs.declared.token.Token.{Token}
use Rattle.c_base.specs.declared.token.Word.{Word}
use Rattle.c_tree.specs.Spelling.{pieces, pieces_of_all, pieces_of_attribute, pieces_of_attributes, pieces_of_literals, words_of}
use Rattle.grammar.specs.Forms.{Tree, Trees}
use Rattle.c_grammar.specs.Leaves.{C, Leaf, AnExpr, Specifiers, ADeclarator, Literals, Attributes, AnAttribute}
use Rattle.c_grammar.specs.Table.{table}
use Rattle.c_grammar.specs.Units.{unit}
use Rattle.c_unit_words.specs.Words.{spell, spell_all}

abbrev pub leaf_words : Leaf → List Word
leaf_words (AnExpr t) = words_of (pieces t)
leaf_words (Specifiers all) = words_of (pieces_of_all all)
leaf_words (ADeclarator t) = words_of (pieces t)
leaf_words (Literals all) = words_of (pieces_of_literals all)
leaf_words (Attributes all) = words_of (pieces_of_attributes all)
leaf_words (AnAttribute a) = words_of (pieces_of_attribute a)

-- the words of a node
abbrev pub tree_words : Tree C → List Word
tree_words t = spell C table leaf_words t

-- the words of a unit
abbrev pub unit_words : Trees C → List Word
unit_words kids = spell_all C table leaf_words kids unit

abbrev pub words_in : List Token → List Word
words_in = map (λ (t : Token). t.word)
