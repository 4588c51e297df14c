-- The words that the trees of a grammar spell, given those of the parts that have no rule.
use Rattle.std.specs.Prelude.{true, false, List, [], ◌∷◌, ◌++◌}
use Rattle.c_base.specs.declared.token.Word.{Word}
use Rattle.c_base.specs.declared.token.Word.TheVariants as word
use Rattle.grammar.specs.Forms.{Language, Tree, Place, Name, Value, Node, Group, Trees, Nil, Next, Form, Done, Here, Key, Mark, AName, Given, Sub, Part, Scoped, Either, Many, Listed, Declare, Unless, Grammar}

module _ (L : Language) (G : Grammar L) (leaf_words : L.Leaf → List Word) where
  abbrev mutual
    pub spell : Tree L → List Word
    spell (Node r kids) = spell_all kids (G.form r)
    spell _ = []

    -- what stands side by side in a node, by its form
    pub spell_all : Trees L → Form L → List Word
    spell_all kids (Key k f) = word.Keyword k ∷ spell_all kids f
    spell_all kids (Mark p f) = word.Punctuator p ∷ spell_all kids f
    spell_all kids (Declare names f) = spell_all kids f
    spell_all kids (Unless test f) = spell_all kids f
    spell_all (Next (Place span) kids) (Here f) = spell_all kids f
    spell_all (Next (Name n) kids) (AName f) = word.Identifier n ∷ spell_all kids f
    spell_all (Next (Value leaf) kids) (Given g f) = leaf_words leaf ++ spell_all kids (f leaf)
    spell_all (Next t kids) (Sub s f) = spell t ++ spell_all kids f
    spell_all (Next (Group true inner) kids) (Part a f) = spell_all inner a ++ spell_all kids f
    spell_all (Next (Group true inner) kids) (Scoped a f) = spell_all inner a ++ spell_all kids f
    spell_all (Next (Group true inner) kids) (Either test a b f) = spell_all inner a ++ spell_all kids f
    spell_all (Next (Group false inner) kids) (Either test a b f) = spell_all inner b ++ spell_all kids f
    spell_all (Next (Group true each) kids) (Many test a f) = spell_each each a ++ spell_all kids f
    spell_all (Next (Group true (Next (Group true first) more)) kids) (Listed test a b f) = spell_all first a ++ (spell_each more b ++ spell_all kids f)
    spell_all _ _ = []

    -- one after the other
    pub spell_each : Trees L → Form L → List Word
    spell_each (Next (Group true kids) more) a = spell_all kids a ++ spell_each more a
    spell_each _ a = []
