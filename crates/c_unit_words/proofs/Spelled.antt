-- Tokens from which a tree is read begin with its words.
use Rattle.std.proofs.Common.{◌≡◌, true, false, List, [], ◌∷◌, ◌++◌, map, refl, sym, ◌∙◌, ap, append_assoc}
use Rattle.c_base.specs.declared.token.Keyword.{Keyword}
use Rattle.c_base.specs.declared.token.Punctuator.{Punctuator}
use Rattle.c_base.specs.declared.token.Token.{Token}
use Rattle.c_base.specs.declared.token.Word.{Word}
use Rattle.c_base.specs.declared.token.Word.TheVariants as word
use Rattle.c_tree.specs.Spelling.{Piece, pieces, pieces_of_all, pieces_of_attribute, pieces_of_attributes, pieces_of_literals, words_of}
use Rattle.c_tree.specs.WellFormed.{Names}
use Rattle.c_parse_rules.specs.Found.{Fronts}
use Rattle.grammar.specs.Forms.{Language, Tree, Place, Name, Value, Node, Group, Trees, Nil, Next, Form, Done, Here, Key, Mark, AName, Given, Sub, Part, Scoped, Either, Many, Listed, Declare, Unless, Grammar}
use Rattle.grammar.specs.Spelling.{Spells, SpellsAll, SpellsEach}
use Rattle.grammar.proofs.Heads.{Front, key_front, mark_front, name_front}
use Rattle.c_grammar.specs.Leaves.{C, Expression, Assignment, Constant, SpecifierList, NamedDeclarator, StringLiterals, AttributeList, OneAttribute, AnExpr, Specifiers, ADeclarator, Literals, Attributes, AnAttribute}
use Rattle.c_grammar.specs.Table.{table}
use Rattle.c_grammar.specs.Units.{IsUnit, unit}
use Rattle.c_unit_words.specs.Units.{leaf_words, tree_words, unit_words, words_in}
use Rattle.c_unit_words.specs.Words.{spell, spell_all, spell_each}

-- the tokens have these words, and then those of the rest
pub record Has (words : List Word) (tokens rest : List Token) : Type 0 where
  pub same : words_in tokens ≡ words ++ words_in rest

one_word : (w : Word) (more : List Word) (tokens mid rest : List Token) → Front w tokens mid → Has more mid rest → Has (w ∷ more) tokens rest
one_word w more tokens mid rest f h = record {
  same = ap words_in f.same ∙ ap (λ (x : Word). x ∷ words_in mid) f.word ∙ ap (λ (x : List Word). w ∷ x) h.same;
}

then_more : (some more : List Word) (tokens mid rest : List Token) → Has some tokens mid → Has more mid rest → Has (some ++ more) tokens rest
then_more some more tokens mid rest a b = record {
  same = a.same ∙ ap (λ (x : List Word). some ++ x) b.same ∙ sym (append_assoc some more (words_in rest));
}

nothing : (tokens rest : List Token) → tokens ≡ rest → Has [] tokens rest
nothing tokens rest e = record { same = ap words_in e }

fronts_words : (all : List Piece) (tokens rest : List Token) → Fronts all tokens rest → Has (words_of all) tokens rest
fronts_words [] tokens rest f = nothing tokens rest f
fronts_words (p ∷ more) [] rest f = absurd f
fronts_words (p ∷ more) (t ∷ tokens) rest f =
    let piece = f.0 in let h = fronts_words more tokens rest f.1 in record {
      same = ap (λ (x : Word). x ∷ words_in tokens) piece.word ∙ ap (λ (x : List Word). p.word ∷ x) h.same;
    }

module _ (L : Language) (words : L.Leaf → List Word) where
  abbrev pub LeavesSpelled : Type 0
  LeavesSpelled = (g : L.Reader) (leaf : L.Leaf) (scope : L.Scope) (tokens : List Token) (new : L.Scope) (rest : List Token) →
      L.IsFront g leaf scope tokens new rest → Has (words leaf) tokens rest

  module _ (G : Grammar L) (given : LeavesSpelled) where
    mutual
      pub tree_spelled : (t : Tree L) (s : L.Sort) (scope : L.Scope) (tokens : List Token) (new : L.Scope) (rest : List Token) → Spells L G t s scope tokens new rest → Has (spell L G words t) tokens rest
      tree_spelled (Node r kids) s scope tokens new rest sp = kids_spelled kids (G.form r) scope tokens new rest sp.1
      tree_spelled _ s scope tokens new rest sp = absurd sp

      pub kids_spelled : (kids : Trees L) (f : Form L) (scope : L.Scope) (tokens : List Token) (new : L.Scope) (rest : List Token) → SpellsAll L G kids f scope tokens new rest →
          Has (spell_all L G words kids f) tokens rest
      kids_spelled kids (Key k f) scope tokens new rest sp =
          one_word (word.Keyword k) (spell_all L G words kids f) tokens sp.0 rest (key_front k tokens sp.0 sp.1) (kids_spelled kids f scope sp.0 new rest sp.2)
      kids_spelled kids (Mark p f) scope tokens new rest sp =
          one_word (word.Punctuator p) (spell_all L G words kids f) tokens sp.0 rest (mark_front p tokens sp.0 sp.1) (kids_spelled kids f scope sp.0 new rest sp.2)
      kids_spelled kids (Declare names f) scope tokens new rest sp = kids_spelled kids f (names scope) tokens new rest sp
      kids_spelled kids (Unless test f) scope tokens new rest sp = kids_spelled kids f scope tokens new rest sp.1
      kids_spelled Nil Done scope tokens new rest sp = nothing tokens rest sp.1
      kids_spelled (Next (Place span) kids) (Here f) scope tokens new rest sp = kids_spelled kids f scope tokens new rest sp.1
      kids_spelled (Next (Name n) kids) (AName f) scope tokens new rest sp =
          one_word (word.Identifier n) (spell_all L G words kids f) tokens sp.0 rest (name_front n tokens sp.0 sp.1) (kids_spelled kids f scope sp.0 new rest sp.2)
      kids_spelled (Next (Value leaf) kids) (Given g f) scope tokens new rest sp =
          then_more (words leaf) (spell_all L G words kids (f leaf)) tokens sp.1 rest (given g leaf scope tokens sp.0 sp.1 sp.2) (kids_spelled kids (f leaf) sp.0 sp.1 new rest sp.3)
      kids_spelled (Next t kids) (Sub s f) scope tokens new rest sp =
          then_more (spell L G words t) (spell_all L G words kids f) tokens sp.1 rest (tree_spelled t s scope tokens sp.0 sp.1 sp.2) (kids_spelled kids f sp.0 sp.1 new rest sp.3)
      kids_spelled (Next (Group true inner) kids) (Part a f) scope tokens new rest sp =
          then_more (spell_all L G words inner a) (spell_all L G words kids f) tokens sp.1 rest (kids_spelled inner a scope tokens sp.0 sp.1 sp.2) (kids_spelled kids f sp.0 sp.1 new rest sp.3)
      kids_spelled (Next (Group true inner) kids) (Scoped a f) scope tokens new rest sp =
          then_more (spell_all L G words inner a) (spell_all L G words kids f) tokens sp.1 rest (kids_spelled inner a scope tokens sp.0 sp.1 sp.2) (kids_spelled kids f scope sp.1 new rest sp.3)
      kids_spelled (Next (Group true inner) kids) (Either test a b f) scope tokens new rest sp =
          then_more (spell_all L G words inner a) (spell_all L G words kids f) tokens sp.1 rest (kids_spelled inner a scope tokens sp.0 sp.1 sp.2) (kids_spelled kids f sp.0 sp.1 new rest sp.3)
      kids_spelled (Next (Group false inner) kids) (Either test a b f) scope tokens new rest sp =
          then_more (spell_all L G words inner b) (spell_all L G words kids f) tokens sp.1 rest (kids_spelled inner b scope tokens sp.0 sp.1 sp.2) (kids_spelled kids f sp.0 sp.1 new rest sp.3)
      kids_spelled (Next (Group true each) kids) (Many test a f) scope tokens new rest sp =
          then_more (spell_each L G words each a) (spell_all L G words kids f) tokens sp.1 rest (each_spelled each a scope tokens sp.0 sp.1 sp.2) (kids_spelled kids f sp.0 sp.1 new rest sp.3)
      kids_spelled (Next (Group true (Next (Group true first) more)) kids) (Listed test a b f) scope tokens new rest sp =
          then_more (spell_all L G words first a) (spell_each L G words more b ++ spell_all L G words kids f) tokens sp.1 rest (kids_spelled first a scope tokens sp.0 sp.1 sp.4)
          (then_more (spell_each L G words more b) (spell_all L G words kids f) sp.1 sp.3 rest (each_spelled more b sp.0 sp.1 sp.2 sp.3 sp.5) (kids_spelled kids f sp.2 sp.3 new rest sp.6))
      kids_spelled _ _ scope tokens new rest sp = absurd sp

      pub each_spelled : (each : Trees L) (a : Form L) (scope : L.Scope) (tokens : List Token) (new : L.Scope) (rest : List Token) → SpellsEach L G each a scope tokens new rest →
          Has (spell_each L G words each a) tokens rest
      each_spelled Nil a scope tokens new rest sp = nothing tokens rest sp.1
      each_spelled (Next (Group true kids) more) a scope tokens new rest sp =
          then_more (spell_all L G words kids a) (spell_each L G words more a) tokens sp.1 rest (kids_spelled kids a scope tokens sp.0 sp.1 sp.2) (each_spelled more a sp.0 sp.1 new rest sp.3)
      each_spelled _ a scope tokens new rest sp = absurd sp

leaves_spelled : LeavesSpelled C leaf_words
leaves_spelled Expression (AnExpr t) names tokens new rest h = fronts_words (pieces t) tokens rest h.0.words
leaves_spelled Assignment (AnExpr t) names tokens new rest h = fronts_words (pieces t) tokens rest h.0.words
leaves_spelled Constant (AnExpr t) names tokens new rest h = fronts_words (pieces t) tokens rest h.0.words
leaves_spelled SpecifierList (Specifiers all) names tokens new rest h = fronts_words (pieces_of_all all) tokens rest h.0.words
leaves_spelled (NamedDeclarator before) (ADeclarator t) names tokens new rest h = fronts_words (pieces t) tokens rest h.0.words
leaves_spelled StringLiterals (Literals all) names tokens new rest h = fronts_words (pieces_of_literals all) tokens rest h.0.words
leaves_spelled AttributeList (Attributes all) names tokens new rest h = fronts_words (pieces_of_attributes all) tokens rest h.0.words
leaves_spelled OneAttribute (AnAttribute a) names tokens new rest h = fronts_words (pieces_of_attribute a) tokens rest h.0.words
leaves_spelled _ _ names tokens new rest h = absurd h

ended : (words : List Word) → words ++ [] ≡ words
ended [] = refl
ended (w ∷ words) = ap (λ (more : List Word). w ∷ more) (ended words)

-- the tokens of a unit have its words and no others
pub unit_spelled : (kids : Trees C) (tokens : List Token) (names : Names) → IsUnit kids tokens names → words_in tokens ≡ unit_words kids
unit_spelled kids tokens names is = let h = kids_spelled C leaf_words table leaves_spelled kids unit [] tokens names [] is in h.same ∙ ended (unit_words kids)
