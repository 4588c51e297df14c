-- What is left behind a tree is no longer than what it stood in.
use Rattle.std.proofs.Common.{◌≤◌, true, false, List, length, arith}
use Rattle.c_base.specs.declared.token.Token.{Token}
use Rattle.grammar.specs.Forms.{Language, Tree, Place, Name, Value, Node, Group, Trees, Nil, Next, Form, Done, Here, Key, Mark, AName, Given, Sub, Part, Scoped, Either, Many, Listed, Declare, Unless, Grammar}
use Rattle.grammar.specs.Spelling.{Spells, SpellsAll, SpellsEach}
use Rattle.grammar.proofs.Heads.{key_front, mark_front, name_front}

module _ (L : Language) where
  abbrev pub NoLonger : Type 0
  NoLonger = (g : L.Reader) (leaf : L.Leaf) (scope : L.Scope) (tokens : List Token) (new : L.Scope) (rest : List Token) →
      L.IsFront g leaf scope tokens new rest → length rest ≤ length tokens

  module _ (G : Grammar L) (given : NoLonger) where
    mutual
      pub tree_left : (t : Tree L) (s : L.Sort) (scope : L.Scope) (tokens : List Token) (new : L.Scope) (rest : List Token) → Spells L G t s scope tokens new rest → length rest ≤ length tokens
      tree_left (Node r kids) s scope tokens new rest sp = kids_left kids (G.form r) scope tokens new rest sp.1
      tree_left _ s scope tokens new rest sp = absurd sp

      pub kids_left : (kids : Trees L) (f : Form L) (scope : L.Scope) (tokens : List Token) (new : L.Scope) (rest : List Token) → SpellsAll L G kids f scope tokens new rest → length rest ≤ length tokens
      kids_left kids (Key k f) scope tokens new rest sp = let m = key_front k tokens sp.0 sp.1 in let l = m.less in let i = kids_left kids f scope sp.0 new rest sp.2 in omega arith
      kids_left kids (Mark k f) scope tokens new rest sp = let m = mark_front k tokens sp.0 sp.1 in let l = m.less in let i = kids_left kids f scope sp.0 new rest sp.2 in omega arith
      kids_left kids (Declare names f) scope tokens new rest sp = kids_left kids f (names scope) tokens new rest sp
      kids_left kids (Unless test f) scope tokens new rest sp = kids_left kids f scope tokens new rest sp.1
      kids_left Nil Done scope tokens new rest sp = rw sp.1 (omega arith)
      kids_left (Next (Place span) kids) (Here f) scope tokens new rest sp = kids_left kids f scope tokens new rest sp.1
      kids_left (Next (Name n) kids) (AName f) scope tokens new rest sp = let m = name_front n tokens sp.0 sp.1 in let l = m.less in let i = kids_left kids f scope sp.0 new rest sp.2 in omega arith
      kids_left (Next (Value leaf) kids) (Given g f) scope tokens new rest sp =
          let l = given g leaf scope tokens sp.0 sp.1 sp.2 in let i = kids_left kids (f leaf) sp.0 sp.1 new rest sp.3 in omega arith
      kids_left (Next t kids) (Sub s f) scope tokens new rest sp = let l = tree_left t s scope tokens sp.0 sp.1 sp.2 in let i = kids_left kids f sp.0 sp.1 new rest sp.3 in omega arith
      kids_left (Next (Group true inner) kids) (Part a f) scope tokens new rest sp = let l = kids_left inner a scope tokens sp.0 sp.1 sp.2 in let i = kids_left kids f sp.0 sp.1 new rest sp.3 in omega arith
      kids_left (Next (Group true inner) kids) (Scoped a f) scope tokens new rest sp = let l = kids_left inner a scope tokens sp.0 sp.1 sp.2 in let i = kids_left kids f scope sp.1 new rest sp.3 in omega arith
      kids_left (Next (Group true inner) kids) (Either test a b f) scope tokens new rest sp = let l = kids_left inner a scope tokens sp.0 sp.1 sp.2 in let i = kids_left kids f sp.0 sp.1 new rest sp.3 in omega arith
      kids_left (Next (Group false inner) kids) (Either test a b f) scope tokens new rest sp = let l = kids_left inner b scope tokens sp.0 sp.1 sp.2 in let i = kids_left kids f sp.0 sp.1 new rest sp.3 in omega arith
      kids_left (Next (Group true each) kids) (Many test a f) scope tokens new rest sp = let l = each_left each a scope tokens sp.0 sp.1 sp.2 in let i = kids_left kids f sp.0 sp.1 new rest sp.3 in omega arith
      kids_left (Next (Group true (Next (Group true first) more)) kids) (Listed test a b f) scope tokens new rest sp =
          let l = kids_left first a scope tokens sp.0 sp.1 sp.4 in let m = each_left more b sp.0 sp.1 sp.2 sp.3 sp.5 in let i = kids_left kids f sp.2 sp.3 new rest sp.6 in omega arith
      kids_left _ _ scope tokens new rest sp = absurd sp

      pub each_left : (each : Trees L) (a : Form L) (scope : L.Scope) (tokens : List Token) (new : L.Scope) (rest : List Token) → SpellsEach L G each a scope tokens new rest → length rest ≤ length tokens
      each_left Nil a scope tokens new rest sp = rw sp.1 (omega arith)
      each_left (Next (Group true kids) more) a scope tokens new rest sp = let l = kids_left kids a scope tokens sp.0 sp.1 sp.2 in let i = each_left more a sp.0 sp.1 new rest sp.3 in omega arith
      each_left _ a scope tokens new rest sp = absurd sp
