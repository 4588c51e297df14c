-- What is left behind a tree is an end of the tokens.
use Rattle.std.proofs.Common.{◌≡◌, ℕ, suc, ◌+◌, ◌-◌, ◌≤◌, true, false, List, [], ◌∷◌, ◌++◌, length, drop, refl, ap, sym, ◌∙◌, append_assoc, arith}
use Rattle.std.proofs.lemmas.List.{drop-drop, length-append, length-drop}
use Rattle.std.proofs.Math.Seq.{drop-append_seam}
use Rattle.c_base.specs.declared.token.Token.{Token}
use Rattle.c_tree.specs.Spelling.{Piece, pieces, pieces_of_all, pieces_of_attribute, pieces_of_attributes, pieces_of_literals}
use Rattle.c_parse_rules.specs.Found.{Fronts}
use Rattle.grammar.specs.Forms.{Language, Tree, Place, Name, Value, Node, Group, Trees, Nil, Next, Form, Done, Here, Key, Mark, AName, Given, Sub, Part, Scoped, Either, Many, Listed, Declare, Unless, Grammar}
use Rattle.grammar.specs.Spelling.{Spells, SpellsAll, SpellsEach}
use Rattle.grammar.proofs.Heads.{Front, key_front, mark_front, name_front}
use Rattle.c_grammar.specs.Leaves.{C, Expression, Assignment, Constant, SpecifierList, NamedDeclarator, StringLiterals, AttributeList, OneAttribute, AnExpr, Specifiers, ADeclarator, Literals, Attributes, AnAttribute}

-- the tokens are some before the rest
pub record IsEnd (tokens rest : List Token) : Type 0 where
  pub front : List Token
  pub same : tokens ≡ front ++ rest

all_of : (tokens rest : List Token) → tokens ≡ rest → IsEnd tokens rest
all_of tokens rest e = record { front = []; same = e }

further : (tokens mid rest : List Token) → IsEnd tokens mid → IsEnd mid rest → IsEnd tokens rest
further tokens mid rest a b = record {
  front = a.front ++ b.front;
  same = a.same ∙ ap (λ (more : List Token). a.front ++ more) b.same ∙ sym (append_assoc a.front b.front rest);
}

one_less : (t : Token) (tokens mid rest : List Token) → tokens ≡ t ∷ mid → IsEnd mid rest → IsEnd tokens rest
one_less t tokens mid rest e b = record { front = t ∷ b.front; same = e ∙ ap (λ (more : List Token). t ∷ more) b.same }

fronts_end : (all : List Piece) (tokens rest : List Token) → Fronts all tokens rest → IsEnd tokens rest
fronts_end [] tokens rest f = all_of tokens rest f
fronts_end (p ∷ more) [] rest f = absurd f
fronts_end (p ∷ more) (t ∷ tokens) rest f = one_less t (t ∷ tokens) tokens rest refl (fronts_end more tokens rest f.1)

module _ (L : Language) where
  abbrev pub LeavesEnd : Type 0
  LeavesEnd = (g : L.Reader) (leaf : L.Leaf) (scope : L.Scope) (tokens : List Token) (new : L.Scope) (rest : List Token) →
      L.IsFront g leaf scope tokens new rest → IsEnd tokens rest

  module _ (G : Grammar L) (given : LeavesEnd) where
    mutual
      pub tree_end : (t : Tree L) (s : L.Sort) (scope : L.Scope) (tokens : List Token) (new : L.Scope) (rest : List Token) → Spells L G t s scope tokens new rest → IsEnd tokens rest
      tree_end (Node r kids) s scope tokens new rest sp = kids_end kids (G.form r) scope tokens new rest sp.1
      tree_end _ s scope tokens new rest sp = absurd sp

      kids_end : (kids : Trees L) (f : Form L) (scope : L.Scope) (tokens : List Token) (new : L.Scope) (rest : List Token) → SpellsAll L G kids f scope tokens new rest → IsEnd tokens rest
      kids_end kids (Key k f) scope tokens new rest sp = let m = key_front k tokens sp.0 sp.1 in one_less m.token tokens sp.0 rest m.same (kids_end kids f scope sp.0 new rest sp.2)
      kids_end kids (Mark k f) scope tokens new rest sp = let m = mark_front k tokens sp.0 sp.1 in one_less m.token tokens sp.0 rest m.same (kids_end kids f scope sp.0 new rest sp.2)
      kids_end kids (Declare names f) scope tokens new rest sp = kids_end kids f (names scope) tokens new rest sp
      kids_end kids (Unless test f) scope tokens new rest sp = kids_end kids f scope tokens new rest sp.1
      kids_end Nil Done scope tokens new rest sp = all_of tokens rest sp.1
      kids_end (Next (Place span) kids) (Here f) scope tokens new rest sp = kids_end kids f scope tokens new rest sp.1
      kids_end (Next (Name n) kids) (AName f) scope tokens new rest sp =
          let m = name_front n tokens sp.0 sp.1 in one_less m.token tokens sp.0 rest m.same (kids_end kids f scope sp.0 new rest sp.2)
      kids_end (Next (Value leaf) kids) (Given g f) scope tokens new rest sp =
          further tokens sp.1 rest (given g leaf scope tokens sp.0 sp.1 sp.2) (kids_end kids (f leaf) sp.0 sp.1 new rest sp.3)
      kids_end (Next t kids) (Sub s f) scope tokens new rest sp = further tokens sp.1 rest (tree_end t s scope tokens sp.0 sp.1 sp.2) (kids_end kids f sp.0 sp.1 new rest sp.3)
      kids_end (Next (Group true inner) kids) (Part a f) scope tokens new rest sp =
          further tokens sp.1 rest (kids_end inner a scope tokens sp.0 sp.1 sp.2) (kids_end kids f sp.0 sp.1 new rest sp.3)
      kids_end (Next (Group true inner) kids) (Scoped a f) scope tokens new rest sp =
          further tokens sp.1 rest (kids_end inner a scope tokens sp.0 sp.1 sp.2) (kids_end kids f scope sp.1 new rest sp.3)
      kids_end (Next (Group true inner) kids) (Either test a b f) scope tokens new rest sp =
          further tokens sp.1 rest (kids_end inner a scope tokens sp.0 sp.1 sp.2) (kids_end kids f sp.0 sp.1 new rest sp.3)
      kids_end (Next (Group false inner) kids) (Either test a b f) scope tokens new rest sp =
          further tokens sp.1 rest (kids_end inner b scope tokens sp.0 sp.1 sp.2) (kids_end kids f sp.0 sp.1 new rest sp.3)
      kids_end (Next (Group true each) kids) (Many test a f) scope tokens new rest sp =
          further tokens sp.1 rest (each_end each a scope tokens sp.0 sp.1 sp.2) (kids_end kids f sp.0 sp.1 new rest sp.3)
      kids_end (Next (Group true (Next (Group true first) more)) kids) (Listed test a b f) scope tokens new rest sp =
          further tokens sp.1 rest (kids_end first a scope tokens sp.0 sp.1 sp.4)
          (further sp.1 sp.3 rest (each_end more b sp.0 sp.1 sp.2 sp.3 sp.5) (kids_end kids f sp.2 sp.3 new rest sp.6))
      kids_end _ _ scope tokens new rest sp = absurd sp

      each_end : (each : Trees L) (a : Form L) (scope : L.Scope) (tokens : List Token) (new : L.Scope) (rest : List Token) → SpellsEach L G each a scope tokens new rest → IsEnd tokens rest
      each_end Nil a scope tokens new rest sp = all_of tokens rest sp.1
      each_end (Next (Group true kids) more) a scope tokens new rest sp =
          further tokens sp.1 rest (kids_end kids a scope tokens sp.0 sp.1 sp.2) (each_end more a sp.0 sp.1 new rest sp.3)
      each_end _ a scope tokens new rest sp = absurd sp

pub leaves_end : LeavesEnd C
leaves_end Expression (AnExpr t) names tokens new rest h = fronts_end (pieces t) tokens rest h.0.words
leaves_end Assignment (AnExpr t) names tokens new rest h = fronts_end (pieces t) tokens rest h.0.words
leaves_end Constant (AnExpr t) names tokens new rest h = fronts_end (pieces t) tokens rest h.0.words
leaves_end SpecifierList (Specifiers all) names tokens new rest h = fronts_end (pieces_of_all all) tokens rest h.0.words
leaves_end (NamedDeclarator before) (ADeclarator t) names tokens new rest h = fronts_end (pieces t) tokens rest h.0.words
leaves_end StringLiterals (Literals all) names tokens new rest h = fronts_end (pieces_of_literals all) tokens rest h.0.words
leaves_end AttributeList (Attributes all) names tokens new rest h = fronts_end (pieces_of_attributes all) tokens rest h.0.words
leaves_end OneAttribute (AnAttribute a) names tokens new rest h = fronts_end (pieces_of_attribute a) tokens rest h.0.words
leaves_end _ _ names tokens new rest h = absurd h

-- an end of what stands from a start on, by its position
pub position : (start : ℕ) (tokens rest : List Token) → start ≤ length tokens → IsEnd (drop start tokens) rest → drop (length tokens - length rest) tokens ≡ rest
position start tokens rest h end =
    let long : length (drop start tokens) ≡ length tokens - start = length-drop start tokens in
    let whole : length (drop start tokens) ≡ length end.front + length rest = ap length end.same ∙ length-append end.front rest in
    let e : length tokens - length rest ≡ start + length end.front = omega arith in
    rw (e, ← drop-drop (length end.front) start tokens, end.same) (drop-append_seam end.front rest)

pub not_behind : (start : ℕ) (tokens rest : List Token) → IsEnd (drop start tokens) rest → length rest ≤ length tokens
not_behind start tokens rest end =
    let long : length (drop start tokens) ≡ length tokens - start = length-drop start tokens in
    let whole : length (drop start tokens) ≡ length end.front + length rest = ap length end.same ∙ length-append end.front rest in
    omega arith
