-- What it is that tokens begin with a tree, by recursion on it, and how deep trees are.
use Rattle.std.specs.Prelude.{ℕ, suc, max, ◌≡◌, true, false, IsTrue, List, [], ◌∷◌, Option, None, Some}
use Rattle.c_base.specs.declared.number.Span.{Span}
use Rattle.c_base.specs.declared.token.Token.{Token}
use Rattle.c_parse_rules.specs.Tokens.{behind_key, behind_mark, name_at}
use Rattle.grammar.specs.Forms.{Language, Tree, Place, Name, Value, Node, Group, Trees, Nil, Next, Form, Done, Here, Key, Mark, AName, Given, Sub, Part, Scoped, Either, Many, Listed, Declare, Unless, Grammar}

-- the place of the first token
unfoldable pub place_at : List Token → Option Span
place_at [] = None
place_at (t ∷ tokens) = Some t.span

module _ (L : Language) where
  -- Lists, alternatives and parts of a node are no nodes of their own.
  abbrev mutual
    pub nest : Tree L → ℕ
    nest (Place span) = 0
    nest (Name name) = 0
    nest (Value leaf) = L.deep leaf
    nest (Node r kids) = suc (nest_all kids)
    nest (Group g kids) = nest_all kids

    pub nest_all : Trees L → ℕ
    nest_all Nil = 0
    nest_all (Next t more) = max (nest t) (nest_all more)

  module _ (G : Grammar L) where
    abbrev mutual
      -- the tokens begin with this tree, where so much is in scope; so much is in scope behind it, and this is left
      pub Spells : Tree L → L.Sort → L.Scope → List Token → L.Scope → List Token → Type 0
      Spells (Node r kids) s scope tokens new rest = IsTrue (G.belongs s r) × SpellsAll kids (G.form r) scope tokens new rest
      Spells _ s scope tokens new rest = ⊥

      pub SpellsAll : Trees L → Form L → L.Scope → List Token → L.Scope → List Token → Type 0
      SpellsAll kids (Key k f) scope tokens new rest = (mid : List Token) × (behind_key k tokens ≡ Some mid) × SpellsAll kids f scope mid new rest
      SpellsAll kids (Mark p f) scope tokens new rest = (mid : List Token) × (behind_mark p tokens ≡ Some mid) × SpellsAll kids f scope mid new rest
      SpellsAll kids (Declare names f) scope tokens new rest = SpellsAll kids f (names scope) tokens new rest
      SpellsAll kids (Unless test f) scope tokens new rest = (test scope tokens ≡ false) × SpellsAll kids f scope tokens new rest
      SpellsAll Nil Done scope tokens new rest = (scope ≡ new) × (tokens ≡ rest)
      SpellsAll (Next (Place span) kids) (Here f) scope tokens new rest = (place_at tokens ≡ Some span) × SpellsAll kids f scope tokens new rest
      SpellsAll (Next (Name n) kids) (AName f) scope tokens new rest = (mid : List Token) × (name_at tokens ≡ Some (n, mid)) × SpellsAll kids f scope mid new rest
      SpellsAll (Next (Value leaf) kids) (Given g f) scope tokens new rest =
          (between : L.Scope) × (mid : List Token) × L.IsFront g leaf scope tokens between mid × SpellsAll kids (f leaf) between mid new rest
      SpellsAll (Next t kids) (Sub s f) scope tokens new rest =
          (between : L.Scope) × (mid : List Token) × Spells t s scope tokens between mid × SpellsAll kids f between mid new rest
      SpellsAll (Next (Group true inner) kids) (Part a f) scope tokens new rest =
          (between : L.Scope) × (mid : List Token) × SpellsAll inner a scope tokens between mid × SpellsAll kids f between mid new rest
      SpellsAll (Next (Group true inner) kids) (Scoped a f) scope tokens new rest =
          (inside : L.Scope) × (mid : List Token) × SpellsAll inner a scope tokens inside mid × SpellsAll kids f scope mid new rest
      SpellsAll (Next (Group true inner) kids) (Either test a b f) scope tokens new rest =
          (between : L.Scope) × (mid : List Token) × SpellsAll inner a scope tokens between mid × SpellsAll kids f between mid new rest
      SpellsAll (Next (Group false inner) kids) (Either test a b f) scope tokens new rest =
          (between : L.Scope) × (mid : List Token) × SpellsAll inner b scope tokens between mid × SpellsAll kids f between mid new rest
      SpellsAll (Next (Group true each) kids) (Many test a f) scope tokens new rest =
          (between : L.Scope) × (mid : List Token) × SpellsEach each a scope tokens between mid × SpellsAll kids f between mid new rest
      SpellsAll (Next (Group true (Next (Group true first) more)) kids) (Listed test a b f) scope tokens new rest =
          (named : L.Scope) × (left : List Token) × (between : L.Scope) × (mid : List Token) × SpellsAll first a scope tokens named left
          × SpellsEach more b named left between mid × SpellsAll kids f between mid new rest
      SpellsAll _ _ scope tokens new rest = ⊥

      -- one after the other
      pub SpellsEach : Trees L → Form L → L.Scope → List Token → L.Scope → List Token → Type 0
      SpellsEach Nil a scope tokens new rest = (scope ≡ new) × (tokens ≡ rest)
      SpellsEach (Next (Group true kids) more) a scope tokens new rest =
          (between : L.Scope) × (mid : List Token) × SpellsAll kids a scope tokens between mid × SpellsEach more a between mid new rest
      SpellsEach _ a scope tokens new rest = ⊥
