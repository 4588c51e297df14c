-- When the choices of a grammar are told by the tokens: of each alternative, repetition and list its test tells which way it goes.
use Rattle.std.proofs.Common.{◌≡◌, ℕ, ◌≤◌, ◌<◌, true, false, IsTrue, List, length, Some}
use Rattle.c_base.specs.declared.token.Token.{Token}
use Rattle.grammar.specs.Forms.{Language, Trees, Form, Done, Here, Key, Mark, AName, Given, Sub, Part, Scoped, Either, Many, Listed, Declare, Unless, Grammar}
use Rattle.grammar.specs.Reading.{Readers}
use Rattle.grammar.specs.Spelling.{SpellsAll, SpellsEach}

module _ (L : Language) where
  -- what may stand behind a form
  abbrev pub Follow : Type 1
  Follow = L.Scope → List Token → Type 0

  abbrev pub Anything : Follow
  Anything scope tokens = Unit {0}

  -- What can't go on with a leaf: behind it this is in scope, and these tokens are left.
  abbrev pub Endings : Type 1
  Endings = L.Reader → L.Leaf → L.Scope → List Token → Type 0

  -- what the readers promise: a leaf that stands there, before what can't go on with it, and nests no deeper, is read
  abbrev pub ReadersReach : Endings → Readers L → Type 0
  ReadersReach Ends R = (d : ℕ) (g : L.Reader) (leaf : L.Leaf) (scope : L.Scope) (tokens : List Token) (new : L.Scope) (rest : List Token) →
      L.IsFront g leaf scope tokens new rest → L.deep leaf ≤ d → Ends g leaf new rest → R.read d g scope tokens ≡ Some (leaf, new, rest)

  module _ (G : Grammar L) where
    -- the form, and what may stand behind it
    abbrev pub Behind : Form L → Follow → Follow
    Behind f F scope tokens = (kids : Trees L) × (new : L.Scope) × (rest : List Token) × SpellsAll L G kids f scope tokens new rest × F new rest

    -- further elements of a list, and what may stand behind it
    abbrev pub BehindEach : Form L → Follow → Follow
    BehindEach a F scope tokens = (each : Trees L) × (new : L.Scope) × (rest : List Token) × SpellsEach L G each a scope tokens new rest × F new rest

    -- a part whose names end with it, and what may stand behind it, where this was in scope before
    abbrev pub BehindScope : Form L → Follow → L.Scope → Follow
    BehindScope f F scope inside tokens = Behind f F scope tokens

    -- the form takes a token at least
    abbrev pub Takes : Form L → Type 0
    Takes a = (kids : Trees L) (scope new : L.Scope) (tokens rest : List Token) → SpellsAll L G kids a scope tokens new rest → length rest < length tokens

    module _ (Ends : Endings) where
      abbrev pub Good : Form L → Follow → Type 0
      Good Done F = Unit {0}
      Good (Here f) F = Good f F
      Good (Key k f) F = Good f F
      Good (Mark p f) F = Good f F
      Good (AName f) F = Good f F
      Good (Given g f) F = (leaf : L.Leaf) → (((scope : L.Scope) (tokens : List Token) → Behind (f leaf) F scope tokens → Ends g leaf scope tokens) × Good (f leaf) F)
      Good (Sub s f) F = Good f F
      Good (Part a f) F = Good a (Behind f F) × Good f F
      Good (Scoped a f) F = ((scope : L.Scope) → Good a (BehindScope f F scope)) × Good f F
      Good (Either test a b f) F =
          ((scope : L.Scope) (tokens : List Token) → Behind a (Behind f F) scope tokens → test scope tokens ≡ true)
          × ((scope : L.Scope) (tokens : List Token) → Behind b (Behind f F) scope tokens → test scope tokens ≡ false)
          × Good a (Behind f F) × Good b (Behind f F) × Good f F
      Good (Many test a f) F =
          ((scope : L.Scope) (tokens : List Token) → Behind a (BehindEach a (Behind f F)) scope tokens → test scope tokens ≡ true)
          × ((scope : L.Scope) (tokens : List Token) → Behind f F scope tokens → test scope tokens ≡ false)
          × Takes a × Good a (BehindEach a (Behind f F)) × Good f F
      Good (Listed test a b f) F =
          ((scope : L.Scope) (tokens : List Token) → Behind b (BehindEach b (Behind f F)) scope tokens → test scope tokens ≡ true)
          × ((scope : L.Scope) (tokens : List Token) → Behind f F scope tokens → test scope tokens ≡ false)
          × Takes b × Good a (BehindEach b (Behind f F)) × Good b (BehindEach b (Behind f F)) × Good f F
      Good (Declare names f) F = Good f F
      Good (Unless test f) F = Good f F

      -- each rule, whatever stands behind it
      abbrev pub AllGood : Type 0
      AllGood = (r : L.Rule) → Good (G.form r) Anything

    -- a rule of the sort whose tree stands there is picked
    abbrev pub PicksAll : Readers L → Type 0
    PicksAll R = (s : L.Sort) (r : L.Rule) (kids : Trees L) (scope : L.Scope) (tokens : List Token) (new : L.Scope) (rest : List Token) → IsTrue (G.belongs s r) →
        SpellsAll L G kids (G.form r) scope tokens new rest → R.pick s scope tokens ≡ Some r
