-- Grammars as data: what stands side by side in a tree, and trees.
use Rattle.std.specs.Prelude.{ℕ, Bool, List}
use Rattle.c_base.specs.declared.number.Span.{Span}
use Rattle.c_base.specs.declared.token.Keyword.{Keyword}
use Rattle.c_base.specs.declared.token.Punctuator.{Punctuator}
use Rattle.c_base.specs.declared.token.Token.{Token}

-- What a grammar is over.
pub record Language : Type 1 where
  -- the rules, one for each sort of node
  pub Rule : Type 0
  -- the sorts, each of some rules
  pub Sort : Type 0
  -- what reads the parts that have no rule, as expressions, and what it reads
  pub Reader : Type 0
  pub Leaf : Type 0
  -- what is in scope
  pub Scope : Type 0
  -- the tokens begin with this leaf, where so much is in scope; so much is in scope behind it, and this is left
  pub IsFront : Reader → Leaf → Scope → List Token → Scope → List Token → Type 0
  -- how many nodes the longest path into a leaf has
  pub deep : Leaf → ℕ

mutual
  pub data Tree (L : Language) : Type 0 where
    Place : Span → Tree L
    Name : List ℕ → Tree L
    Value : L.Leaf → Tree L
    Node : L.Rule → Trees L → Tree L
    -- some trees side by side: what stands in one of two alternatives, in a part of a form or in an element of a list
    Group : Bool → Trees L → Tree L

  pub data Trees (L : Language) : Type 0 where
    Nil : Trees L
    Next : Tree L → Trees L → Trees L

-- a test by which a choice is made
abbrev pub Test : Language → Type 0
Test L = L.Scope → List Token → Bool

-- What stands side by side in a node. The last argument of each is what stands behind.
pub data Form (L : Language) : Type 0 where
  Done : Form L
  -- the place of the next token
  Here : Form L → Form L
  Key : Keyword → Form L → Form L
  Mark : Punctuator → Form L → Form L
  -- a name that is in no scope, as a label or a member
  AName : Form L → Form L
  -- what a reader reads; the form behind it may depend on that
  Given : L.Reader → (L.Leaf → Form L) → Form L
  -- a tree of a sort
  Sub : L.Sort → Form L → Form L
  -- a form that is a part of this one
  Part : Form L → Form L → Form L
  -- what is declared in the part ends with it
  Scoped : Form L → Form L → Form L
  -- the first where the test holds, else the second
  Either : Test L → Form L → Form L → Form L → Form L
  -- as often as the test holds
  Many : Test L → Form L → Form L → Form L
  -- the first once, then the second as often as the test holds, all in one list
  Listed : Test L → Form L → Form L → Form L → Form L
  Declare : (L.Scope → L.Scope) → Form L → Form L
  -- the test does not hold there
  Unless : Test L → Form L → Form L

pub record Grammar (L : Language) : Type 0 where
  pub form : L.Rule → Form L
  -- which rules a sort has
  pub belongs : L.Sort → L.Rule → Bool
