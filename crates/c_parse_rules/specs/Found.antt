-- What it is that tokens begin with an expression.
use Rattle.std.specs.Prelude.{ℕ, ◌≤◌, ◌≡◌, List, [], ◌∷◌, length, Option, None, Some}
use Rattle.c_base.specs.declared.number.Span.{Span}
use Rattle.c_base.specs.declared.token.Token.{Token}
use Rattle.c_tree.specs.Spelling.{Piece, pieces}
use Rattle.c_tree.specs.Trees.{Tree}
use Rattle.c_tree.specs.WellFormed.{Names, IsWithin}

-- a place that a tree has is the token's
abbrev pub IsPlaced : Option Span → Span → Type 0
IsPlaced None span = Unit {0}
IsPlaced (Some place) span = place ≡ span

pub record IsPiece (p : Piece) (t : Token) : Type 0 where
  pub word : t.word ≡ p.word
  pub place : IsPlaced p.place t.span

-- the pieces are the front of the tokens, and this is left
abbrev pub Fronts : List Piece → List Token → List Token → Type 0
Fronts [] tokens rest = tokens ≡ rest
Fronts (p ∷ more) [] rest = ⊥
Fronts (p ∷ more) (t ∷ tokens) rest = IsPiece p t × Fronts more tokens rest

-- the tokens begin with this expression, of at least this level and at most so deep, and this is left
pub record IsFront (names : Names) (least depth : ℕ) (tokens : List Token) (tree : Tree) (rest : List Token) : Type 0 where
  pub within : IsWithin names least depth tree
  pub words : Fronts (pieces tree) tokens rest

-- none takes more of the tokens, and no other takes as many
pub record IsLongest (names : Names) (least depth : ℕ) (tokens : List Token) (tree : Tree) (rest : List Token) : Type 0 where
  pub front : IsFront names least depth tokens tree rest
  pub longest : (other : Tree) (left : List Token) → IsFront names least depth tokens other left → length rest ≤ length left
  pub only : (other : Tree) → IsFront names least depth tokens other rest → other ≡ tree

abbrev pub HasNone : Names → ℕ → ℕ → List Token → Type 0
HasNone names least depth tokens = (tree : Tree) (rest : List Token) → IsFront names least depth tokens tree rest → ⊥
