-- Terms, predicates and contracts as plain trees. Runs are nested to the left; numbers are integers without bound.
use Rattle.std.specs.Prelude.{ℕ, Bool, ℤ, List, Option}
use Rattle.c_base.specs.declared.integer.IntKind.{IntKind}
use Rattle.c_base.specs.declared.operators.BinOp.{BinOp}
use Rattle.c_base.specs.declared.operators.Rel.{Rel}
use Rattle.c_types.specs.Types.{CType}
use Rattle.c_typed_term.specs.declared.term.When.{When}
use Rattle.c_typed_term.specs.declared.predicate.AccessSort.{AccessSort}

-- what the operands of an operator or a relation are
pub data Sort : Type 0 where
  Numbers : Sort
  -- a pointer to the type and a number
  Pointer : CType → Sort
  -- a number and a pointer to the type
  ToPointer : CType → Sort
  -- two pointers to the type
  Pointers : CType → Sort

mutual
  pub data Term : Type 0 where
    Number : ℤ → Term
    -- a bound variable, by how many quantifiers stand between it and its own
    Bound : ℕ → Term
    Null : Term
    Negate : Term → Term
    Operator : BinOp → Sort → Term → Term → Term
    -- what a place of the type holds, and its address
    Value : CType → Place → Term
    Address : CType → Place → Term
    Cast : IntKind → Term → Term
    At : When → Term → Term

  pub data Place : Type 0 where
    Object : ℕ → Place
    -- a formal as it was at entry
    Formal : ℕ → Place
    Pointed : Term → CType → Place
    Result : CType → Place
    Slot : ℕ → CType → Place
    Member : Place → ℕ → ℕ → Place
    Element : Place → Term → CType → ℕ → Place

-- pointers to the type: one, or one for each number of a range
pub record PointersTo : Type 0 where
  pub first : Term
  pub ctype : CType
  pub range : Option (Term × Term)

pub record Relation : Type 0 where
  pub relation : Rel
  pub sort : Sort
  pub right : Term

-- the bounds of a bound variable: its type, where it has one of C's, and whether it differs from them
pub record Bounds : Type 0 where
  pub kind : Option IntKind
  pub low : Term
  pub above : Bool
  pub high : Term
  pub below : Bool

pub data Predicate : Type 0 where
  Truth : Bool → Predicate
  -- a term, and relations that each hold between neighbours
  Related : Term → List Relation → Predicate
  Not : Predicate → Predicate
  And : Predicate → Predicate → Predicate
  Or : Predicate → Predicate → Predicate
  Implies : Predicate → Predicate → Predicate
  Equivalent : Predicate → Predicate → Predicate
  Choice : Term → Predicate → Predicate → Predicate
  Access : AccessSort → PointersTo → Predicate
  Separated : List PointersTo → Predicate
  ForAll : Bounds → Predicate → Predicate
  Exists : Bounds → Predicate → Predicate

-- a clause `assigns`: whether it names the result, what is assigned, and the terms behind `\from`
pub record Assigns : Type 0 where
  pub result : Bool
  pub locations : List PointersTo
  pub sources : Option (List Term)

pub record Behaviour : Type 0 where
  pub assumptions : List Predicate
  pub preconditions : List Predicate
  pub postconditions : List Predicate

pub record Contract : Type 0 where
  pub preconditions : List Predicate
  pub assigns : List Assigns
  pub postconditions : List Predicate
  pub behaviours : List Behaviour
