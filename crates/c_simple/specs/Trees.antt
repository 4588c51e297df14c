-- Expressions without effects, and the acts of edges, as plain trees.
use Rattle.std.specs.Prelude.{ℕ, Bool, ℤ, List, Option}
use Rattle.c_base.specs.declared.integer.IntKind.{IntKind}
use Rattle.c_base.specs.declared.kind.Kind.{Kind}
use Rattle.c_base.specs.declared.operators.BinOp.{BinOp}
use Rattle.c_base.specs.declared.operators.UnOp.{UnOp}
use Rattle.c_types.specs.Types.{CType}
use Rattle.c_typed_stmt.specs.declared.init.ImageItem.{ImageItem}
use Rattle.c_typed_term.specs.Terms.{Predicate}
use Rattle.c_program.specs.Syntax.{Program}

mutual
  pub data Lvalue : Type 0 where
    Variable : ℕ → Lvalue
    -- what a slot holds
    Slot : ℕ → CType → Lvalue
    -- what a pointer points to, and whether that is volatile
    Pointed : Expr → CType → Bool → Lvalue
    Member : Lvalue → ℕ → ℕ → Lvalue
    Element : Lvalue → Expr → Lvalue

  pub data Expr : Type 0 where
    Number : IntKind → ℤ → Expr
    Address : Lvalue → Expr
    Load : Lvalue → Expr
    Held : ℕ → Expr
    -- with the type of the operand
    Unary : UnOp → CType → Expr → Expr
    -- with the type of the left operand
    Binary : BinOp → CType → Expr → Expr → Expr
    Convert : CType → Expr → Expr

pub data Act : Type 0 where
  Set : Lvalue → Expr → Act
  Hold : ℕ → Expr → Act
  Release : ℕ → Act
  Copy : Lvalue → Lvalue → Act
  Paste : ℕ → List ImageItem → Act
  Test : Expr → Bool → Act
  Enter : List ℕ → Act
  Leave : List ℕ → Act
  Check : Kind → Predicate → Act
  Call : ℕ → Expr → List Expr → Option ℕ → Act
  Return : Option Expr → Option ℕ → Act
  Skip : Act

pub record Edge : Type 0 where
  pub start : ℕ
  pub end : ℕ
  pub at : ℕ
  pub act : Act
  pub callee : Option ℕ

-- what lives at a place: bases, and slots with the types of what they hold
pub record Scope : Type 0 where
  pub live : List ℕ
  pub slots : List (ℕ × CType)

pub record Place : Type 0 where
  pub at : ℕ
  pub arrival : Bool
  pub sites : List ℕ
  pub scope : Scope

pub record Function : Type 0 where
  pub base : ℕ
  pub places : List Place
  pub edges : List Edge

pub record Program' : Type 0 where
  pub program : Program
  pub functions : List Function
