-- Typed expressions as plain trees: names are resolved to bases, each conversion is a node, and runs of operators and of postfix parts are
-- nested to the left. A load or a store names the scalar type of its lvalue.
use Rattle.std.specs.Prelude.{ℕ, Bool, ℤ}
use Rattle.c_base.specs.declared.integer.IntKind.{IntKind}
use Rattle.c_base.specs.declared.operators.BinOp.{BinOp}
use Rattle.c_base.specs.declared.operators.UnOp.{UnOp}
use Rattle.c_memory.specs.declared.scalar.Scalar.{Scalar}
use Rattle.c_types.specs.Types.{CType}

mutual
  -- an lvalue (C11 6.3.2.1p1), or a function
  pub data Lvalue : Type 0 where
    Variable : ℕ → Lvalue
    -- what a pointer points to (C11 6.5.3.2p4): its type, and whether it is volatile
    Pointed : Expr → CType → Bool → Lvalue
    -- a value without a place of its own (C11 6.2.4p8)
    Temporary : Expr → CType → Lvalue
    -- a member of a struct or union, both by number
    Member : Lvalue → ℕ → ℕ → Lvalue
    -- an element of an array: its type, of how many it is one, and whether the end may be meant
    Element : Lvalue → Expr → CType → ℕ → Bool → Lvalue
    -- the same, where the index is evaluated first
    ElementOf : Expr → Lvalue → CType → ℕ → Bool → Lvalue

  pub data Expr : Type 0 where
    Number : IntKind → ℤ → Expr
    Load : Scalar → Lvalue → Expr
    Binary : BinOp → IntKind → Expr → Expr → Expr
    Assign : Scalar → Lvalue → Expr → Expr
    -- the cells of a struct or union, and their assignment (C11 6.5.16.1)
    LoadCells : CType → Lvalue → Expr
    AssignCells : CType → Lvalue → Expr → Expr
    -- the address of what has the type
    Address : CType → Lvalue → Expr
    Unary : UnOp → IntKind → Expr → Expr
    -- a conversion to a scalar type, or to void (C11 6.3)
    Convert : CType → Expr → Expr
    -- an operator with a pointer among its operands, with the types of both (C11 6.5.6, 6.5.8, 6.5.9)
    OnPointers : BinOp → CType → CType → Expr → Expr → Expr
    -- `&&`, true, and `||`
    Logic : Bool → Expr → Expr → Expr
    Conditional : CType → Expr → Expr → Expr → Expr
    -- the type of the place, the types of the operands
    Compound : BinOp → CType → CType → CType → Lvalue → Expr → Expr
    -- `++`, true, and `--`; behind its operand, true, or before it
    Step : Bool → Bool → CType → Lvalue → Expr
    Comma : Expr → Expr → Expr
    -- the call's site, the type of the result, the function, the arguments
    Call : ℕ → CType → Lvalue → Exprs → Expr

  pub data Exprs : Type 0 where
    NoExpr : Exprs
    NextExpr : Expr → Exprs → Exprs
