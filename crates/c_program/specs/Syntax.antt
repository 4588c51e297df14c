-- Typed programs, as the meaning sees them: names are resolved to bases, statements are numbered in source order, each conversion is a
-- node, and runs of operators are nested to the left. A load or a store names the scalar type of its lvalue.
use Rattle.std.specs.Prelude.{ℕ, zero, suc, ◌+◌, ◌<◌, ◌≤◌, ◌≡◌, ◌≢◌, ◌⊎◌, ◌==◌, cond, Bool, true, false, List, [], ◌∷◌, length, ℤ, Option, None, Some}
use Rattle.c_program.specs.declared.base.BaseSort.{BaseSort}
use Rattle.c_program.specs.declared.base.BaseSort.TheVariants.{Static, Local, Formal, Text, Func, Context}
use Rattle.c_base.specs.declared.number.Span.{Span}
use Rattle.c_base.specs.declared.integer.Machine.{Machine}
use Rattle.c_memory.specs.declared.scalar.Scalar.{Scalar}
use Rattle.c_memory.specs.Layouts.{Layout, last_address}
use Rattle.c_types.specs.Types.{CType, Composite'}
use Rattle.c_typed_term.specs.Terms.{Predicate, Contract}
use Rattle.c_typed_stmt.specs.declared.init.ImageItem.{ImageItem}
pub use Rattle.c_typed_expr.specs.Trees.{Lvalue, Variable, Pointed, Temporary, Member, Element, ElementOf, Expr, Number, Load, Binary, Assign, LoadCells, AssignCells, Address, Unary, Convert, OnPointers, Logic, Conditional, Compound, Step, Comma, Call, Exprs, NoExpr, NextExpr}

-- an expression that is numbered as a statement is: the first and the third part of a `for`
pub record Numbered : Type 0 where
  pub id : ℕ
  pub value : Expr

-- The parts of a loop around its body (C11 6.8.5). Its invariants hold at each arrival at its head; without a condition it goes on.
pub record Head : Type 0 where
  pub first : Option Numbered
  pub id : ℕ
  pub invariants : List Predicate
  pub condition : Option Expr
  pub next : Option Numbered

-- one item of an initialiser: a value for a part of the object, of the type, or the content of a string literal (C11 6.7.9)
pub data Item : Type 0 where
  Value : CType → Lvalue → Expr → Item
  Content : List ImageItem → Item

mutual
  -- A statement with its number. A block has its objects; `Nothing` stands where an `if` has no `else`.
  pub data Stmt : Type 0 where
    Expression : ℕ → Expr → Stmt
    Return : ℕ → Expr → Stmt
    If : ℕ → Expr → Stmt → Stmt → Stmt
    While : ℕ → Expr → Stmt → Stmt
    Block : List ℕ → Stmts → Stmt
    Nothing : Stmt
    -- the null statement (C11 6.8.3p3)
    Empty : ℕ → Stmt
    ReturnNothing : ℕ → Stmt
    -- a `do`, which has neither a first nor a third part
    DoWhile : Head → Stmt → Stmt
    -- a `for`, or a `while` with invariants
    For : Head → Stmt → Stmt
    Switch : ℕ → Expr → Stmt → Stmt
    -- `case` with its value, or `default`
    Case : Option ℤ → Stmt → Stmt
    Label : List ℕ → Stmt → Stmt
    Goto : ℕ → List ℕ → Stmt
    Break : ℕ → Stmt
    Continue : ℕ → Stmt
    -- an automatic object is initialised: what no item names is made 0 first
    Initialise : ℕ → ℕ → List ImageItem → List Item → Stmt
    Assert : ℕ → Predicate → Stmt

  pub data Stmts : Type 0 where
    Done : Stmts
    Next : Stmt → Stmts → Stmts

-- an object, function or string literal: its name, its size in bytes, what it is, whether it can't be written, its type, and whether its
-- loads are choices
pub record Base : Type 0 where
  pub name : List ℕ
  pub size : ℕ
  pub sort : BaseSort
  pub readonly : Bool
  pub ctype : CType
  pub volatile : Bool
  -- what it holds before the run, where an initialiser says so
  pub image : Option (List ImageItem)
  -- a function whose name is used otherwise than as the function of a direct call
  pub named : Bool

-- what a call of a function has: no value, a scalar, or a struct or union of so many bytes
pub data ResultType : Type 0 where
  Void : ResultType
  Returns : Scalar → ResultType
  ReturnsCells : ℕ → ResultType

-- A function with a body: its base, the type of its result, its formals, the objects and the statements of its body, the number of its
-- closing brace, and its contract.
pub record Function : Type 0 where
  pub base : ℕ
  pub result : ResultType
  pub formals : List ℕ
  pub locals : List ℕ
  pub body : Stmts
  pub end : ℕ
  pub contract : Option Contract

-- A function without a body. In its contract, slot n is its parameter number n.
pub record Outside : Type 0 where
  pub base : ℕ
  pub contract : Option Contract

-- The machine, the bases by number, the functions with bodies, the function that is entered first, and the spans of the statements from
-- number 1; the structs and unions by number, the functions without bodies, in which function each statement stands, whether static
-- objects begin with any content, and the marks at which widening stops.
pub record Program : Type 0 where
  pub machine : Machine
  pub bases : List Base
  pub functions : List Function
  pub entry : ℕ
  pub spans : List Span
  pub composites : List Composite'
  pub outside : List Outside
  pub owners : List ℕ
  pub lib_entry : Bool
  pub marks : List ℤ

abbrev pub base_at : List Base → ℕ → Option Base
base_at [] n = None
base_at (b ∷ bs) zero = Some b
base_at (b ∷ bs) (suc n) = base_at bs n

-- a function with a body, by its base
abbrev pub function_at : List Function → ℕ → Option Function
function_at [] base = None
function_at (f ∷ fs) base = cond (f.base == base) (Some f) (function_at fs base)

-- the objects that live as long as a run (C11 6.2.4p3, 6.4.5p6)
abbrev pub is_static : BaseSort → Bool
is_static Static = true
is_static Text = true
is_static Context = true
is_static sort = false

abbrev pub static_base : Option Base → Bool
static_base None = false
static_base (Some b) = is_static b.sort

-- the first `count` numbers from n
abbrev pub numbers_from : ℕ → ℕ → List ℕ
numbers_from n zero = []
numbers_from n (suc count) = n ∷ numbers_from (suc n) count

-- rows show every base but functions and string literals
abbrev pub is_shown_sort : BaseSort → Bool
is_shown_sort Static = true
is_shown_sort Local = true
is_shown_sort Formal = true
is_shown_sort Text = false
is_shown_sort Func = false
is_shown_sort Context = true

abbrev pub shown_base : Option Base → Bool
shown_base None = false
shown_base (Some b) = is_shown_sort b.sort

abbrev pub is_shown : Program → ℕ → Bool
is_shown p base = shown_base (base_at p.bases base)

-- the bases b and c share no byte
abbrev pub AreApart : Layout → ℕ → ℕ → Type 0
AreApart l b c = (l.address b + l.size b ≤ l.address c) ⊎ (l.address c + l.size c ≤ l.address b)

-- A layout of the program: each base has its size and stands between 1 and the machine's last address, and no two bases share a byte,
-- whether or not they live at the same time.
pub record IsLayout (p : Program) (l : Layout) : Type 0 where
  pub machine : l.machine ≡ p.machine
  pub all : l.bases ≡ numbers_from 0 (length p.bases)
  pub known : (n : ℕ) (b : Base) → base_at p.bases n ≡ Some b → (l.size n ≡ b.size) × (l.readonly n ≡ b.readonly)
  pub low : (n : ℕ) → n < length p.bases → 1 ≤ l.address n
  pub high : (n : ℕ) → n < length p.bases → l.address n + l.size n ≤ last_address p.machine
  pub apart : (n k : ℕ) → n < length p.bases → k < length p.bases → n ≢ k → AreApart l n k
