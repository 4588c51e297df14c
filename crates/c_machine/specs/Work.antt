-- What is still to do in a run, and what is held while expressions are evaluated.
use Rattle.std.specs.Prelude.{ℕ, ◌≡◌, Bool, List, [], ◌∷◌, ◌++◌, Option, None, Some, Result, Ok, Err}
use Rattle.c_base.specs.declared.integer.IntKind.{IntKind}
use Rattle.c_base.specs.declared.operators.BinOp.{BinOp}
use Rattle.c_base.specs.declared.operators.UnOp.{UnOp}
use Rattle.c_base.specs.declared.kind.Kind.{Kind}
use Rattle.c_base.specs.declared.kind.Kind.TheVariants.{Initialization}
use Rattle.c_memory.specs.declared.scalar.Scalar.{Scalar}
use Rattle.c_memory.specs.Values.{Value, Cell}
use Rattle.c_types.specs.Types.{CType}
use Rattle.c_typed_stmt.specs.declared.init.ImageItem.{ImageItem}
use Rattle.c_program.specs.Syntax.{Lvalue, Expr, Numbered, Head, Stmt, Expression, Return, If, Empty, ReturnNothing, Switch, Goto, Break, Continue, Initialise, Assert, Stmts, Done, Next, ResultType}

-- A scalar that may be used; a returned scalar that no step may use, with the kind with which its use stops; the cells of a struct or
-- union; no value; or the cells from where a part of a value without a place begins.
pub data Held : Type 0 where
  Usable : Value → Held
  Unusable : Kind → Held
  Cells : List Cell → Held
  Absent : Held
  Part : List Cell → Held

-- the use of a held scalar (C11 6.3.2.1p2, 6.2.4p2)
abbrev pub used : Held → Result Value Kind
used (Usable v) = Ok v
used (Unusable kind) = Err kind
used (Cells cells) = Err Initialization
used Absent = Err Initialization
used (Part cells) = Err Initialization

-- What is still to do. No item holds what the run computes, so the list is the place of control: it tells where in the program the run is.
pub data Work : Type 0 where
  -- carry out a statement
  Do : Stmt → Work
  -- evaluate an expression, and hold its value
  Evaluate : Expr → Work
  -- find an lvalue, and hold its address
  Locate : Lvalue → Work
  -- load from the held address
  Fetch : Scalar → Work
  -- store the held value at the address held below it, and hold the value
  Store : Scalar → Work
  -- apply an operator to the two values held last
  Apply : BinOp → IntKind → Work
  -- the end of an expression statement: its value is discarded
  Discard : ℕ → Work
  -- the held truth chooses between the statements of an `if`
  Choose : ℕ → Stmt → Stmt → Work
  -- the head of a loop, where its condition is evaluated; behind its body the mark by which the body belongs to the loop
  Loop : ℕ → Expr → Stmt → Work
  -- the held truth begins another turn of a loop, or ends it
  Turn : ℕ → Expr → Stmt → Work
  -- a `return` hands the held value to the caller
  Deliver : ℕ → Work
  -- the end of the statements of a function's body, all of which it keeps
  Body : Stmts → Work
  -- the closing brace of a function's body, and the type of the function's result
  Brace : ℕ → ResultType → Work
  -- the end of a block with these objects and statements
  Close : List ℕ → Stmts → Work
  -- a function in progress, and the site of the call; the function that is entered first has none
  Frame : ℕ → Option ℕ → Work
  -- use the held pointer as an address
  Use : Work
  -- the cells held last are a value without a place, whose parts are found by Reach and Index
  AsPlace : Work
  -- go on from the held place to a member of the struct or union
  Reach : ℕ → ℕ → Work
  -- go on from the place held below to the element with the index held last: its type, of how many, and whether the end may be meant
  Index : CType → ℕ → Bool → Work
  -- the same, where the index is held below the place
  IndexedBy : CType → ℕ → Bool → Work
  -- load from a held address that is volatile: any value
  Sample : Scalar → Work
  -- load the cells of a struct or union
  FetchCells : CType → Work
  -- store held cells at the address held below; an initialiser names its object
  StoreCells : Bool → CType → Work
  -- copy cells to the address held below from the address held last
  CopyCells : Bool → CType → Work
  -- apply `-`, `!` or `~` to the held value
  ApplyOne : UnOp → IntKind → Work
  -- convert the held value to a type
  Change : CType → Work
  -- apply an operator to two values among which are pointers, of these types
  ApplyPointers : BinOp → CType → CType → Work
  -- the held truth decides `&&` (true) or `||`, or the other operand does
  Decide : Bool → Expr → Work
  -- the truth of the held value as a number
  Settle : Work
  -- the held truth picks one of two expressions
  Pick : Expr → Expr → Work
  -- hold once more what is held last
  Again : Work
  -- hold once more what is held last, below the place that is held below it
  Tuck : Work
  -- the held value of the type with 1 added (true) or subtracted
  Increase : Bool → CType → Work
  -- what is held last is discarded
  Drop : Work
  -- call the function whose address is held below so many arguments: the site, and the function's type
  Enter : ℕ → CType → ℕ → Work
  -- store the held value in the initialised object, at the address held below it, and hold the value
  Put : Scalar → Work
  -- write an initial content into a base
  Paste : ℕ → List ImageItem → Work
  -- the end of an initialiser's statement
  Finish : ℕ → Work
  -- the head of a `for`; what follows its body, the mark by which the body belongs to it; and what its held condition decides
  ForHead : Head → Stmt → Work
  ForNext : Head → Stmt → Work
  ForTurn : Head → Stmt → Work
  -- what follows the body of a `do`, its mark; and what its held condition decides
  DoTest : Head → Stmt → Work
  DoTurn : Head → Stmt → Work
  -- the held value selects a label in the block of a `switch`
  Select : ℕ → Stmt → Work
  -- the end of a `switch`
  Switched : Work

-- the work of a list of statements, before other work
abbrev pub queued : Stmts → List Work → List Work
queued Done rest = rest
queued (Next s more) rest = Do s ∷ queued more rest

-- the call sites in progress, outermost first
abbrev pub sites_of : List Work → List ℕ
sites_of [] = []
sites_of (Frame function (Some site) ∷ rest) = sites_of rest ++ site ∷ []
sites_of (work ∷ rest) = sites_of rest

-- the statement in which a list of work goes on: the first item that ends a statement names it
abbrev pub statement_in : List Work → ℕ
statement_in [] = 0
statement_in (Discard id ∷ rest) = id
statement_in (Choose id s t ∷ rest) = id
statement_in (Loop id e s ∷ rest) = id
statement_in (Turn id e s ∷ rest) = id
statement_in (Deliver id ∷ rest) = id
statement_in (Brace id result ∷ rest) = id
statement_in (Finish id ∷ rest) = id
statement_in (ForHead h s ∷ rest) = h.id
statement_in (ForNext h s ∷ rest) = h.id
statement_in (ForTurn h s ∷ rest) = h.id
statement_in (DoTest h s ∷ rest) = h.id
statement_in (DoTurn h s ∷ rest) = h.id
statement_in (Select id s ∷ rest) = id
statement_in (work ∷ rest) = statement_in rest

-- the number of a statement that is arrived at when it begins: not that of a loop, which is arrived at by its head
abbrev pub number_of : Stmt → Option ℕ
number_of (Expression id e) = Some id
number_of (Return id e) = Some id
number_of (If id e s t) = Some id
number_of (Empty id) = Some id
number_of (ReturnNothing id) = Some id
number_of (Switch id e s) = Some id
number_of (Goto id name) = Some id
number_of (Break id) = Some id
number_of (Continue id) = Some id
number_of (Initialise id base cleared items) = Some id
number_of (Assert id predicate) = Some id
number_of s = None

-- the statement at which a run has just arrived; the closing brace of a function is one, reached by falling off the end
abbrev pub arrival : List Work → Option ℕ
arrival [] = None
arrival (Do s ∷ rest) = number_of s
arrival (Loop id e s ∷ rest) = Some id
arrival (Brace id result ∷ rest) = Some id
arrival (ForHead h s ∷ rest) = Some h.id
arrival (DoTest h s ∷ rest) = Some h.id
arrival (work ∷ rest) = None

-- the objects of the scopes in progress, the innermost scope first
abbrev pub scopes_of : List Work → List ℕ
scopes_of [] = []
scopes_of (Close bases stmts ∷ rest) = bases ++ scopes_of rest
scopes_of (work ∷ rest) = scopes_of rest

-- what a return leaves behind: the objects that die, the function and its call site, and the caller's work
pub record Exit : Type 0 where
  pub dying : List ℕ
  pub function : ℕ
  pub site : Option ℕ
  pub rest : List Work

-- the way out of the innermost function in progress
abbrev pub exit_of : List ℕ → List Work → Option Exit
exit_of dying [] = None
exit_of dying (Frame function site ∷ rest) = Some (record { dying = dying; function = function; site = site; rest = rest })
exit_of dying (Close bases stmts ∷ rest) = exit_of (dying ++ bases) rest
exit_of dying (work ∷ rest) = exit_of dying rest
