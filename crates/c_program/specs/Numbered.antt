-- The numbers of statements, in the order in which they stand in the source.
use Rattle.std.specs.Prelude.{ℕ, ◌-◌, ◌≤◌, ◌≡◌, List, [], ◌∷◌, ◌++◌, length, map, sum, slice_get, Option, None, Some}
use Rattle.std.specs.List.{AllByRecursion}
use Rattle.c_program.specs.Syntax.{Numbered, Stmt, Expression, Return, If, While, Block, Nothing, Empty, ReturnNothing, DoWhile, For, Switch, Case, Label, Goto, Break, Continue, Initialise, Assert, Stmts, Done, Next, Function, Program, numbers_from}

abbrev pub part_number : Option Numbered → List ℕ
part_number None = []
part_number (Some n) = n.id ∷ []

-- The numbers of a statement and of those in it. A `do` has its number at its `while`, and a `for` before those of its parts.
abbrev mutual
  pub numbers_in : Stmt → List ℕ
  numbers_in (Expression id e) = id ∷ []
  numbers_in (Return id e) = id ∷ []
  numbers_in (If id e s t) = id ∷ (numbers_in s ++ numbers_in t)
  numbers_in (While id e s) = id ∷ numbers_in s
  numbers_in (Block bases stmts) = all_numbers stmts
  numbers_in Nothing = []
  numbers_in (Empty id) = id ∷ []
  numbers_in (ReturnNothing id) = id ∷ []
  numbers_in (DoWhile h s) = numbers_in s ++ h.id ∷ []
  numbers_in (For h s) = h.id ∷ (part_number h.first ++ part_number h.next ++ numbers_in s)
  numbers_in (Switch id e s) = id ∷ numbers_in s
  numbers_in (Case value s) = numbers_in s
  numbers_in (Label name s) = numbers_in s
  numbers_in (Goto id name) = id ∷ []
  numbers_in (Break id) = id ∷ []
  numbers_in (Continue id) = id ∷ []
  numbers_in (Initialise id base cleared items) = id ∷ []
  numbers_in (Assert id predicate) = id ∷ []

  pub all_numbers : Stmts → List ℕ
  all_numbers Done = []
  all_numbers (Next s more) = numbers_in s ++ all_numbers more

-- the numbers of a function's statements, and that of its closing brace
abbrev pub numbers_of : Function → List ℕ
numbers_of f = all_numbers f.body ++ f.end ∷ []

-- a function's numbers follow one another, and each is known to stand in the function
pub record IsNumberedFunction (p : Program) (f : Function) : Type 0 where
  pub first : ℕ
  pub low : 1 ≤ first
  pub follow : numbers_of f ≡ numbers_from first (length (numbers_of f))
  pub owned : AllByRecursion (λ n. slice_get p.owners (n - 1) ≡ Some f.base) (numbers_of f)

abbrev pub count_numbers : Function → ℕ
count_numbers f = length (numbers_of f)

-- there are no other numbers than those of the functions
pub record IsNumbered (p : Program) : Type 0 where
  pub functions : AllByRecursion (IsNumberedFunction p) p.functions
  pub all : sum (map count_numbers p.functions) ≡ length p.owners
