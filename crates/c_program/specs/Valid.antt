-- Programs whose parts fit together: what the laws of their runs stand on.
use Rattle.std.specs.Prelude.{ℕ, ◌≡◌, ◌==◌, ◌||◌, ◌++◌, Bool, false, IsTrue, List, [], IsSome}
use Rattle.std.specs.List.{list_any, AllByRecursion}
use Rattle.c_program.specs.Syntax.{Stmt, If, While, Block, DoWhile, For, Switch, Case, Label, Stmts, Done, Next, static_base, base_at, Function, function_at, Program}

abbrev pub is_among : List ℕ → ℕ → Bool
is_among bases base = list_any (λ b. base == b) bases

-- the base lives already where these objects live
abbrev pub is_taken : Program → List ℕ → ℕ → Bool
is_taken p outer base = is_among outer base || static_base (base_at p.bases base)

-- objects of a scope: none of them is static, and none is an object of the scopes around
pub record AreNew (p : Program) (outer bases : List ℕ) : Type 0 where
  pub each : (base : ℕ) → IsTrue (is_among bases base) → is_taken p outer base ≡ false

-- so are the objects of all blocks in a statement
abbrev mutual
  pub IsScoped : Program → List ℕ → Stmt → Type 0
  IsScoped p outer (If id e s t) = IsScoped p outer s × IsScoped p outer t
  IsScoped p outer (While id e s) = IsScoped p outer s
  IsScoped p outer (Block bases stmts) = AreNew p outer bases × AreScoped p (bases ++ outer) stmts
  IsScoped p outer (DoWhile h s) = IsScoped p outer s
  IsScoped p outer (For h s) = IsScoped p outer s
  IsScoped p outer (Switch id e s) = IsScoped p outer s
  IsScoped p outer (Case value s) = IsScoped p outer s
  IsScoped p outer (Label name s) = IsScoped p outer s
  IsScoped p outer s = Unit {0}

  pub AreScoped : Program → List ℕ → Stmts → Type 0
  AreScoped p outer Done = Unit {0}
  AreScoped p outer (Next s more) = IsScoped p outer s × AreScoped p outer more

pub record IsValidFunction (p : Program) (f : Function) : Type 0 where
  pub objects : AreNew p [] (f.formals ++ f.locals)
  pub body : AreScoped p (f.formals ++ f.locals) f.body

-- objects that belong to the function f
abbrev pub AreOf : (ℕ → ℕ) → ℕ → List ℕ → Type 0
AreOf owner f bases = (base : ℕ) → IsTrue (is_among bases base) → owner base ≡ f

-- so do the objects of all blocks in a statement
abbrev mutual
  pub HasOwn : (ℕ → ℕ) → ℕ → Stmt → Type 0
  HasOwn owner f (If id e s t) = HasOwn owner f s × HasOwn owner f t
  HasOwn owner f (While id e s) = HasOwn owner f s
  HasOwn owner f (Block bases stmts) = AreOf owner f bases × HaveOwn owner f stmts
  HasOwn owner f (DoWhile h s) = HasOwn owner f s
  HasOwn owner f (For h s) = HasOwn owner f s
  HasOwn owner f (Switch id e s) = HasOwn owner f s
  HasOwn owner f (Case value s) = HasOwn owner f s
  HasOwn owner f (Label name s) = HasOwn owner f s
  HasOwn owner f s = Unit {0}

  pub HaveOwn : (ℕ → ℕ) → ℕ → Stmts → Type 0
  HaveOwn owner f Done = Unit {0}
  HaveOwn owner f (Next s more) = HasOwn owner f s × HaveOwn owner f more

pub record OwnsObjects (owner : ℕ → ℕ) (f : Function) : Type 0 where
  pub scope : AreOf owner f.base (f.formals ++ f.locals)
  pub blocks : HaveOwn owner f.base f.body

-- the entry has a body, and each object of a function or of its blocks is new there and belongs to that function alone
pub record IsValid (p : Program) : Type 0 where
  pub entry : IsSome (function_at p.functions p.entry)
  pub functions : AllByRecursion (IsValidFunction p) p.functions
  pub owner : ℕ → ℕ
  pub owned : AllByRecursion (OwnsObjects owner) p.functions
