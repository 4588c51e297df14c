-- What a type, a base or a statement of a program names is there.
use Rattle.std.specs.Prelude.{ℕ, ◌<◌, ◌≡◌, Bool, true, false, IsTrue, List, [], ◌∷◌, length, Option, None, Some, IsSome}
use Rattle.std.specs.List.{AllByRecursion, list_all}
use Rattle.c_types.specs.Types.{CType, CTypes, Void as void, Integer, Pointer, Array, Composite, Function as function, Nil, Next as NextType, Member, Composite'}
use Rattle.c_program.specs.declared.base.BaseSort.{BaseSort}
use Rattle.c_program.specs.declared.base.BaseSort.TheVariants.{Local, Formal}
use Rattle.c_program.specs.StaticCalls.{is_func}
use Rattle.c_program.specs.Syntax.{Stmt, If, While, Block, DoWhile, For, Switch, Case, Label, Stmts, Done, Next, Base, base_at, Function, function_at, Outside, Program}

abbrev pub IsNumber : {A : Type 0} → List A → ℕ → Type 0
IsNumber all n = n < length all

abbrev mutual
  pub AreNamed : Program → CType → Type 0
  AreNamed p void = Unit {0}
  AreNamed p (Integer kind) = Unit {0}
  AreNamed p (Pointer to) = AreNamed p to
  AreNamed p (Array of count) = AreNamed p of
  AreNamed p (Composite number) = IsNumber p.composites number
  AreNamed p (function result params variadic) = AreNamed p result × AreAllNamed p params

  pub AreAllNamed : Program → CTypes → Type 0
  AreAllNamed p Nil = Unit {0}
  AreAllNamed p (NextType t more) = AreNamed p t × AreAllNamed p more

abbrev pub IsNamedMember : Program → Member → Type 0
IsNamedMember p m = AreNamed p m.ctype

abbrev pub IsNamedComposite : Program → Composite' → Type 0
IsNamedComposite p c = AllByRecursion (IsNamedMember p) c.members

abbrev pub IsNamedBase : Program → Base → Type 0
IsNamedBase p b = AreNamed p b.ctype

abbrev pub is_of_sort : (BaseSort → Bool) → Option Base → Bool
is_of_sort test None = false
is_of_sort test (Some b) = test b.sort

abbrev pub is_local : BaseSort → Bool
is_local Local = true
is_local sort = false

abbrev pub is_formal : BaseSort → Bool
is_formal Formal = true
is_formal sort = false

abbrev pub is_sort_at : Program → (BaseSort → Bool) → ℕ → Bool
is_sort_at p test base = is_of_sort test (base_at p.bases base)

-- objects of blocks are local
abbrev mutual
  pub HasLocals : Program → Stmt → Type 0
  HasLocals p (If id e s t) = HasLocals p s × HasLocals p t
  HasLocals p (While id e s) = HasLocals p s
  HasLocals p (Block bases stmts) = IsTrue (list_all (is_sort_at p is_local) bases) × HaveLocals p stmts
  HasLocals p (DoWhile h s) = HasLocals p s
  HasLocals p (For h s) = HasLocals p s
  HasLocals p (Switch id e s) = HasLocals p s
  HasLocals p (Case value s) = HasLocals p s
  HasLocals p (Label name s) = HasLocals p s
  HasLocals p s = Unit {0}

  pub HaveLocals : Program → Stmts → Type 0
  HaveLocals p Done = Unit {0}
  HaveLocals p (Next s more) = HasLocals p s × HaveLocals p more

pub record IsNamedFunction (p : Program) (f : Function) : Type 0 where
  pub base : IsTrue (is_sort_at p is_func f.base)
  pub formals : IsTrue (list_all (is_sort_at p is_formal) f.formals)
  pub locals : IsTrue (list_all (is_sort_at p is_local) f.locals)
  pub blocks : HaveLocals p f.body

abbrev pub IsNamedOutside : Program → Outside → Type 0
IsNamedOutside p f = IsTrue (is_sort_at p is_func f.base)

abbrev pub IsOwner : Program → ℕ → Type 0
IsOwner p base = IsSome (function_at p.functions base)

pub record IsNamed (p : Program) : Type 0 where
  pub composites : AllByRecursion (IsNamedComposite p) p.composites
  pub bases : AllByRecursion (IsNamedBase p) p.bases
  pub functions : AllByRecursion (IsNamedFunction p) p.functions
  pub outside : AllByRecursion (IsNamedOutside p) p.outside
  pub owners : AllByRecursion (IsOwner p) p.owners
  pub numbered : length p.owners ≡ length p.spans
