-- What is declared where an expression stands: names, tags, and the structs and unions by number (C11 6.2.1, 6.2.3).
use Rattle.std.specs.Prelude.{ℕ, suc, ◌+◌, ◌==◌, cond, Bool, true, false, ◌||◌, length, ◌++◌, map, slice_get, slice_set, List, [], ◌∷◌, Option, None, Some, option_map, is_some, bytes_eq, ℤ, Result, Ok, Err}
use Rattle.c_base.specs.declared.integer.Machine.{Machine}
use Rattle.c_base.specs.declared.number.Span.{Span}
use Rattle.c_types.specs.Types as types
use Rattle.c_types.specs.Types.{Extent}
use Rattle.c_types.specs.Sizes.{extent}
use Rattle.c_tree.specs.declared.tree.CompositeSort.{CompositeSort}
use Rattle.c_tree.specs.declared.tree.CompositeSort.TheVariants as sort
use Rattle.c_checking.specs.Faults.{Fault, fault, ◌>>=◌}
use Rattle.c_checking.specs.Qualified.{QType, Void, Integer, Pointer, Array, Composite, Function, Qualified, Q, type_in, is_constant, is_volatile, further, erased, erased_in}

-- ---- names

-- what a name stands for: an object or function, by its number; an enumerator; or a type
pub data Meaning : Type 0 where
  Object : ℕ → Qualified → Meaning
  Constant : ℤ → Meaning
  TypeName : Qualified → Meaning

-- a declaration, and how many scopes stand around it
pub record Named : Type 0 where
  pub name : List ℕ
  pub level : ℕ
  pub meaning : Meaning

-- what a tag stands for: a struct or union by its number, or an enumeration, which is complete behind its braces
pub data TagMeaning : Type 0 where
  Composed : CompositeSort → ℕ → TagMeaning
  Enumerated : Bool → TagMeaning

pub record Tagged : Type 0 where
  pub tag : List ℕ
  pub level : ℕ
  pub meaning : TagMeaning

-- ---- structs and unions

pub record Member : Type 0 where
  pub name : List ℕ
  pub qualified : Qualified

-- how a member is reached by its name: by way of members without a name, each of which is the member of a struct or union, both by number
-- (C11 6.7.2.1p13)
pub record Path : Type 0 where
  pub name : List ℕ
  pub steps : List (ℕ × ℕ)
  pub qualified : Qualified

-- no braces yet, inside them, and behind them (C11 6.7.2.1p8)
pub data State : Type 0 where
  Awaited : State
  Open : State
  Closed : State

pub record Body : Type 0 where
  pub name : List ℕ
  pub is_union : Bool
  pub state : State
  pub members : List Member
  pub paths : List Path
  pub extent : Option Extent
  -- a member, or a part of one, is `const`
  pub has_constant : Bool

abbrev pub erased_member : Member → types.Member
erased_member m = record { name = m.name; ctype = erased_in m.qualified; volatile = is_volatile m.qualified }

abbrev pub erased_body : Body → types.Composite'
erased_body b = record { name = b.name; is_union = b.is_union; members = map erased_member b.members; extent = b.extent }

-- ---- all of it

-- a string literal that has got a number
pub record Text : Type 0 where
  pub base : ℕ
  pub bytes : List ℕ

-- The newest names and tags stand first. Numbers of objects, functions and string literals go by first mention, and those of call sites by
-- the places of their `(`.
pub record Scopes : Type 0 where
  pub machine : Machine
  pub level : ℕ
  pub names : List Named
  pub tags : List Tagged
  pub bodies : List Body
  pub texts : List Text
  pub next_base : ℕ
  pub next_site : ℕ

-- an answer with what is declared behind it
abbrev pub Checked : Type 0 → Type 0
Checked A = Result (A × Scopes) Fault

abbrev pub with : {A : Type 0} → Scopes → Result A Fault → Checked A
with s (Ok x) = Ok (x, s)
with s (Err e) = Err e

abbrev pub entered : Scopes → Scopes
entered s = record s { level = suc s.level }

-- back to the scope before: the names and tags that were declared since are gone (C11 6.2.1p4)
abbrev pub left : Scopes → Scopes → Scopes
left before s = record s { level = before.level; names = before.names; tags = before.tags }

-- ---- look-ups

-- the newest declaration of a name (C11 6.2.1p4)
abbrev pub newest : List Named → List ℕ → Option Named
newest [] name = None
newest (n ∷ more) name = cond (bytes_eq n.name name) (Some n) (newest more name)

abbrev pub newest_tag : List Tagged → List ℕ → Option Tagged
newest_tag [] tag = None
newest_tag (t ∷ more) tag = cond (bytes_eq t.tag tag) (Some t) (newest_tag more tag)

abbrev pub only_at : ℕ → Option Tagged → Option Tagged
only_at level None = None
only_at level (Some t) = cond (t.level == level) (Some t) None

-- the declaration of a tag in the present scope
abbrev pub tag_here : Scopes → List ℕ → Option Tagged
tag_here s tag = only_at s.level (newest_tag s.tags tag)

abbrev pub is_at : ℕ → Option Named → Bool
is_at level None = false
is_at level (Some n) = n.level == level

-- the present scope has a declaration of the name already
abbrev pub is_declared_here : Scopes → List ℕ → Bool
is_declared_here s name = is_at s.level (newest s.names name)

-- ---- declarations

abbrev pub with_name : List ℕ → Meaning → Scopes → Scopes
with_name name meaning s = record s { names = record { name = name; level = s.level; meaning = meaning } ∷ s.names }

-- rule 2: what has no linkage is declared once in a scope (C11 6.7p3)
abbrev pub declared_once : Span → List ℕ → Meaning → Scopes → Result Scopes Fault
declared_once at name meaning s = cond (is_declared_here s name) (fault 2 at) (Ok (with_name name meaning s))

abbrev pub with_tag : List ℕ → TagMeaning → Scopes → Scopes
with_tag tag meaning s = record s { tags = record { tag = tag; level = s.level; meaning = meaning } ∷ s.tags }

abbrev pub is_union_sort : CompositeSort → Bool
is_union_sort sort.Struct = false
is_union_sort sort.Union = true

abbrev pub same_sort : CompositeSort → CompositeSort → Bool
same_sort a b = cond (is_union_sort a) (is_union_sort b) (cond (is_union_sort b) false true)

abbrev pub awaited : List ℕ → CompositeSort → Body
awaited name s = record { name = name; is_union = is_union_sort s; state = Awaited; members = []; paths = []; extent = None; has_constant = false }

-- a struct or union more, whose number is how many there were
abbrev pub with_body : Body → Scopes → Scopes
with_body b s = record s { bodies = s.bodies ++ b ∷ [] }

abbrev pub set_body : ℕ → Body → Scopes → Scopes
set_body n b s = record s { bodies = slice_set s.bodies n b }

-- a string literal gets the next number, and the zero byte behind its bytes (C11 6.4.5p6)
abbrev pub with_text : List ℕ → Scopes → Scopes
with_text bytes s = record s { texts = s.texts ++ record { base = s.next_base; bytes = bytes } ∷ []; next_base = suc s.next_base }

abbrev pub with_site : Scopes → Scopes
with_site s = record s { next_site = suc s.next_site }

-- ---- what types take

abbrev pub extent_of : Scopes → QType → Option Extent
extent_of s t = extent (map erased_body s.bodies) s.machine (erased t)

-- what has a size (C11 6.2.5p1)
abbrev pub is_complete : Scopes → QType → Bool
is_complete s t = is_some (extent_of s t)

abbrev pub body_of : Scopes → ℕ → Option Body
body_of s number = slice_get s.bodies number

abbrev pub paths_in : Option Body → List Path
paths_in None = []
paths_in (Some b) = b.paths

abbrev pub path_to : List Path → List ℕ → Option Path
path_to [] name = None
path_to (p ∷ more) name = cond (bytes_eq p.name name) (Some p) (path_to more name)

-- the member of that name
abbrev pub member_of : Scopes → ℕ → List ℕ → Option Path
member_of s number name = path_to (paths_in (body_of s number)) name

abbrev pub has_constant_in : Option Body → Bool
has_constant_in None = false
has_constant_in (Some b) = b.has_constant

-- an object of the type is `const`, or a part of it is (C11 6.3.2.1p1)
abbrev pub has_constant : Scopes → QType → Bool
has_constant s (Composite number) = has_constant_in (body_of s number)
has_constant s (Array (Q c v t) count) = c || has_constant s t
has_constant s _ = false
