-- Structs, unions and enumerations (C11 6.7.2.1 to 6.7.2.3).
use Rattle.std.specs.Prelude.{ℕ, suc, ◌+◌, ◌==◌, ◌+ℤ◌, ℤ, pos, negsuc, Bool, true, false, cond, ◌||◌, not, List, [], ◌∷◌, ◌++◌, length, map, Option, None, Some, is_some, Result, Ok, Err, bytes_eq}
use Rattle.std.specs.List.{list_any}
use Rattle.c_base.specs.declared.integer.IntKind.TheVariants as kind
use Rattle.c_base.specs.declared.number.Span.{Span}
use Rattle.c_base.specs.declared.token.Keyword.{Keyword}
use Rattle.c_base.specs.Integers.{fits_kind}
use Rattle.c_types.specs.Types.{Extent}
use Rattle.c_types.specs.Sizes.{extent, closed}
use Rattle.c_tree.specs.Trees as tree
use Rattle.c_tree.specs.Trees.{Tree, Trees}
use Rattle.c_tree.specs.declared.tree.CompositeSort.{CompositeSort}
use Rattle.c_checking.specs.Faults.{Fault, fault, ◌>>=◌}
use Rattle.c_checking.specs.Qualified.{QType, Integer, Composite, Qualified, Q, type_in, is_constant, plain, further, is_function}
use Rattle.c_checking.specs.Scopes.{Scopes, Checked, with, TagMeaning, Composed, Enumerated, Tagged, newest_tag, tag_here, with_tag, same_sort, is_union_sort, State, Awaited, Open, Closed, Body, Member, Path, awaited, with_body, set_body, body_of, paths_in, erased_body, erased_member, has_constant, is_complete, declared_once, with_name, is_declared_here, Constant}
use Rattle.c_checking.specs.Specifiers.{is_small}

-- ---- tags

abbrev pub composite_at : ℕ → Qualified
composite_at number = plain (Composite number)

abbrev pub int : QType
int = Integer kind.Int

-- a tag that is new here
abbrev pub with_new : CompositeSort → List ℕ → Scopes → Scopes
with_new sort tag s = with_body (awaited tag sort) (with_tag tag (Composed sort (length s.bodies)) s)

-- rule 2: a tag is of one sort (C11 6.7.2.3p2)
abbrev pub composite_by : Span → CompositeSort → Scopes → TagMeaning → Checked Qualified
composite_by at sort s (Composed other number) = with s (cond (same_sort sort other) (Ok (composite_at number)) (fault 2 at))
composite_by at sort s (Enumerated complete) = fault 2 at

-- a tag without braces names what is declared, or declares it here (C11 6.7.2.3p8)
abbrev pub tagged_as : Span → CompositeSort → List ℕ → Scopes → Option Tagged → Checked Qualified
tagged_as at sort tag s None = Ok (composite_at (length s.bodies), with_new sort tag s)
tagged_as at sort tag s (Some t) = composite_by at sort s t.meaning

abbrev pub by_tag : Span → CompositeSort → List ℕ → Scopes → Checked Qualified
by_tag at sort tag s = tagged_as at sort tag s (newest_tag s.tags tag)

-- rule 5: an enumeration is complete where its tag stands without braces (C11 6.7.2.3p3)
abbrev pub enum_by : Span → TagMeaning → Result Qualified Fault
enum_by at (Enumerated true) = Ok (plain int)
enum_by at (Enumerated false) = fault 5 at
enum_by at (Composed sort number) = fault 2 at

abbrev pub enum_as : Span → Option Tagged → Result Qualified Fault
enum_as at None = fault 5 at
enum_as at (Some t) = enum_by at t.meaning

abbrev pub enum_tag : Span → List ℕ → Scopes → Result Qualified Fault
enum_tag at tag s = enum_as at (newest_tag s.tags tag)

-- ---- braces of a struct or union

abbrev pub opened_body : Body → Body
opened_body b = record b { state = Open }

abbrev pub is_awaited : Option Body → Bool
is_awaited None = false
is_awaited (Some b) = waits b.state
  where
    waits : State → Bool
    waits Awaited = true
    waits Open = false
    waits Closed = false

-- rule 2: the braces of a tag stand once in a scope (C11 6.7.2.3p1)
abbrev pub opened_by : Span → CompositeSort → List ℕ → Scopes → TagMeaning → Checked ℕ
opened_by at sort tag s (Enumerated complete) = fault 2 at
opened_by at sort tag s (Composed other number) =
    cond (same_sort sort other) (cond (is_awaited (body_of s number)) (Ok (number, set_body number (opened_body (awaited tag sort)) s)) (fault 2 at)) (fault 2 at)

abbrev pub opened_as : Span → CompositeSort → List ℕ → Scopes → Option Tagged → Checked ℕ
opened_as at sort tag s None =
    Ok (length s.bodies, with_body (opened_body (awaited tag sort)) (with_tag tag (Composed sort (length s.bodies)) s))
opened_as at sort tag s (Some t) = opened_by at sort tag s t.meaning

-- the number of what the braces are of
abbrev pub opened : Span → CompositeSort → Option (List ℕ) → Scopes → Checked ℕ
opened at sort None s = Ok (length s.bodies, with_body (opened_body (awaited [] sort)) s)
opened at sort (Some tag) s = opened_as at sort tag s (tag_here s tag)

-- ---- members

-- what stands in the braces so far
pub record Contents : Type 0 where
  pub members : List Member
  pub paths : List Path
  pub has_constant : Bool

abbrev pub nothing : Contents
nothing = record { members = []; paths = []; has_constant = false }

abbrev pub is_name : List ℕ → Path → Bool
is_name name p = bytes_eq p.name name

abbrev pub has_name : List Path → List ℕ → Bool
has_name paths name = list_any (is_name name) paths

abbrev pub may_not_change : Scopes → Qualified → Bool
may_not_change s q = is_constant q || has_constant s (type_in q)

abbrev pub with_member : Scopes → List ℕ → Qualified → List Path → Contents → Contents
with_member s name q paths c =
    record {
      members = c.members ++ record { name = name; qualified = q } ∷ [];
      paths = c.paths ++ paths;
      has_constant = c.has_constant || may_not_change s q;
    }

-- rule 6: no member is a function; rule 5: each has a size (C11 6.7.2.1p3); rule 2: names differ
abbrev pub member_added : Scopes → ℕ → Span → List ℕ → Qualified → Contents → Result Contents Fault
member_added s number at name q c =
    cond (has_name c.paths name) (fault 2 at)
    (cond (is_complete s (type_in q))
    (Ok (with_member s name q (record { name = name; steps = (number, length c.members) ∷ []; qualified = q } ∷ []) c))
    (cond (is_function (type_in q)) (fault 6 at) (fault 5 at)))

-- the members of a member without a name, as its own (C11 6.7.2.1p13)
abbrev pub by_way : ℕ × ℕ → Qualified → Path → Path
by_way step (Q c v t) p = record p { steps = step ∷ p.steps; qualified = further c v p.qualified }

abbrev pub any_twice : List Path → List Path → Bool
any_twice paths [] = false
any_twice paths (p ∷ more) = has_name paths p.name || any_twice paths more

abbrev pub nameless_added : Scopes → Span → Qualified → List Path → Contents → Result Contents Fault
nameless_added s at q paths c = cond (any_twice c.paths paths) (fault 2 at) (Ok (with_member s [] q paths c))

abbrev pub nameless_as : Scopes → ℕ → Span → Qualified → QType → Contents → Result Contents Fault
nameless_as s number at q (Composite inner) c = nameless_added s at q (map (by_way (number, length c.members) q) (paths_in (body_of s inner))) c
nameless_as s number at q _ c = fault 4 at

-- a member that only specifiers stand for has the braces of a struct or union without a tag; rule 4 otherwise (C11 6.7.2.1p2)
abbrev pub is_nameless : Trees → Bool
is_nameless tree.Nil = false
is_nameless (tree.Next (tree.Composite at sort attributes None members trailing) more) = true
is_nameless (tree.Next t more) = is_nameless more

abbrev pub nameless : Scopes → ℕ → Span → Trees → Qualified → Contents → Result Contents Fault
nameless s number at specifiers q c = cond (is_nameless specifiers) (nameless_as s number at q (type_in q) c) (fault 4 at)

-- ---- behind the closing brace (C11 6.7.2.1p8)

abbrev pub has_bytes : Option Extent → Bool
has_bytes None = false
has_bytes (Some e) = not (e.size == 0)

abbrev pub filled_body : Contents → Option Extent → Body → Body
filled_body c e b = record b { state = Closed; members = c.members; paths = c.paths; extent = e; has_constant = c.has_constant }

abbrev pub filled : ℕ → Contents → Option Extent → Scopes → Option Body → Scopes
filled number c e s None = s
filled number c e s (Some b) = set_body number (filled_body c e b) s

-- rule 6: it has bytes; rule 7: at most 2^60
abbrev pub closed_as : Span → ℕ → Contents → Scopes → Option Extent → Checked Qualified
closed_as at number c s e =
    cond (has_bytes e) (cond (is_small e) (Ok (composite_at number, filled number c e s (body_of s number))) (fault 7 at)) (fault 6 at)

abbrev pub extent_of_members : CompositeSort → Contents → Scopes → Option Extent
extent_of_members sort c s = closed (extent (map erased_body s.bodies) s.machine) (is_union_sort sort) (map erased_member c.members)

abbrev pub closed_body : Span → CompositeSort → ℕ → Contents → Scopes → Checked Qualified
closed_body at sort number c s = closed_as at number c s (extent_of_members sort c s)

-- ---- enumerations (C11 6.7.2.2)

abbrev pub enum_opened_as : Span → List ℕ → Scopes → Option Tagged → Result Scopes Fault
enum_opened_as at tag s None = Ok (with_tag tag (Enumerated false) s)
enum_opened_as at tag s (Some t) = fault 2 at

abbrev pub enum_opened : Span → Option (List ℕ) → Scopes → Result Scopes Fault
enum_opened at None s = Ok s
enum_opened at (Some tag) s = enum_opened_as at tag s (tag_here s tag)

abbrev pub enum_closed : Option (List ℕ) → Scopes → Scopes
enum_closed None s = s
enum_closed (Some tag) s = with_tag tag (Enumerated true) s

-- rule 8: an int (p2)
abbrev pub enumerator : Span → List ℕ → ℤ → Scopes → Result Scopes Fault
enumerator at name n s =
    cond (is_declared_here s name) (fault 2 at) (cond (fits_kind kind.Int s.machine n) (Ok (with_name name (Constant n) s)) (fault 8 at))

abbrev pub next_number : ℤ → ℤ
next_number n = n +ℤ pos 1
