-- The type of each term, and which predicates and contracts are well typed. Terms are integers without bound, or pointers.
use Rattle.std.specs.Prelude.{ℕ, suc, ◌==◌, nat_lt, Bool, true, false, not, cond, ◌&&◌, ◌||◌, List, [], ◌∷◌, ℤ, Option, None, Some, is_some, option_map, slice_get}
use Rattle.std.specs.List.{list_all}
use Rattle.c_base.specs.declared.integer.IntKind.{IntKind}
use Rattle.c_base.specs.declared.operators.BinOp.{BinOp}
use Rattle.c_base.specs.declared.operators.BinOp.TheVariants.{Add, Sub, Mul, Div, Rem}
use Rattle.c_base.specs.declared.operators.Rel.{Rel}
use Rattle.c_base.specs.declared.operators.Rel.TheVariants.{Eq, Ne}
use Rattle.c_types.specs.Types.{CType, Void, Integer, Pointer, Array, Composite, Function}
use Rattle.c_types.specs.Compatible.{is_compatible}
use Rattle.c_typed_term.specs.Terms as term
use Rattle.c_typed_term.specs.Terms.{Sort, Numbers, Pointers, ToPointer, Term, Place, PointersTo, Relation, Bounds, Predicate, Assigns, Behaviour, Contract}
use Rattle.c_program.specs.Syntax.{Base, base_at, Program}
use Rattle.c_program.specs.Typing.{if_so, ◌>>=◌, is_complete, is_void, element_type, member_type, is_addressed_as}

-- what a term is
pub data TermType : Type 0 where
  Whole : TermType
  To : CType → TermType

abbrev pub is_whole : TermType → Bool
is_whole Whole = true
is_whole (To t) = false

abbrev pub points_to : CType → TermType → Bool
points_to t Whole = false
points_to t (To s) = is_compatible s t || (is_void s || is_void t)

-- what a value of a scalar type is
abbrev pub term_type_in : CType → Option TermType
term_type_in (Integer kind) = Some Whole
term_type_in (Pointer to) = Some (To to)
term_type_in t = None

abbrev pub is_arithmetic : BinOp → Bool
is_arithmetic Add = true
is_arithmetic Sub = true
is_arithmetic Mul = true
is_arithmetic Div = true
is_arithmetic Rem = true
is_arithmetic op = false

abbrev pub is_sum : BinOp → Bool
is_sum Add = true
is_sum Sub = true
is_sum op = false

abbrev pub is_equality : Rel → Bool
is_equality Eq = true
is_equality Ne = true
is_equality relation = false

-- The program, the type of `\result` where it may stand, and the types of the slots that may be read.
module _ (p : Program) (result : Option CType) (slots : List CType) where
  -- the types of operands by their sort
  abbrev pub operator_term : BinOp → Sort → TermType → TermType → Option TermType
  operator_term op Numbers a b = if_so (is_arithmetic op && (is_whole a && is_whole b)) Whole
  operator_term op (term.Pointer t) a b = if_so (is_sum op && (points_to t a && (is_whole b && is_complete p t))) (To t)
  operator_term Add (ToPointer t) a b = if_so (is_whole a && (points_to t b && is_complete p t)) (To t)
  operator_term op (ToPointer t) a b = None
  operator_term Sub (Pointers t) a b = if_so (points_to t a && (points_to t b && is_complete p t)) Whole
  operator_term op (Pointers t) a b = None

  abbrev pub same_slot : CType → Option CType → Option CType
  same_slot t None = None
  same_slot t (Some s) = if_so (is_compatible s t) t

  abbrev pub target_of : CType → TermType → Option CType
  target_of t s = if_so (points_to t s && not (is_void t)) t

  -- below so many quantifiers
  abbrev mutual
    pub term_type : ℕ → Term → Option TermType
    term_type depth (term.Number n) = Some Whole
    term_type depth (term.Bound n) = if_so (nat_lt n depth) Whole
    term_type depth term.Null = Some (To Void)
    term_type depth (term.Negate t) = do
      s ← term_type depth t
      if_so (is_whole s) Whole
    term_type depth (term.Operator op sort s t) = do
      a ← term_type depth s
      b ← term_type depth t
      operator_term op sort a b
    term_type depth (term.Value t q) = do
      s ← term_place depth q
      r ← term_type_in t
      if_so (is_compatible s t) r
    term_type depth (term.Address t q) = do
      s ← term_place depth q
      if_so (is_addressed_as p s t) (To t)
    term_type depth (term.Cast kind t) = do
      s ← term_type depth t
      Some Whole
    term_type depth (term.At when t) = term_type depth t

    pub term_place : ℕ → Place → Option CType
    term_place depth (term.Object base) = option_map (λ b. b.ctype) (base_at p.bases base)
    term_place depth (term.Formal base) = option_map (λ b. b.ctype) (base_at p.bases base)
    term_place depth (term.Pointed t type) = do
      s ← term_type depth t
      target_of type s
    term_place depth (term.Result type) = same_slot type result
    term_place depth (term.Slot n type) = same_slot type (slice_get slots n)
    term_place depth (term.Member q c m) = do
      s ← term_place depth q
      t ← member_type p (slice_get p.composites c) m
      if_so (is_compatible s (Composite c)) t
    term_place depth (term.Element q t type n) = do
      s ← term_place depth q
      i ← term_type depth t
      r ← element_type p s type n
      if_so (is_whole i) r

  abbrev pub is_whole_term : ℕ → Term → Bool
  is_whole_term depth t = by_type (term_type depth t)
    where
      by_type : Option TermType → Bool
      by_type None = false
      by_type (Some s) = is_whole s

  abbrev pub is_range : ℕ → Option (Term × Term) → Bool
  is_range depth None = true
  is_range depth (Some r) = is_whole_term depth r.0 && is_whole_term depth r.1

  -- pointers to a complete object type
  abbrev pub are_pointers : ℕ → PointersTo → Bool
  are_pointers depth q = by_type (term_type depth q.first) && (is_complete p q.ctype && is_range depth q.range)
    where
      by_type : Option TermType → Bool
      by_type None = false
      by_type (Some s) = points_to q.ctype s

  abbrev pub suits_relation : Rel → Sort → TermType → TermType → Bool
  suits_relation relation Numbers a b = is_whole a && is_whole b
  suits_relation relation (Pointers t) a b = points_to t a && (points_to t b && (not (is_void t) || is_equality relation))
  suits_relation relation sort a b = false

  -- a relation suits the terms on both of its sides
  abbrev pub relates : Relation → Option TermType → Option TermType → Bool
  relates r None b = false
  relates r (Some a) None = false
  relates r (Some a) (Some b) = suits_relation r.relation r.sort a b

  -- relations that each hold between neighbours
  abbrev pub are_related : ℕ → Option TermType → List Relation → Bool
  are_related depth a [] = is_some a
  are_related depth a (r ∷ more) = relates r a (term_type depth r.right) && are_related depth (term_type depth r.right) more

  abbrev pub are_bounds : ℕ → Bounds → Bool
  are_bounds depth b = is_whole_term depth b.low && is_whole_term depth b.high

  abbrev pub is_predicate : ℕ → Predicate → Bool
  is_predicate depth (term.Truth t) = true
  is_predicate depth (term.Related first more) = are_related depth (term_type depth first) more
  is_predicate depth (term.Not q) = is_predicate depth q
  is_predicate depth (term.And q r) = is_predicate depth q && is_predicate depth r
  is_predicate depth (term.Or q r) = is_predicate depth q && is_predicate depth r
  is_predicate depth (term.Implies q r) = is_predicate depth q && is_predicate depth r
  is_predicate depth (term.Equivalent q r) = is_predicate depth q && is_predicate depth r
  is_predicate depth (term.Choice t q r) = is_whole_term depth t && (is_predicate depth q && is_predicate depth r)
  is_predicate depth (term.Access sort pointers) = are_pointers depth pointers
  is_predicate depth (term.Separated all) = list_all (are_pointers depth) all
  is_predicate depth (term.ForAll b q) = are_bounds depth b && is_predicate (suc depth) q
  is_predicate depth (term.Exists b q) = are_bounds depth b && is_predicate (suc depth) q

  abbrev pub are_predicates : List Predicate → Bool
  are_predicates = list_all (is_predicate 0)

  abbrev pub are_sources : Option (List Term) → Bool
  are_sources None = true
  are_sources (Some all) = list_all has_type all
    where
      has_type : Term → Bool
      has_type t = by_type (term_type 0 t)
        where
          by_type : Option TermType → Bool
          by_type None = false
          by_type (Some s) = true

  abbrev pub is_assigns : Assigns → Bool
  is_assigns a = list_all (are_pointers 0) a.locations && are_sources a.sources

-- preconditions have no `\result`
abbrev pub is_behaviour : Program → Option CType → List CType → Behaviour → Bool
is_behaviour p result slots b =
    are_predicates p None slots b.assumptions
    && (are_predicates p None slots b.preconditions && are_predicates p result slots b.postconditions)

abbrev pub is_contract : Program → Option CType → List CType → Contract → Bool
is_contract p result slots c =
    are_predicates p None slots c.preconditions
    && (list_all (is_assigns p result slots) c.assigns
    && (are_predicates p result slots c.postconditions && list_all (is_behaviour p result slots) c.behaviours))
