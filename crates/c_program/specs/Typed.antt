-- Expressions, statements and annotations of a program have their types.
use Rattle.std.specs.Prelude.{ℕ, Bool, true, false, IsTrue, ◌&&◌, List, [], ◌∷◌, Option, None, Some, option_map}
use Rattle.std.specs.List.{list_all}
use Rattle.c_types.specs.Types.{CType, CTypes, Void as void, Nil, Next as NextType}
use Rattle.c_types.specs.Compatible.{is_compatible, signature_of}
use Rattle.c_typed_term.specs.Terms.{Predicate, Contract}
use Rattle.c_program.specs.Typing.{type_of, place_type, is_integer, is_value_type}
use Rattle.c_program.specs.TermTyping.{is_predicate, is_contract}
use Rattle.c_program.specs.Syntax.{Expr, Numbered, Head, Item, Value, Content, Stmt, Expression, Return, If, While, Block, Nothing, Empty, ReturnNothing, DoWhile, For, Switch, Case, Label, Goto, Break, Continue, Initialise, Assert, Stmts, Done, Next, Base, base_at, Function, Outside, Program}

abbrev pub has_type : (CType → Bool) → Option CType → Bool
has_type test None = false
has_type test (Some t) = test t

abbrev pub is_condition : Program → Expr → Bool
is_condition p e = has_type is_integer (type_of p e)

abbrev pub is_typed : Program → Expr → Bool
is_typed p e = has_type is_value_type (type_of p e)

abbrev pub has_this_type : Program → CType → Expr → Bool
has_this_type p t e = has_type (λ s. is_compatible s t) (type_of p e)

abbrev pub are_here : Program → List Predicate → Bool
are_here p all = list_all (is_predicate p None [] 0) all

abbrev pub where_some : {A : Type 0} → (A → Bool) → Option A → Bool
where_some test None = true
where_some test (Some a) = test a

abbrev pub is_typed_head : Program → Head → Bool
is_typed_head p h =
    where_some (λ n. is_typed p n.value) h.first
    && (are_here p h.invariants
    && (where_some (is_condition p) h.condition && where_some (λ n. is_typed p n.value) h.next))

-- what an item stores has the type of the place
abbrev pub is_typed_item : Program → Item → Bool
is_typed_item p (Value t q e) = has_type (λ s. is_compatible s t) (place_type p q) && has_this_type p t e
is_typed_item p (Content image) = true

-- The result of the function in which the statements stand.
module _ (p : Program) (result : CType) where
  abbrev pub is_returned : Expr → Bool
  is_returned e = has_this_type p result e

  abbrev pub is_void_result : CType → Bool
  is_void_result void = true
  is_void_result t = false

  abbrev mutual
    pub is_typed_stmt : Stmt → Bool
    is_typed_stmt (Expression id e) = is_typed p e
    is_typed_stmt (Return id e) = is_returned e
    is_typed_stmt (If id e s t) = is_condition p e && (is_typed_stmt s && is_typed_stmt t)
    is_typed_stmt (While id e s) = is_condition p e && is_typed_stmt s
    is_typed_stmt (Block bases stmts) = are_typed stmts
    is_typed_stmt Nothing = true
    is_typed_stmt (Empty id) = true
    is_typed_stmt (ReturnNothing id) = is_void_result result
    is_typed_stmt (DoWhile h s) = is_typed_head p h && is_typed_stmt s
    is_typed_stmt (For h s) = is_typed_head p h && is_typed_stmt s
    is_typed_stmt (Switch id e s) = is_condition p e && is_typed_stmt s
    is_typed_stmt (Case value s) = is_typed_stmt s
    is_typed_stmt (Label name s) = is_typed_stmt s
    is_typed_stmt (Goto id name) = true
    is_typed_stmt (Break id) = true
    is_typed_stmt (Continue id) = true
    is_typed_stmt (Initialise id base cleared items) = list_all (is_typed_item p) items
    is_typed_stmt (Assert id q) = is_predicate p None [] 0 q

    pub are_typed : Stmts → Bool
    are_typed Done = true
    are_typed (Next s more) = is_typed_stmt s && are_typed more

abbrev pub types_in : CTypes → List CType
types_in Nil = []
types_in (NextType t more) = t ∷ types_in more

-- the type of a function at a base
abbrev pub signature_at : Program → ℕ → Option (CType × CTypes × Bool)
signature_at p base = by_base (base_at p.bases base)
  where
    by_base : Option Base → Option (CType × CTypes × Bool)
    by_base None = None
    by_base (Some b) = signature_of b.ctype

-- the formals have the types of the parameters
abbrev pub are_formals : Program → List ℕ → CTypes → Bool
are_formals p [] Nil = true
are_formals p [] (NextType t more) = false
are_formals p (base ∷ bases) Nil = false
are_formals p (base ∷ bases) (NextType t more) =
    has_type (λ s. is_compatible s t) (option_map (λ b. b.ctype) (base_at p.bases base)) && are_formals p bases more

abbrev pub is_typed_contract : Program → Option CType → List CType → Option Contract → Bool
is_typed_contract p result slots contract = where_some (is_contract p result slots) contract

abbrev pub is_typed_function : Program → Function → Bool
is_typed_function p f = by_signature (signature_at p f.base)
  where
    by_signature : Option (CType × CTypes × Bool) → Bool
    by_signature None = false
    by_signature (Some s) =
        is_value_type s.0 && (are_formals p f.formals s.1 && (are_typed p s.0 f.body && is_typed_contract p (Some s.0) [] f.contract))

abbrev pub is_typed_outside : Program → Outside → Bool
is_typed_outside p f = by_signature (signature_at p f.base)
  where
    by_signature : Option (CType × CTypes × Bool) → Bool
    by_signature None = false
    by_signature (Some s) = is_value_type s.0 && is_typed_contract p (Some s.0) (types_in s.1) f.contract

pub record IsTyped (p : Program) : Type 0 where
  pub functions : IsTrue (list_all (is_typed_function p) p.functions)
  pub outside : IsTrue (list_all (is_typed_outside p) p.outside)
