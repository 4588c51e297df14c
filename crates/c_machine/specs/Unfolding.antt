-- The work that expressions and initialisers unfold to.
use Rattle.std.specs.Prelude.{ℕ, zero, suc, Bool, true, false, cond, List, [], ◌∷◌, ◌++◌, Option, None, Some, slice_get}
use Rattle.c_base.specs.declared.operators.BinOp.{BinOp}
use Rattle.c_memory.specs.declared.scalar.Scalar.{Scalar}
use Rattle.c_types.specs.Types.{CType, Integer, Composite', Member as MemberType, scalar_of}
use Rattle.c_program.specs.Syntax.{Lvalue, Variable, Pointed, Temporary, Member, Element, ElementOf, Expr, LoadCells, Exprs, NoExpr, NextExpr, Item, Value, Content, Base, base_at, Program}
use Rattle.c_machine.specs.Work.{Work, Evaluate, Locate, Fetch, Store, Apply, Sample, StoreCells, CopyCells, Change, ApplyPointers, Again, Tuck, Increase, Drop, Put, Paste}

-- ---- volatile objects (C11 6.7.3p7)

abbrev pub volatile_base : Option Base → Bool
volatile_base None = false
volatile_base (Some b) = b.volatile

abbrev pub is_volatile_member : Option MemberType → Bool
is_volatile_member None = false
is_volatile_member (Some member) = member.volatile

abbrev pub volatile_member : Option Composite' → ℕ → Bool
volatile_member None m = false
volatile_member (Some c) m = is_volatile_member (slice_get c.members m)

abbrev pub is_volatile : Program → Lvalue → Bool
is_volatile p (Variable base) = volatile_base (base_at p.bases base)
is_volatile p (Pointed e t volatile) = volatile
is_volatile p (Temporary e t) = false
is_volatile p (Member q c m) = cond (is_volatile p q) true (volatile_member (slice_get p.composites c) m)
is_volatile p (Element q e t n end) = is_volatile p q
is_volatile p (ElementOf e q t n end) = is_volatile p q

-- a load of a volatile object is a choice
abbrev pub fetched_by : Program → Lvalue → Scalar → Work
fetched_by p q type = cond (is_volatile p q) (Sample type) (Fetch type)

-- ---- structs and unions

-- a part of a value without a place
abbrev pub is_temporary : Lvalue → Bool
is_temporary (Variable base) = false
is_temporary (Pointed e t volatile) = false
is_temporary (Temporary e t) = true
is_temporary (Member q c m) = is_temporary q
is_temporary (Element q e t n end) = is_temporary q
is_temporary (ElementOf e q t n end) = is_temporary q

-- An assignment of a struct or union copies from an lvalue, and stores the cells of another value (C11 6.5.16.1p3).
abbrev pub source_work : Bool → CType → Expr → Expr → List Work → List Work
source_work named t value (LoadCells u q) rest =
    cond (is_temporary q) (Evaluate value ∷ StoreCells named t ∷ rest) (Locate q ∷ CopyCells named t ∷ rest)
source_work named t value e rest = Evaluate value ∷ StoreCells named t ∷ rest

abbrev pub cells_work : Bool → CType → Lvalue → Expr → List Work → List Work
cells_work named t q e rest = Locate q ∷ source_work named t e e rest

-- ---- arguments

abbrev pub arguments_work : Exprs → List Work → List Work
arguments_work NoExpr rest = rest
arguments_work (NextExpr e more) rest = Evaluate e ∷ arguments_work more rest

abbrev pub count : Exprs → ℕ
count NoExpr = zero
count (NextExpr e more) = suc (count more)

-- ---- initialisers

abbrev pub value_work : Option Scalar → CType → Lvalue → Expr → List Work → List Work
value_work (Some type) t q e rest = Locate q ∷ Evaluate e ∷ Put type ∷ Drop ∷ rest
value_work None t q e rest = cells_work true t q e (Drop ∷ rest)

-- the items one after the other, in source order
abbrev pub items_work : ℕ → List Item → List Work → List Work
items_work base [] rest = rest
items_work base (Value t q e ∷ more) rest = value_work (scalar_of t) t q e (items_work base more rest)
items_work base (Content image ∷ more) rest = Paste base image ∷ items_work base more rest

-- ---- compound assignment, `++` and `--` (C11 6.5.16.2, 6.5.3.1, 6.5.2.4)

abbrev pub operator_work : BinOp → CType → CType → Work
operator_work op (Integer kind) (Integer other) = Apply op kind
operator_work op left right = ApplyPointers op left right

-- the place is found once: loaded, combined with the operand, converted back, stored
abbrev pub compound_by : Program → Option Scalar → BinOp → CType → CType → CType → Lvalue → Expr → List Work → List Work
compound_by p None op t left right q e rest = Evaluate e ∷ rest
compound_by p (Some type) op t left right q e rest =
    Locate q ∷ Again ∷ fetched_by p q type ∷ Change left ∷ Evaluate e ∷ operator_work op left right ∷ Change t ∷ Store type ∷ rest

abbrev pub compound_work : Program → BinOp → CType → CType → CType → Lvalue → Expr → List Work → List Work
compound_work p op t left right q e rest = compound_by p (scalar_of t) op t left right q e rest

-- behind its operand the value is what was there before
abbrev pub stepped_by : Program → Option Scalar → Bool → Bool → CType → Lvalue → List Work → List Work
stepped_by p None up behind t q rest = Locate q ∷ rest
stepped_by p (Some type) up true t q rest =
    Locate q ∷ Again ∷ fetched_by p q type ∷ Tuck ∷ Increase up t ∷ Store type ∷ Drop ∷ rest
stepped_by p (Some type) up false t q rest = Locate q ∷ Again ∷ fetched_by p q type ∷ Increase up t ∷ Store type ∷ rest

abbrev pub step_work : Program → Bool → Bool → CType → Lvalue → List Work → List Work
step_work p up behind t q rest = stepped_by p (scalar_of t) up behind t q rest
