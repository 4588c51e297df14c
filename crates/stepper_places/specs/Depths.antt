-- How many parts lie between a place and the object or the expression that it begins with.
use Rattle.std.specs.Prelude.{ℕ, zero, suc}
use Rattle.c_typed_expr.specs.Trees.{Lvalue, Variable, Pointed, Temporary, Member, Element, ElementOf}

abbrev pub depth : Lvalue → ℕ
depth (Variable base) = zero
depth (Pointed e t volatile) = zero
depth (Temporary e t) = zero
depth (Member p c m) = suc (depth p)
depth (Element p e t n end) = suc (depth p)
depth (ElementOf e p t n end) = suc (depth p)
