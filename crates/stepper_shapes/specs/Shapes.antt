-- What one level of an expression, of a place and of a statement stands for.
use Rattle.std.specs.Prelude.{map}
use Rattle.c_typed_expr.specs.Trees.{Lvalue, Variable, Pointed, Temporary, Member, Element, ElementOf, Expr, Number, Load, Binary, Assign, LoadCells, AssignCells, Address, Unary, Convert, OnPointers, Logic, Conditional, Compound, Step, Comma, Call}
use Rattle.c_typed_expr.specs.Views.{expr_of, listed}
use Rattle.stepper_shapes.specs.declared.operand.Shape.{Shape}
use Rattle.stepper_shapes.specs.declared.operand.Shape.TheVariants as shape
use Rattle.stepper_shapes.specs.declared.operand.PlaceShape.{PlaceShape}
use Rattle.stepper_shapes.specs.declared.operand.PlaceShape.TheVariants as part
use Rattle.stepper_shapes.specs.Views.{implied_of, place_of, operand_of}

abbrev pub shape_of : Shape → Expr
shape_of (shape.Number kind n) = Number kind n
shape_of (shape.Load type p) = Load type (place_of p)
shape_of (shape.Binary op kind a b) = Binary op kind (operand_of a) (operand_of b)
shape_of (shape.Assign type p e) = Assign type (place_of p) (operand_of e)
shape_of (shape.LoadCells t p) = LoadCells (implied_of t) (place_of p)
shape_of (shape.AssignCells t p e) = AssignCells (implied_of t) (place_of p) (operand_of e)
shape_of (shape.Address t p) = Address (implied_of t) (place_of p)
shape_of (shape.Unary op kind e) = Unary op kind (operand_of e)
shape_of (shape.Convert t e) = Convert (implied_of t) (operand_of e)
shape_of (shape.OnPointers op left right a b) = OnPointers op (implied_of left) (implied_of right) (operand_of a) (operand_of b)
shape_of (shape.Logic is_and a b) = Logic is_and (operand_of a) (operand_of b)
shape_of (shape.Conditional t a b c) = Conditional (implied_of t) (operand_of a) (operand_of b) (operand_of c)
shape_of (shape.Compound c) = Compound c.operator (implied_of c.ctype) (implied_of c.left) (implied_of c.right) (place_of c.place) (operand_of c.operand)
shape_of (shape.Step up behind t p) = Step up behind (implied_of t) (place_of p)
shape_of (shape.Comma a b) = Comma (operand_of a) (operand_of b)
shape_of (shape.Call site t p arguments) = Call site.0 (implied_of t) (place_of p) (listed (map expr_of arguments.now))

abbrev pub place_shape_of : PlaceShape → Lvalue
place_shape_of (part.Variable base) = Variable base
place_shape_of (part.Pointed e t volatile) = Pointed (operand_of e) (implied_of t) volatile
place_shape_of (part.Temporary e t) = Temporary (operand_of e) (implied_of t)
place_shape_of (part.Member p c m) = Member (place_of p) c m
place_shape_of (part.Element p e t n end) = Element (place_of p) (operand_of e) (implied_of t) n end
place_shape_of (part.ElementOf e p t n end) = ElementOf (operand_of e) (place_of p) (implied_of t) n end
