-- What places hold isn't known.
use Rattle.std.proofs.Common.{◌≡◌, List, [], ◌∷◌, refl}
use Rattle.c_base.specs.declared.integer.Machine.{Machine}
use Rattle.c_types.specs.Types.{CType, Void, Integer, Pointer, Array, Composite, Function}
use Rattle.c_typed_expr.specs.Trees.{Expr, Lvalue}
use Rattle.c_typed_expr.specs.Views.{comma_run, load_of}
use Rattle.c_checking.specs.Constants.{known, Varying}

pub load_varies : (machine : Machine) (t : CType) (p : Lvalue) → known machine (load_of t p) ≡ Varying
load_varies machine Void p = refl
load_varies machine (Integer kind) p = refl
load_varies machine (Pointer to) p = refl
load_varies machine (Array of count) p = refl
load_varies machine (Composite number) p = refl
load_varies machine (Function result params variadic) p = refl

pub comma_varies : (machine : Machine) (e : Expr) (more : List Expr) (last : Expr) → known machine (comma_run (e ∷ more) last) ≡ Varying
comma_varies machine e more last = refl
