-- The plain types that the code's types stand for.
use Rattle.std.specs.Prelude.{List, [], ◌∷◌, map, Option, None, Some, option_map}
use Rattle.c_types.specs.Types as plain
use Rattle.c_types.specs.Types.{CTypes, Nil, Next}
use Rattle.c_types.specs.declared.ctype.CType.{CType, fold-CType}
use Rattle.c_types.specs.declared.ctype.CType.TheOpen.{CType-F, FuncType-F}
use Rattle.c_types.specs.declared.ctype.FuncType.{FuncType, fold-FuncType}
use Rattle.c_types.specs.declared.ctype.Member.{Member}
use Rattle.c_types.specs.declared.ctype.Composite.{Composite}
use Rattle.c_types.specs.declared.ctype.Extent.{Extent}

abbrev pub listed : List plain.CType → CTypes
listed [] = Nil
listed (t ∷ more) = Next t (listed more)

abbrev pub type_step : CType-F plain.CType plain.CType → plain.CType
type_step CType-F.Void = plain.Void
type_step (CType-F.Int kind) = plain.Integer kind
type_step (CType-F.Ptr to) = plain.Pointer to
type_step (CType-F.Array of count) = plain.Array of count
type_step (CType-F.Comp number) = plain.Composite number
type_step (CType-F.Func func) = func

abbrev pub function_step : FuncType-F plain.CType plain.CType → plain.CType
function_step f = plain.Function f.result (listed f.params) f.variadic

abbrev pub type_of : CType → plain.CType
type_of = fold-CType plain.CType plain.CType type_step function_step

abbrev pub function_type_of : FuncType → plain.CType
function_type_of = fold-FuncType plain.CType plain.CType type_step function_step

abbrev pub types_of : List CType → CTypes
types_of all = listed (map type_of all)

abbrev pub extent_of : Extent → plain.Extent
extent_of e = record { size = e.size; align = e.align }

abbrev pub member_of : Member → plain.Member
member_of m = record { name = m.name; ctype = type_of m.ctype; volatile = m.volatile }

abbrev pub members_of : List Member → List plain.Member
members_of all = map member_of all

abbrev pub composite_of : Composite → plain.Composite'
composite_of c = record { name = c.name; is_union = c.is_union; members = members_of c.members; extent = option_map extent_of c.extent }

abbrev pub composites_of : List Composite → List plain.Composite'
composites_of all = map composite_of all
