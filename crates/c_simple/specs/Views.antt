-- The plain trees that the code's trees stand for.
use Rattle.std.specs.Prelude.{ℕ, List, map, Option, option_map}
use Rattle.c_base.specs.declared.number.BaseId.{BaseId}
use Rattle.c_base.specs.declared.number.SiteId.{SiteId}
use Rattle.c_types.specs.Types.{CType}
use Rattle.c_types.specs.Views.{type_of}
use Rattle.c_typed_term.specs.Views.{predicate_of}
use Rattle.c_simple.specs.Trees as plain
use Rattle.c_simple.specs.Trees.{Lvalue, Expr}
use Rattle.c_simple.specs.declared.expr.SExpr.{SExpr, fold-SExpr}
use Rattle.c_simple.specs.declared.expr.SExpr.TheOpen.{SExpr-F, SLval-F}
use Rattle.c_simple.specs.declared.expr.SLval.{SLval, fold-SLval}
use Rattle.c_simple.specs.declared.edge.Act.{Act}
use Rattle.c_simple.specs.declared.edge.Act.TheVariants as act
use Rattle.c_simple.specs.declared.edge.Edge.{Edge}
use Rattle.c_simple.specs.declared.edge.HeldSlot.{HeldSlot}
use Rattle.c_simple.specs.declared.edge.Scope.{Scope}
use Rattle.c_simple.specs.declared.edge.PlaceInfo.{PlaceInfo}
use Rattle.c_simple.specs.declared.edge.SimpleFunction.{SimpleFunction}
use Rattle.c_simple.specs.declared.program.SimpleProgram.{SimpleProgram}
use Rattle.c_program.specs.Views.{program_of as typed_program_of}

abbrev pub expr_step : SExpr-F Expr Lvalue → Expr
expr_step (SExpr-F.Const n kind) = plain.Number kind n
expr_step (SExpr-F.Addr place) = plain.Address place
expr_step (SExpr-F.Load place) = plain.Load place
expr_step (SExpr-F.«SExpr::Held» slot) = plain.Held slot
expr_step (SExpr-F.Unary op t e) = plain.Unary op (type_of t) e
expr_step (SExpr-F.Binary op t a b) = plain.Binary op (type_of t) a b
expr_step (SExpr-F.Convert t e) = plain.Convert (type_of t) e

abbrev pub lvalue_step : SLval-F Expr Lvalue → Lvalue
lvalue_step (SLval-F.Var base) = plain.Variable base.0
lvalue_step (SLval-F.«SLval::Held» slot t) = plain.Slot slot (type_of t)
lvalue_step (SLval-F.Deref e t volatile) = plain.Pointed e (type_of t) volatile
lvalue_step (SLval-F.Member place composite member) = plain.Member place composite member
lvalue_step (SLval-F.Index place e) = plain.Element place e

abbrev pub expr_of : SExpr → Expr
expr_of = fold-SExpr Expr Lvalue expr_step lvalue_step

abbrev pub lvalue_of : SLval → Lvalue
lvalue_of = fold-SLval Expr Lvalue expr_step lvalue_step

abbrev pub base_of : BaseId → ℕ
base_of b = b.0

abbrev pub site_of : SiteId → ℕ
site_of s = s.0

abbrev pub act_of : Act → plain.Act
act_of (act.Set place e) = plain.Set (lvalue_of place) (expr_of e)
act_of (act.Hold slot e) = plain.Hold slot (expr_of e)
act_of (act.Release slot) = plain.Release slot
act_of (act.Copy to source) = plain.Copy (lvalue_of to) (lvalue_of source)
act_of (act.Paste base image) = plain.Paste base.0 image
act_of (act.Test e truth) = plain.Test (expr_of e) truth
act_of (act.Enter bases) = plain.Enter (map base_of bases)
act_of (act.Leave bases) = plain.Leave (map base_of bases)
act_of (act.Check kind predicate) = plain.Check kind (predicate_of predicate)
act_of (act.Call site function arguments slot) = plain.Call site.0 (expr_of function) (map expr_of arguments) slot
act_of (act.Return value slot) = plain.Return (option_map expr_of value) slot
act_of act.Skip = plain.Skip

abbrev pub edge_of : Edge → plain.Edge
edge_of e = record { start = e.start.0; end = e.end.0; at = e.at.0; act = act_of e.act; callee = option_map base_of e.callee }

abbrev pub slot_of : HeldSlot → ℕ × CType
slot_of s = (s.slot, type_of s.ctype)

abbrev pub scope_of : Scope → plain.Scope
scope_of s = record { live = map base_of s.live; slots = map slot_of s.slots }

abbrev pub place_of : PlaceInfo → plain.Place
place_of p = record { at = p.at.0; arrival = p.arrival; sites = map site_of p.sites; scope = scope_of p.scope }

abbrev pub function_of : SimpleFunction → plain.Function
function_of f = record { base = f.base.0; places = map place_of f.places; edges = map edge_of f.edges }

abbrev pub program_of : SimpleProgram → plain.Program'
program_of p = record { program = typed_program_of p.program; functions = map function_of p.functions }
