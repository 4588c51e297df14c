-- One step of the views.
use Rattle.std.proofs.Common.{◌≡◌, ℕ, suc, ◌+◌, ◌<◌, ap, sym, ◌∙◌, List, ◌∷◌, length, drop, Option, None, Some, arith}
use Rattle.std.specs.Prelude.{slice_get, option_map}
use Rattle.std.proofs.lemmas.Option.{slice_get-map, slice_get-get_or}
use Rattle.std.proofs.Math.Seq.{drop-cons}
use Rattle.std.proofs.Math.ListN.{get_or}
use Rattle.c_types.specs.declared.ctype.Member.{Member as CodeMember}
use Rattle.c_types.specs.declared.ctype.Composite.{Composite as CodeComposite}
use Rattle.c_types.specs.Types as plain
use Rattle.c_types.specs.Views.{type_of, type_step, function_step, member_of, members_of, composite_of, composites_of}
use Rattle.c_types.specs.declared.ctype.CType.{CType}
use Rattle.c_types.specs.declared.ctype.CType.TheOpen.{CType-F}
use Rattle.c_types.specs.declared.ctype.CType.TheVariants as V
use Rattle.c_types.specs.declared.ctype.CType.TheFolds as F

pub type-Array : (of : CType) (n : ℕ) → type_of (V.Array of n) ≡ plain.Array (type_of of) n
type-Array of n = ap type_of (sym (V.rolls-Array of n)) ∙ F.fold-roll-CType plain.CType plain.CType type_step function_step (CType-F.Array of n)

pub next_member : (all : List CodeMember) (i : ℕ) (m : CodeMember) → i < length all → m ≡ get_or all i m → members_of (drop i all) ≡ member_of m ∷ members_of (drop (i + 1) all)
next_member all i m h e =
    let s : suc i ≡ i + 1 = omega arith in
    ap members_of (drop-cons all i m h ∙ ap (λ x. x ∷ drop (suc i) all) (sym e)) ∙ ap (λ j. member_of m ∷ members_of (drop j all)) s

pub member_there : (all : List CodeMember) (i : ℕ) (m : CodeMember) → i < length all → m ≡ get_or all i m → slice_get (members_of all) i ≡ Some (member_of m)
member_there all i m h e = slice_get-map member_of all i ∙ ap (option_map member_of) (slice_get-get_or all i m h ∙ ap Some (sym e))

pub composite_there : (all : List CodeComposite) (i : ℕ) (c : CodeComposite) → slice_get all i ≡ Some c → slice_get (composites_of all) i ≡ Some (composite_of c)
composite_there all i c e = slice_get-map composite_of all i ∙ ap (option_map composite_of) e

pub no_composite_there : (all : List CodeComposite) (i : ℕ) → slice_get all i ≡ None → slice_get (composites_of all) i ≡ None
no_composite_there all i e = slice_get-map composite_of all i ∙ ap (option_map composite_of) e
