-- How quotients are computed.
use Rattle.std.proofs.Common.{◌≡◌, ℕ, ℤ, List, map, sym, ap, ◌∙◌}
use Rattle.arrayvec.specs.ArrayVec.{ArrayVec}
use Rattle.c_base.specs.Operators.{floor}
use Rattle.ival_core.specs.declared.value.Progression.{Progression}
use Rattle.ival_core.specs.declared.value.Shape.{Shape}
use Rattle.ival_core.specs.declared.value.Shape.TheVariants.{Few, Many}
use Rattle.ival_arith.specs.Pieces.{gathered}
use Rattle.ival_arith.specs.Floors.{run_floored, floored}

pub floored_few : (d : ℕ) (set at r : Shape) (v : ArrayVec ℤ) (xs : List ℤ) → at ≡ set → at ≡ Few v → xs ≡ v.items → r ≡ gathered (map (λ n. floor n d) xs) → r ≡ floored d set
unfolding floored
floored_few d set at r v xs e f g h = h ∙ ap (λ ys. gathered (map (λ n. floor n d) ys)) g ∙ ap (floored d) (sym f ∙ e)

pub floored_run : (d : ℕ) (set at r : Shape) (p : Progression) → at ≡ set → at ≡ Many p → r ≡ run_floored d p → r ≡ floored d set
unfolding floored
floored_run d set at r p e f h = h ∙ ap (floored d) (sym f ∙ e)
