-- The cell of a widening. Where both cells have the same number alone in an element's bits, it is the second: so a number that is written with a
-- sign in one and without in the other stays one. Its laws stand here since a trait's instance takes none from its crate's own proofs.
use Rattle.std.specs.Prelude.{◌≡◌, ℕ, Bool, true, false, cond, ◌&&◌, refl}
use Rattle.std.proofs.Common.{inr}
use Rattle.std.proofs.lemmas.Bool.{and_parts}
use Rattle.cell_laws.specs.Elements.{spread}
use Rattle.cell_laws.specs.Cells.{Ops}
use Rattle.cell_laws.specs.Order.{is_known, is_in}
use Rattle.cell_laws.specs.Laws.{FineLaws, OrderLaws, MergeLaws}
use Rattle.cell_laws.proofs.Ordering.{in_from}
use Rattle.run_places.specs.Widens.{WidenLaws}
use Rattle.run_places.proofs.Widened.{widened_laws}

module _ {C H : Type 0} (o : Ops C H) where
  unfoldable pub is_same_number : ℕ → C → C → Bool
  is_same_number k x y = is_known o k y (spread k x 0 k) && is_known o k x (spread k y 0 k)

  unfoldable pub widened_cell : (ℕ → C → C → C) → ℕ → C → C → C
  widened_cell widened k x y = cond (is_same_number k x y) y (widened k x y)

pub widened_cell_laws : {C H : Type 0} (o : Ops C H) (Fine : ℕ → C → Type 0) (widened : ℕ → C → C → C) → FineLaws o Fine → OrderLaws o Fine → WidenLaws o Fine widened → MergeLaws o Fine (widened_cell o widened)
unfolding widened_cell is_same_number
widened_cell_laws {C} o Fine widened n l w = record {
  merge_fine = λ k x y f g. fine k x y f g (is_same_number o k x y);
  merge_first = λ k x y f g. first k x y f g (is_same_number o k x y) refl;
  merge_second = λ k x y f g. second k x y f g (is_same_number o k x y);
}
  where
    fine : (k : ℕ) (x y : C) → Fine k x → Fine k y → (b : Bool) → Fine k (cond b y (widened k x y))
    fine k x y f g true = g
    fine k x y f g false = w.widened_fine k x y f g

    first : (k : ℕ) (x y : C) → Fine k x → Fine k y → (b : Bool) → is_same_number o k x y ≡ b → is_in o k (cond b y (widened k x y)) (spread k x 0 k) ≡ true
    first k x y f g true e = in_from o k y (spread k x 0 k) (inr (inr (inr (and_parts (is_known o k y (spread k x 0 k)) (is_known o k x (spread k y 0 k)) e).0)))
    first k x y f g false e = (widened_laws o Fine widened n w).merge_first k x y f g

    second : (k : ℕ) (x y : C) → Fine k x → Fine k y → (b : Bool) → o.leq y (cond b y (widened k x y)) ≡ true
    second k x y f g true = l.leq_refl k y g
    second k x y f g false = w.widened_second k x y f g
