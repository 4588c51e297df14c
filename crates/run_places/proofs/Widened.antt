-- A widening of cells makes a widening of maps.
use Rattle.std.proofs.Common.{◌≡◌, ℕ, zero, suc, ◌<◌, true, refl, arith, inl}
use Rattle.cell_laws.specs.Elements.{spread}
use Rattle.cell_laws.specs.Cells.{Ops}
use Rattle.cell_laws.specs.Order.{is_in}
use Rattle.cell_laws.specs.Laws.{FineLaws, MergeLaws}
use Rattle.cell_laws.proofs.Ordering.{in_from, start}
use Rattle.run_places.specs.Widens.{WidenLaws}

module _ {C H : Type 0} (o : Ops C H) where
  starts_in : (k : ℕ) (x y : C) → 0 < k → o.leq x y ≡ true → is_in o k y (spread k x 0 k) ≡ true
  unfolding spread
  starts_in zero x y p e = absurd (omega arith)
  starts_in (suc k) x y p e =
      in_from o (suc k) y (spread (suc k) x 0 (suc k)) (inl (start o (suc k) y (record { at = 0; bits = suc k; cell = x }) (spread (suc k) x 1 k) (record { at = refl; bits = refl; leq = e })))

pub widened_laws : {C H : Type 0} (o : Ops C H) (Fine : ℕ → C → Type 0) (widened : ℕ → C → C → C) → FineLaws o Fine → WidenLaws o Fine widened → MergeLaws o Fine widened
widened_laws o Fine widened n w = record {
  merge_fine = w.widened_fine;
  merge_first = λ k x y f g. starts_in o k x (widened k x y) (n.some_bits k x f) (w.widened_first k x y f g);
  merge_second = w.widened_second;
}
