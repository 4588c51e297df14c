-- Inclusion of lists that are kept in ascending order, along both.
use Rattle.std.specs.Prelude.{ℕ, nat_lt, Bool, true, false, cond, ◌&&◌, List, [], ◌∷◌}

module _ {X Y : Type 0} (key : X → ℕ) (other_key : Y → ℕ) (lies : X → Y → Bool) where
  -- x lies in the element of ys with its key, and more holds of those behind that one
  unfoldable pub find_in : X → (List Y → Bool) → List Y → Bool
  find_in x more [] = false
  find_in x more (y ∷ ys) = cond (nat_lt (other_key y) (key x)) (find_in x more ys) (cond (nat_lt (key x) (other_key y)) false (lies x y && more ys))

  -- each of xs lies in the element of ys with its key
  unfoldable pub all_in : List X → List Y → Bool
  all_in [] ys = true
  all_in (x ∷ xs) ys = find_in x (all_in xs) ys
