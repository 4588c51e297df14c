-- Cells that allow one content alone.
use Rattle.std.specs.Prelude.{◌≡◌, Bool, false, cond, ◌&&◌, ◌||◌, not, is_some, List, [], ◌∷◌}
use Rattle.c_memory.specs.Values.{Cell, Uninit, Dead, Bit}
use Rattle.ival_core.specs.Views.{single_of}
use Rattle.avalue_base.specs.Numbers.{is_empty}
use Rattle.avalue_base.specs.Values.{AVal, Separate, Mixed, Cellv, has_no_value}

-- one number, or one address
abbrev pub is_single_value : AVal → Bool
is_single_value (Separate numbers []) = is_some (single_of numbers.shape)
is_single_value (Separate numbers (a ∷ [])) = is_empty numbers.shape && is_some (single_of a.offsets.shape)
is_single_value (Separate numbers (a ∷ b ∷ addresses)) = false
is_single_value (Mixed bases) = false

-- one flag, or one value
abbrev pub is_single : Cellv → Bool
is_single c =
    cond (has_no_value c.value) ((c.uninit && not c.dead) || (not c.uninit && c.dead))
    (is_single_value c.value && (not c.uninit && not c.dead))

-- the same cell, pieces aside
abbrev pub SameCell : Cell → Cell → Type 0
SameCell Uninit Uninit = Unit {0}
SameCell Dead Dead = Unit {0}
SameCell (Bit b p i) (Bit c q j) = (b ≡ c) × (p ≡ q)
SameCell x y = ⊥

abbrev pub SameCells : List Cell → List Cell → Type 0
SameCells [] [] = Unit {0}
SameCells [] (y ∷ ys) = ⊥
SameCells (x ∷ xs) [] = ⊥
SameCells (x ∷ xs) (y ∷ ys) = SameCell x y × SameCells xs ys
