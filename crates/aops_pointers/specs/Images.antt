-- The least set of what a function makes of the numbers of two sets.
use Rattle.std.specs.Prelude.{cond, List, [], ◌∷◌, ◌++◌, map, ℤ, Option, None, Some}
use Rattle.std.specs.List.{list_all}
use Rattle.ival_core.specs.declared.value.Ival.{Ival}
use Rattle.ival_plain.specs.Least.{is_number}
use Rattle.avalue_base.specs.Numbers.{list_of}
use Rattle.avalue_base.specs.Meets.{least_of}

module _ (f : ℤ → ℤ → ℤ) where
  -- f of each of ns and each of ms
  unfoldable pub crossed : List ℤ → List ℤ → List ℤ
  crossed [] ms = []
  crossed (n ∷ ns) ms = map (f n) ms ++ crossed ns ms

  -- the least set of f of the numbers of two sets; none where some is no number that a set may hold
  unfoldable pub image : Ival → Ival → Option Ival
  image a b = cond (list_all is_number (crossed (list_of a.shape) (list_of b.shape))) (Some (least_of (crossed (list_of a.shape) (list_of b.shape)))) None
