-- The order of maps, also between maps that are cut differently.
use Rattle.std.specs.Prelude.{ℕ, ◌==◌, Bool, true, false, ◌&&◌, ◌||◌, List, [], ◌∷◌, take, drop, Option, None, Some}
use Rattle.std.specs.List.{list_all}
use Rattle.cell_laws.specs.Elements.{Element, Place, places}
use Rattle.cell_laws.specs.Cells.{Ops}

unfoldable pub and_bit : Option Bool → Option (List Bool) → Option (List Bool)
and_bit None bs = None
and_bit (Some b) None = None
and_bit (Some b) (Some bs) = Some (b ∷ bs)

module _ {C H : Type 0} where
  -- the place begins an element of these bits, and its cell lies in y
  unfoldable pub is_start : Ops C H → ℕ → C → List (Place C) → Bool
  is_start o k y [] = false
  is_start o k y (p ∷ ps) = (p.at == 0) && ((p.bits == k) && o.leq p.cell y)

  -- y allows whatever there is
  unfoldable pub is_admitted : Ops C H → ℕ → C → List (Place C) → Bool
  is_admitted o k y ps = list_all (λ p. o.admits k y (o.hue p.cell)) ps

  -- there are no values, and the flags are those of y
  unfoldable pub is_bare : Ops C H → C → List (Place C) → Bool
  is_bare o y ps = list_all (λ p. o.blank p.cell && o.within (o.hue p.cell) (o.hue y)) ps

  unfoldable pub known : Ops C H → List (Place C) → Option (List Bool)
  known o [] = Some []
  known o (p ∷ ps) = and_bit (o.bit p.bits p.at p.cell) (known o ps)

  unfoldable pub has_bits : Ops C H → ℕ → C → Option (List Bool) → Bool
  has_bits o k y None = false
  has_bits o k y (Some bs) = o.has k y bs

  unfoldable pub is_known : Ops C H → ℕ → C → List (Place C) → Bool
  is_known o k y ps = has_bits o k y (known o ps)

  -- an element allows what stands at these places
  unfoldable pub is_in : Ops C H → ℕ → C → List (Place C) → Bool
  is_in o k y ps = is_start o k y ps || (is_admitted o k y ps || (is_bare o y ps || is_known o k y ps))

  -- each element allows what stands at its bits
  unfoldable pub is_under : Ops C H → List (Place C) → List (Element C) → Bool
  is_under o ps [] = true
  is_under o ps (e ∷ es) = is_in o e.bits e.cell (take e.bits ps) && is_under o (drop e.bits ps) es

  unfoldable pub included : Ops C H → List (Element C) → List (Element C) → Bool
  included o a b = is_under o (places a) b
