-- The join of two maps, and their widening.
use Rattle.std.specs.Prelude.{ℕ, zero, suc, ◌+◌, ◌*◌, ◌==◌, nat_le, Bool, false, cond, ◌&&◌, List, [], ◌∷◌, ◌++◌, length, take, drop, Option, None, Some}
use Rattle.std.specs.List.{list_all}
use Rattle.cell_laws.specs.Elements.{Element, Place, places, spread, width}
use Rattle.cell_laws.specs.Cells.{Ops}
use Rattle.cell_laws.specs.Order.{known, is_in}

-- Both maps are cut at their common cuts. In each stretch between two of these the second map's elements stay, where each can take in what stands
-- at its places in the first; else the first map's, where these can; else the bits stand by themselves.

module _ {C : Type 0} where
  unfoldable pub one_more : C → Option (List (Element C)) → ℕ → Option (List (Element C))
  one_more c None k = None
  one_more c (Some es) k = Some (record { bits = k; cell = c } ∷ es)

  unfoldable pub is_some_wide : List (Element C) → List (Element C) → Bool
  is_some_wide [] q = false
  is_some_wide (e ∷ p) q = width (e ∷ p) == width q

  -- stretches at whose ends both maps have a cut; p and q have been read since the last one
  unfoldable pub cut : ℕ → List (Element C) → List (Element C) → List (Element C) → List (Element C) → List (List (Element C) × List (Element C))
  cut zero p q xs ys = (p ++ xs, q ++ ys) ∷ []
  cut (suc f) p q xs ys =
      cond (is_some_wide p q) ((p, q) ∷ cut f [] [] xs ys)
      (cond (nat_le (width p) (width q))
      (elim xs [ [] ↦ (p, q ++ ys) ∷ [] | x ∷ rest ↦ cut f (p ++ x ∷ []) q rest ys ])
      (elim ys [ [] ↦ (p ++ xs, q) ∷ [] | y ∷ rest ↦ cut f p (q ++ y ∷ []) xs rest ]))

  -- the cell of the first place, where it begins an element of this size
  unfoldable pub whole : ℕ → List (Place C) → Option C
  whole k [] = None
  whole k (p ∷ ps) = cond ((p.at == 0) && (p.bits == k)) (Some p.cell) None

  unfoldable pub more_of : Option C → ℕ → Option (List (Element C)) → Option (List (Element C))
  more_of None k es = None
  more_of (Some c) k es = one_more c es k

module _ {C H : Type 0} (o : Ops C H) where
  -- the cell of the join where both maps have one element at the same bits
  unfoldable pub joined_cell : ℕ → C → C → C
  joined_cell k x y = cond (is_in o k y (spread k x 0 k)) y (o.join x y)

  -- y with the flags of cells without values
  unfoldable pub shaded : C → List (Place C) → C
  shaded y [] = y
  shaded y (p ∷ ps) = shaded (o.shade y (o.hue p.cell)) ps

  unfoldable pub with_known : ℕ → C → Option (List Bool) → Option C
  with_known k y None = None
  with_known k y (Some ys) = Some (o.with_bits k y ys)

  -- y takes in flags, or bits that are known
  unfoldable pub with_others : ℕ → C → List (Place C) → Option C
  with_others k y ps =
      cond (o.blank y) None
      (cond (list_all (λ p. o.blank p.cell) ps) (Some (shaded y ps)) (with_known k y (known o ps)))

-- `merge k x y` is the cell where both maps have one element of k bits at the same bits: `joined_cell`, or what widening makes of the two
module _ {C H : Type 0} (o : Ops C H) (merge : ℕ → C → C → C) where
  unfoldable pub with_whole : ℕ → C → List (Place C) → Option C → Option C
  with_whole k y ps None = cond (is_in o k y ps) (Some y) (with_others o k y ps)
  with_whole k y ps (Some x) = Some (merge k x y)

  -- the element's cell with what stands at the places, if it can hold that
  unfoldable pub with_places : ℕ → C → List (Place C) → Option C
  with_places k y ps = with_whole k y ps (whole k ps)

  unfoldable pub with_all : List (Place C) → List (Element C) → Option (List (Element C))
  with_all ps [] = Some []
  with_all ps (e ∷ es) = more_of (with_places e.bits e.cell (take e.bits ps)) e.bits (with_all (drop e.bits ps) es)

  -- bits by themselves
  unfoldable pub any_bits : List (Place C) → List (Place C) → List (Element C)
  any_bits [] qs = []
  any_bits (p ∷ ps) [] = []
  any_bits (p ∷ ps) (q ∷ qs) = record { bits = 1; cell = o.any (o.unite (o.hue p.cell) (o.hue q.cell)) } ∷ any_bits ps qs

  unfoldable pub or_any : List (Element C) → List (Element C) → Option (List (Element C)) → List (Element C)
  or_any xs ys None = any_bits (places xs) (places ys)
  or_any xs ys (Some r) = r

  unfoldable pub or_first : List (Element C) → List (Element C) → Option (List (Element C)) → List (Element C)
  or_first xs ys None = or_any xs ys (with_all (places ys) xs)
  or_first xs ys (Some r) = r

  unfoldable pub join_stretch : List (Element C) → List (Element C) → List (Element C)
  join_stretch xs ys = or_first xs ys (with_all (places xs) ys)

  unfoldable pub join_stretches : List (List (Element C) × List (Element C)) → List (Element C)
  join_stretches [] = []
  join_stretches (s ∷ ss) = join_stretch s.0 s.1 ++ join_stretches ss

  -- the join of what is left, where p and q have been read since the last common cut
  unfoldable pub joined_from : List (Element C) → List (Element C) → List (Element C) → List (Element C) → List (Element C)
  joined_from p q xs ys = join_stretches (cut (suc (suc (2 * (length xs + length ys)))) p q xs ys)

  unfoldable pub joined : List (Element C) → List (Element C) → List (Element C)
  joined a b = joined_from [] [] a b
