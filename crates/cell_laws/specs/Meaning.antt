-- Which lists of concrete cells a map describes.
use Rattle.std.specs.Prelude.{◌≡◌, ℕ, Bool, true, List, [], ◌∷◌, take, drop, Some}
use Rattle.cell_laws.specs.Elements.{Element, Place}
use Rattle.cell_laws.specs.Cells.{Ops}

-- `Allows k c ks`: the cell allows these k concrete cells. Each element of the map allows its own.
module _ {C K : Type 0} (Allows : ℕ → C → List K → Type 0) where
  abbrev pub Describes : List (Element C) → List K → Type 0
  Describes [] ks = ks ≡ []
  Describes (e ∷ es) ks = Allows e.bits e.cell (take e.bits ks) × Describes es (drop e.bits ks)

-- What a concrete cell shows of a place that allows it: `Tint h c`, that c is a bit made from no base but those of h, or is not written or
-- dead as h allows; `Bare c`, that c is not written or dead; `Sure b c`, that c is the bit b, made from no address.
pub record Shows {C H K : Type 0} (o : Ops C H) (Tint : H → K → Type 0) (Bare : K → Type 0) (Sure : Bool → K → Type 0) (p : Place C) (c : K) : Type 0 where
  pub tint : Tint (o.hue p.cell) c
  pub bare : o.blank p.cell ≡ true → Bare c
  pub sure : (b : Bool) → o.bit p.bits p.at p.cell ≡ Some b → Sure b c

module _ {C H K : Type 0} (o : Ops C H) (Tint : H → K → Type 0) (Bare : K → Type 0) (Sure : Bool → K → Type 0) where
  abbrev pub ShowsAll : List (Place C) → List K → Type 0
  ShowsAll [] [] = Unit {0}
  ShowsAll [] (c ∷ cs) = ⊥
  ShowsAll (p ∷ ps) [] = ⊥
  ShowsAll (p ∷ ps) (c ∷ cs) = Shows o Tint Bare Sure p c × ShowsAll ps cs
