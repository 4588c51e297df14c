-- Accesses at one offset that fit, and slots that are made.
use Rattle.std.proofs.Common.{◌≡◌, ℕ, ◌+◌, ◌*◌, ◌≤◌, pos, List, [], ◌∷◌, refl, sym, ap, subst, arith}
use Rattle.std.specs.Prelude.{None, Some}
use Rattle.std.proofs.lemmas.Int.{ints}
use Rattle.cell_laws.specs.Elements.{Element, width}
use Rattle.avalue_base.specs.Values.{Cellv}
use Rattle.avalue.specs.declared.row.Target.{Target}
use Rattle.avalue.specs.declared.row.Target.TheVariants.{Slot}
use Rattle.ival_core.specs.declared.value.Ival.{Ival}
use Rattle.ival_core.specs.declared.value.Shape.{Shape}
use Rattle.ival_core.specs.declared.value.Shape.TheVariants.{Few}
use Rattle.ival_core.specs.Ivals.{IsOnly}
use Rattle.ival_core.specs.Views.{single_of}
use Rattle.map_accesses.specs.Accesses.{Fits}
use Rattle.memory_maps.specs.Memories.{MapsOf, map_at}
use Rattle.memory_reads.specs.Reads.{Place, FitsIn}
use Rattle.memory_writes.specs.Writes.{FitTo, Inside, Makes, IsNew, one_place, with_target}

fits_at : (bits offset n : ℕ) → offset * 8 + bits ≤ n → Fits 8 bits n (pos offset)
fits_at bits offset n h = record { low = omega (arith, ints); high = omega arith }

module _ (m : MapsOf Cellv) (k : ℕ) where
  -- an access at one offset within the map
  pub spot_fits : (offset : ℕ) (at : Ival) (t : Target) (x : List (Element Cellv)) → IsOnly at (pos offset) → map_at m t ≡ Some x → offset * 8 + k ≤ width x → FitsIn k at (map_at m t)
  spot_fits offset at t x o e h = subst (FitsIn k at) (sym e) (λ z a. subst (Fits 8 k (width x)) (sym ((o z).0 a)) (fits_at k offset (width x) h))

  pub one_fits : (p : Place) → FitsIn k p.1 (map_at m p.0) → FitTo m k (p ∷ [])
  one_fits p f = Inside (f, tt)

  pub two_fit : (p q : Place) → FitsIn k p.1 (map_at m p.0) → FitsIn k q.1 (map_at m q.0) → FitTo m k (p ∷ q ∷ [])
  two_fit p q f g = Inside (f, (g, tt))

  -- a slot that isn't held is made
  pub new_fits : (slot : ℕ) (at : Ival) → at.shape ≡ Few (record { items = pos 0 ∷ [] }) → map_at m (Slot slot) ≡ None → FitTo m k ((Slot slot, at) ∷ [])
  new_fits slot at s n =
      let one : one_place ((Slot slot, at) ∷ []) ≡ Some (Slot slot, pos 0) = ap (λ (v : Shape). with_target (Slot slot) (single_of v)) s in
      Makes (subst (IsNew m) (sym one) (n, refl))
