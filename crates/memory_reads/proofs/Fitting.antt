-- Places that fit, and reads place by place.
use Rattle.std.proofs.Common.{◌≡◌, ℕ, zero, suc, ◌+◌, ◌<◌, ◌≤◌, List, [], ◌∷◌, length, drop, get_or, length-drop, refl, sym, ap, ◌∙◌, subst, arith}
use Rattle.std.specs.Prelude.{Option, None, Some}
use Rattle.std.proofs.lemmas.List.{drop_more, drop_all}
use Rattle.cell_laws.specs.Elements.{Element, width}
use Rattle.cell_laws.specs.Cells.{Ops}
use Rattle.cell_runs.specs.declared.runs.Run.{Run}
use Rattle.ival_core.specs.declared.value.Ival.{Ival}
use Rattle.map_accesses.specs.Accesses.{AllFit}
use Rattle.avalue.specs.declared.row.Target.{Target}
use Rattle.memory_maps.specs.Memories.{MapsOf, map_at}
use Rattle.memory_reads.specs.Reads.{Place, FitsIn, AllFitIn, read_place, read}

module _ {C : Type 0} where
  -- a map that is missing fits nothing
  pub missing_fits : (k : ℕ) (at : Ival) (r : Option (List (Element C))) → r ≡ None → FitsIn k at r → ⊥
  missing_fits k at r e f = subst (FitsIn k at) e f

  pub found_fits : (k : ℕ) (at : Ival) (r : Option (List (Element C))) (x : List (Element C)) → r ≡ Some x → FitsIn k at r → AllFit 8 k (width x) at.shape
  found_fits k at r x e f = subst (FitsIn k at) e f

  pub place_at : (m : MapsOf C) (k : ℕ) (ps : List Place) (i : ℕ) (p d : Place) → i < length ps → p ≡ get_or ps i d → AllFitIn m k ps → FitsIn k p.1 (map_at m p.0)
  place_at m k [] i p d h e f = absurd (omega arith)
  place_at m k (q ∷ ps) zero p d h e f = subst (λ (x : Place). FitsIn k x.1 (map_at m x.0)) (sym e) f.0
  place_at m k (q ∷ ps) (suc i) p d h e f = place_at m k ps i p d (omega arith) e f.1

module _ {C H : Type 0} (o : Ops C H) where
  read_first : (m : MapsOf C) (ranges : Target → List (Run C)) (k : ℕ) (p : Place) (ps : List Place) → 0 < length ps → read o m ranges k (p ∷ ps) ≡ o.join (read_place o m ranges k p) (read o m ranges k ps)
  unfolding read
  read_first m ranges k p [] h = absurd (omega arith)
  read_first m ranges k p (q ∷ ps) h = refl

  pub read_last : (m : MapsOf C) (ranges : Target → List (Run C)) (k i : ℕ) (ps : List Place) (p : Place) → i < length ps → length ps ≤ suc i → p ≡ get_or ps i p → read_place o m ranges k p ≡ read o m ranges k (drop i ps)
  unfolding read
  read_last m ranges k i ps p h l g =
      let d : drop i ps ≡ p ∷ drop (i + 1) ps = drop_more ps i p h ∙ ap (λ (x : Place). x ∷ drop (i + 1) ps) (sym g) in
      let z : drop (i + 1) ps ≡ [] = drop_all (i + 1) ps (omega arith) in
      sym (ap (read o m ranges k) (d ∙ ap (λ (x : List Place). p ∷ x) z))

  pub read_more : (m : MapsOf C) (ranges : Target → List (Run C)) (k i j : ℕ) (ps : List Place) (p : Place) (here rest new : C) → j ≡ suc i → j < length ps → p ≡ get_or ps i p → here ≡ read_place o m ranges k p →
      rest ≡ read o m ranges k (drop j ps) → new ≡ o.join here rest → new ≡ read o m ranges k (drop i ps)
  read_more m ranges k i j ps p here rest new e h g a b f =
      let d : drop i ps ≡ p ∷ drop (i + 1) ps = drop_more ps i p (omega arith) ∙ ap (λ (x : Place). x ∷ drop (i + 1) ps) (sym g) in
      let n : i + 1 ≡ j = omega arith in
      let l = length-drop (i + 1) ps in
      f ∙ ap (λ (x : C). o.join x rest) a ∙ ap (o.join (read_place o m ranges k p)) (b ∙ ap (λ (x : ℕ). read o m ranges k (drop x ps)) (sym n))
      ∙ sym (ap (read o m ranges k) d ∙ read_first m ranges k p (drop (i + 1) ps) (omega arith))

  pub read_none : (m : MapsOf C) (ranges : Target → List (Run C)) (k : ℕ) (ps : List Place) → length ps ≡ 0 → o.void ≡ read o m ranges k ps
  unfolding read
  read_none m ranges k [] e = refl
  read_none m ranges k (p ∷ ps) e = absurd (omega arith)
