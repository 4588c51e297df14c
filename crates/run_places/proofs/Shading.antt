-- Flags that a cell takes in, run by run.
use Rattle.std.proofs.Common.{◌≡◌, ℕ, zero, suc, ◌-◌, ◌<◌, ◌≤◌, Bool, true, false, List, [], ◌∷◌, ◌++◌, length, take, refl, sym, ap, ◌∙◌, subst, arith, get_or}
use Rattle.std.specs.Prelude.{None, Some}
use Rattle.std.specs.List.{list_all}
use Rattle.std.proofs.lemmas.Bool.{and_parts}
use Rattle.cell_laws.specs.Elements.{Place}
use Rattle.cell_laws.specs.Cells.{Ops}
use Rattle.cell_laws.specs.Order.{known}
use Rattle.cell_laws.specs.Join.{shaded, with_known, with_others}
use Rattle.cell_laws.specs.Laws.{JoinLaws}
use Rattle.cell_runs.specs.declared.runs.Run.{Run}
use Rattle.run_places.specs.declared.spots.Spot.{Spot}
use Rattle.run_places.specs.declared.spots.Front.{Front}
use Rattle.run_places.specs.Spots.{ahead, IsSpot, IsFront}
use Rattle.run_places.proofs.Ahead.{AllOf}
use Rattle.run_places.proofs.Passing.{in_range, next_take, next_length, front_is, front_of, front_cells, length-front, all_append}

-- the flags of the places so far are taken in
pub record ShadesOn {C H : Type 0} (o : Ops C H) (Fine : ℕ → C → Type 0) (rs : List (Run C)) (first : Spot) (bits : ℕ) (cell : C) (at : Spot) (left : ℕ) (y : C) : Type 0 where
  pub same : shaded o y (take left (ahead rs at)) ≡ shaded o cell (take bits (ahead rs first))
  pub blank : list_all (λ (p : Place C). o.blank p.cell) (take left (ahead rs at)) ≡ true
  pub fine : Fine bits y
  pub value : o.blank y ≡ false
  pub enough : left ≤ length (ahead rs at)
  pub spot : IsSpot rs at

module _ {C H : Type 0} (o : Ops C H) (Fine : ℕ → C → Type 0) (j : JoinLaws o Fine) where
  pub shade_begin : (rs : List (Run C)) (first : Spot) (bits : ℕ) (cell y : C) → y ≡ cell → bits ≤ length (ahead rs first) → IsSpot rs first → Fine bits cell → o.blank cell ≡ false →
      list_all (λ (p : Place C). o.blank p.cell) (take bits (ahead rs first)) ≡ true → ShadesOn o Fine rs first bits cell first bits y
  shade_begin rs first bits cell y e h s f v b =
      subst (λ (x : C). ShadesOn o Fine rs first bits cell first bits x) (sym e) (record { same = refl; blank = b; fine = f; value = v; enough = h; spot = s })

  pub shade_range : (rs : List (Run C)) (first : Spot) (bits : ℕ) (cell : C) (at : Spot) (left : ℕ) (y : C) → 0 < left → ShadesOn o Fine rs first bits cell at left y → at.index < length rs
  shade_range rs first bits cell at left y h p = let e = p.enough in in_range rs at (omega arith)

  -- once is enough
  shade_rest : (j1 k : ℕ) (c z : C) (ps qs : List (Place C)) → Fine j1 c → Fine k z → o.blank c ≡ true → o.within (o.hue c) (o.hue z) ≡ true → AllOf c ps → shaded o z (ps ++ qs) ≡ shaded o z qs
  unfolding shaded
  shade_rest j1 k c z [] qs f g b w a = refl
  shade_rest j1 k c z (p ∷ ps) qs f g b w a =
      let s = j.shade_same j1 k c z f g b w in
      ap (λ (x : C). shaded o (o.shade z (o.hue x)) (ps ++ qs)) a.0 ∙ ap (λ (x : C). shaded o x (ps ++ qs)) s ∙ shade_rest j1 k c z ps qs f g b w a.1

  shade_front : (j1 k : ℕ) (c y : C) (ps qs : List (Place C)) → 0 < length ps → Fine j1 c → Fine k y → o.blank y ≡ false → o.blank c ≡ true → AllOf c ps → shaded o y (ps ++ qs) ≡ shaded o (o.shade y (o.hue c)) qs
  unfolding shaded
  shade_front j1 k c y [] qs n f g v b a = absurd (omega arith)
  shade_front j1 k c y (p ∷ ps) qs n f g v b a =
      ap (λ (x : C). shaded o (o.shade y (o.hue x)) (ps ++ qs)) a.0
      ∙ shade_rest j1 k c (o.shade y (o.hue c)) ps qs f (j.shade_fine k y (o.hue c) g v) b (j.shade_hue j1 k c y f g b) a.1

  first_blank : (c : C) (ps : List (Place C)) → 0 < length ps → AllOf c ps → list_all (λ (p : Place C). o.blank p.cell) ps ≡ true → o.blank c ≡ true
  first_blank c [] n a h = absurd (omega arith)
  first_blank c (p ∷ ps) n a h = ap o.blank (sym a.0) ∙ (and_parts (o.blank p.cell) (list_all (λ (q : Place C). o.blank q.cell) ps) h).0

  -- the run at the spot is blank, as far as the step goes
  pub shade_blank_at : (rs : List (Run C)) (first : Spot) (bits : ℕ) (cell : C) (at : Spot) (left : ℕ) (y : C) (c : C) → 0 < left → AllOf c (take 1 (ahead rs at)) →
      ShadesOn o Fine rs first bits cell at left y → o.blank c ≡ true
  shade_blank_at rs first bits cell at left y c h a p = one left (ahead rs at) h p.enough a p.blank
    where
      one : (n : ℕ) (ps : List (Place C)) → 0 < n → n ≤ length ps → AllOf c (take 1 ps) → list_all (λ (p : Place C). o.blank p.cell) (take n ps) ≡ true → o.blank c ≡ true
      one zero ps h l a b = absurd (omega arith)
      one (suc n) [] h l a b = absurd (omega arith)
      one (suc n) (q ∷ ps) h l a b = ap o.blank (sym a.0) ∙ (and_parts (o.blank q.cell) (list_all (λ (q : Place C). o.blank q.cell) (take n ps)) b).0

  pub shade_step : (rs : List (Run C)) (first : Spot) (bits : ℕ) (cell : C) (at : Spot) (left : ℕ) (y new : C) (n : Front) (r : Run C) → 0 < left → at.index < length rs → r ≡ get_or rs at.index r →
      Fine r.bits r.cell → o.blank r.cell ≡ true → IsFront rs at left n → new ≡ o.shade y (o.hue r.cell) → ShadesOn o Fine rs first bits cell at left y → ShadesOn o Fine rs first bits cell n.next (left - n.count) new
  shade_step rs first bits cell at left y new n r m h e f b i d p =
      let c = i.count in
      let k = i.skip in
      let q = front_is rs at left n i r h e in
      let a = next_take rs at left left n i (omega arith) in
      let w = next_length rs at left n i in
      let u = length-front rs at left n i in
      let g = p.enough in
      let cells : AllOf r.cell (front_of rs at left n i) = subst (λ (x : Run C). AllOf x.cell (front_of rs at left n i)) q (front_cells rs at left n i) in
      let s : shaded o (o.shade y (o.hue r.cell)) (take (left - n.count) (ahead rs n.next)) ≡ shaded o y (take left (ahead rs at)) =
      sym (ap (shaded o y) a ∙ shade_front r.bits bits r.cell y (front_of rs at left n i) (take (left - n.count) (ahead rs n.next)) (omega arith) f p.fine p.value b cells) in
      let l : list_all (λ (x : Place C). o.blank x.cell) (front_of rs at left n i ++ take (left - n.count) (ahead rs n.next)) ≡ true = ap (list_all (λ (x : Place C). o.blank x.cell)) (sym a) ∙ p.blank in
      let v = and_parts (list_all (λ (x : Place C). o.blank x.cell) (front_of rs at left n i)) (list_all (λ (x : Place C). o.blank x.cell) (take (left - n.count) (ahead rs n.next)))
      (sym (all_append (λ (x : Place C). o.blank x.cell) (front_of rs at left n i) (take (left - n.count) (ahead rs n.next))) ∙ l) in
      subst (λ (x : C). ShadesOn o Fine rs first bits cell n.next (left - n.count) x) (sym d)
      (record { same = s ∙ p.same; blank = v.1; fine = j.shade_fine bits y (o.hue r.cell) p.fine p.value; value = j.shade_blank bits y (o.hue r.cell) p.fine p.value; enough = omega arith; spot = i.next })

  pub shade_end : (rs : List (Run C)) (first : Spot) (bits : ℕ) (cell : C) (at : Spot) (left : ℕ) (y : C) → left ≡ 0 → ShadesOn o Fine rs first bits cell at left y → y ≡ shaded o cell (take bits (ahead rs first))
  unfolding shaded
  shade_end rs first bits cell at left y z p = ap (λ (n : ℕ). shaded o y (take n (ahead rs at))) (sym z) ∙ p.same

module _ {C H : Type 0} (o : Ops C H) where
  pub others_blank : (k : ℕ) (y : C) (ps : List (Place C)) → o.blank y ≡ true → None ≡ with_others o k y ps
  unfolding with_others
  others_blank k y ps b = sym (rw b refl)

  pub others_shade : (k : ℕ) (y c : C) (ps : List (Place C)) → o.blank y ≡ false → list_all (λ (p : Place C). o.blank p.cell) ps ≡ true → c ≡ shaded o y ps → Some c ≡ with_others o k y ps
  unfolding with_others
  others_shade k y c ps b a e = ap Some e ∙ sym (rw (b, a) refl)

  pub others_none : (k : ℕ) (y : C) (ps : List (Place C)) → o.blank y ≡ false → list_all (λ (p : Place C). o.blank p.cell) ps ≡ false → known o ps ≡ None → None ≡ with_others o k y ps
  unfolding with_others with_known
  others_none k y ps b a e = sym (rw (b, a, e) refl)

  pub others_known : (k : ℕ) (y c : C) (ps : List (Place C)) (bs : List Bool) → o.blank y ≡ false → list_all (λ (p : Place C). o.blank p.cell) ps ≡ false → known o ps ≡ Some bs → length bs ≡ k →
      c ≡ o.with_bits (length bs) y bs → Some c ≡ with_others o k y ps
  unfolding with_others with_known
  others_known k y c ps bs b a e l d = ap Some (d ∙ ap (λ (n : ℕ). o.with_bits n y bs) l) ∙ sym (rw (b, a, e) refl)
