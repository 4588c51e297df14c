-- Writes place by place.
use Rattle.std.proofs.Common.{◌≡◌, ℕ, ◌+◌, ◌<◌, ◌≤◌, Bool, true, false, List, [], ◌∷◌, ℤ, length, drop, get_or, refl, sym, ap, ◌∙◌, subst, arith, inl}
use Rattle.std.specs.Prelude.{nat_eq, if◌then◌else◌, unwrap_or, Option, None, Some}
use Rattle.std.proofs.lemmas.Bool.Decides.{nat_tests}
use Rattle.std.proofs.lemmas.List.{drop_more, drop_all}
use Rattle.std.proofs.lemmas.Option.{none-some}
use Rattle.cell_laws.specs.Elements.{Element, width}
use Rattle.cell_laws.specs.Cells.{Ops}
use Rattle.cell_laws.specs.Laws.{FineLaws, OrderLaws, JoinLaws, PartLaws}
use Rattle.cell_laws.specs.Access.{IsSize}
use Rattle.ival_core.specs.declared.value.Ival.{Ival}
use Rattle.ival_core.specs.declared.value.Shape.{Shape}
use Rattle.ival_core.specs.declared.value.Shape.TheVariants.{Few, Many}
use Rattle.ival_core.specs.Sets.{Has, Among}
use Rattle.ival_core.specs.Views.{one_of, single_of}
use Rattle.map_accesses.specs.Accesses.{Fits, AllFit, weakened_at}
use Rattle.map_accesses.proofs.Widths.{weak_kept}
use Rattle.ptree.specs.Entries.{get, set}
use Rattle.ptree.proofs.Maps.{get-set}
use Rattle.avalue.specs.declared.row.Target.{Target}
use Rattle.avalue.specs.declared.row.Target.TheVariants.{Base, Slot}
use Rattle.memory_maps.specs.Memories.{Maps, MapsOf, IsMemory, map_at, with_map}
use Rattle.memory_reads.specs.Reads.{Place, FitsIn, AllFitIn}
use Rattle.memory_reads.proofs.Fitting.{found_fits}
use Rattle.memory_reads.proofs.Giving.{object_at}
use Rattle.memory_writes.specs.Writes.{with_target, one_place, FitsOne, IsNew, FitTo, Inside, Makes, weak_in, weak_place, weak_all}

same_number : (a b : ℕ) → nat_eq a b ≡ true → a ≡ b
same_number a b e = grind (arith, nat_tests)

module _ {C : Type 0} where
  either_fits : (k : ℕ) (at : Ival) (y : List (Element C)) (r : Option (List (Element C))) (t : Bool) → (t ≡ true → FitsIn k at (Some y)) → FitsIn k at r → FitsIn k at (if t then Some y else r)
  either_fits k at y r true f g = f refl
  either_fits k at y r false f g = g

  keeps_get : (maps : Maps C) (b d k : ℕ) (at : Ival) (x y : List (Element C)) → get maps b ≡ Some x → width y ≡ width x → FitsIn k at (get maps d) → FitsIn k at (get (set maps b y) d)
  keeps_get maps b d k at x y e w f =
      subst (FitsIn k at) (sym (get-set maps b y d))
      (either_fits k at y (get maps d) (nat_eq b d)
      (λ t. subst (λ (n : ℕ). AllFit 8 k n at.shape) (sym w) (found_fits k at (get maps d) x (ap (get maps) (sym (same_number b d t)) ∙ e) f)) f)

  keeps_place : (m : MapsOf C) (t u : Target) (k : ℕ) (at : Ival) (x y : List (Element C)) → map_at m t ≡ Some x → width y ≡ width x → FitsIn k at (map_at m u) → FitsIn k at (map_at (with_map m t y) u)
  keeps_place m (Base b) (Base d) k at x y e w f = keeps_get m.0 b.0 d.0 k at x y e w f
  keeps_place m (Base b) (Slot d) k at x y e w f = f
  keeps_place m (Slot b) (Base d) k at x y e w f = f
  keeps_place m (Slot b) (Slot d) k at x y e w f = keeps_get m.1 b d k at x y e w f

  keeps_places : (m : MapsOf C) (t : Target) (k : ℕ) (ps : List Place) (x y : List (Element C)) → map_at m t ≡ Some x → width y ≡ width x → AllFitIn m k ps → AllFitIn (with_map m t y) k ps
  keeps_places m t k [] x y e w f = tt
  keeps_places m t k (p ∷ ps) x y e w f = (keeps_place m t p.0 k p.1 x y e w f.0, keeps_places m t k ps x y e w f.1)

module _ {C H : Type 0} (o : Ops C H) (Fine : ℕ → C → Type 0) (nl : FineLaws o Fine) (ol : OrderLaws o Fine) (jl : JoinLaws o Fine) (pl : PartLaws o Fine) where
  keeps_in : (k : ℕ) (c : C) (p : Place) (ps : List Place) (m : MapsOf C) (r : Option (List (Element C))) → IsSize k → IsMemory Fine m → r ≡ map_at m p.0 → FitsIn k p.1 r → AllFitIn m k ps → AllFitIn (weak_in o k c p m r) k ps
  keeps_in k c p ps m None size i e f a = a
  keeps_in k c p ps m (Some x) size i e f a =
      let b = object_at Fine m p.0 x i (sym e) in
      keeps_places m p.0 k ps x (weakened_at o x 8 k p.1.shape c) (sym e) (weak_kept o Fine nl ol jl pl x 8 k p.1.shape c size (omega arith) b.fine p.1.valid f).wide a

  -- so far the places were written
  pub record WritesOn (k : ℕ) (c : C) (ps : List Place) (start : MapsOf C) (i : ℕ) (made : MapsOf C) : Type 0 where
    pub same : weak_all o k c (drop i ps) made ≡ start
    pub fit : AllFitIn made k (drop i ps)

  pub writes_fit : (k : ℕ) (c : C) (ps : List Place) (i : ℕ) (p : Place) (start made : MapsOf C) → i < length ps → p ≡ get_or ps i p → WritesOn k c ps start i made → FitsIn k p.1 (map_at made p.0)
  writes_fit k c ps i p start made h g w =
      let l : drop i ps ≡ p ∷ drop (i + 1) ps = drop_more ps i p h ∙ ap (λ (x : Place). x ∷ drop (i + 1) ps) (sym g) in
      (subst (AllFitIn made k) l w.fit).0

  pub writes_next : (k : ℕ) (c : C) (ps : List Place) (i : ℕ) (p : Place) (start made new : MapsOf C) → IsSize k → IsMemory Fine made → i < length ps → p ≡ get_or ps i p → new ≡ weak_place o k c p made →
      WritesOn k c ps start i made → WritesOn k c ps start (i + 1) new
  unfolding weak_all
  writes_next k c ps i p start made new size m h g f w =
      let l : drop i ps ≡ p ∷ drop (i + 1) ps = drop_more ps i p h ∙ ap (λ (x : Place). x ∷ drop (i + 1) ps) (sym g) in
      let a = subst (AllFitIn made k) l w.fit in
      let b : weak_all o k c (p ∷ drop (i + 1) ps) made ≡ start = sym (ap (λ (x : List Place). weak_all o k c x made) l) ∙ w.same in
      record {
        same = ap (weak_all o k c (drop (i + 1) ps)) f ∙ b;
        fit = subst (λ (x : MapsOf C). AllFitIn x k (drop (i + 1) ps)) (sym f) (keeps_in k c p (drop (i + 1) ps) made (map_at made p.0) size m refl a.0 a.1);
      }

module _ {C H : Type 0} (o : Ops C H) where
  pub writes_end : (Fine : ℕ → C → Type 0) (nl : FineLaws o Fine) (ol : OrderLaws o Fine) (jl : JoinLaws o Fine) (pl : PartLaws o Fine) (k : ℕ) (c : C) (ps : List Place) (i : ℕ) (start made : MapsOf C) → length ps ≤ i →
      WritesOn o Fine nl ol jl pl k c ps start i made → made ≡ start
  unfolding weak_all
  writes_end Fine nl ol jl pl k c ps i start made h w = sym (ap (λ (x : List Place). weak_all o k c x made) (drop_all i ps h)) ∙ w.same

-- ---- the one place that is given

one_has : (xs : List ℤ) (z : ℤ) → one_of xs ≡ Some z → Among xs z
one_has [] z e = absurd (none-some z e)
one_has (x ∷ []) z e = inl (sym (ap (λ (r : Option ℤ). unwrap_or r x) e))
one_has (x ∷ y ∷ xs) z e = absurd (none-some z e)

single_has : (s : Shape) (z : ℤ) → single_of s ≡ Some z → Has s z
single_has (Few v) z e = one_has v.items z e
single_has (Many p) z e = absurd (none-some z e)

some_pair : (x y : Target × ℤ) → Some x ≡ Some y → x ≡ y
some_pair x y e = ap (λ (r : Option (Target × ℤ)). unwrap_or r x) e

module _ {C : Type 0} where
  inside_one : (k : ℕ) (p : Place) (z : ℤ) (r : Option (List (Element C))) → Has p.1.shape z → FitsIn k p.1 r → FitsOne k z r
  inside_one k p z None h f = absurd f
  inside_one k p z (Some x) h f = f z h

  new_one : (m : MapsOf C) (k : ℕ) (z : ℤ) (t : Target) → IsNew m (Some (t, z)) → FitsOne k z (map_at m t)
  new_one m k z (Base b) f = absurd f
  new_one m k z (Slot s) f = subst (FitsOne k z) (sym f.0) f.1

  at_one : (m : MapsOf C) (k : ℕ) (p : Place) (s : Option ℤ) (t : Target × ℤ) → single_of p.1.shape ≡ s → with_target p.0 s ≡ Some t → FitsIn k p.1 (map_at m p.0) → FitsOne k t.1 (map_at m t.0)
  at_one m k p None t e h f = absurd (none-some t h)
  at_one m k p (Some z) t e h f =
      subst (λ (x : Target × ℤ). FitsOne k x.1 (map_at m x.0)) (some_pair (p.0, z) t h) (inside_one k p z (map_at m p.0) (single_has p.1.shape z e) f)

  inside_at : (m : MapsOf C) (k : ℕ) (ps : List Place) (t : Target × ℤ) → one_place ps ≡ Some t → AllFitIn m k ps → FitsOne k t.1 (map_at m t.0)
  inside_at m k [] t e f = absurd (none-some t e)
  inside_at m k (p ∷ []) t e f = at_one m k p (single_of p.1.shape) t refl e f.0
  inside_at m k (p ∷ q ∷ ps) t e f = absurd (none-some t e)

  pub one_fits : (m : MapsOf C) (k : ℕ) (ps : List Place) (t : Target × ℤ) → one_place ps ≡ Some t → FitTo m k ps → FitsOne k t.1 (map_at m t.0)
  one_fits m k ps t e (Inside f) = inside_at m k ps t e f
  one_fits m k ps t e (Makes f) = new_one m k t.1 t.0 (subst (IsNew m) e f)

  pub found_one : (k : ℕ) (z : ℤ) (r : Option (List (Element C))) (x : List (Element C)) → r ≡ Some x → FitsOne k z r → Fits 8 k (width x) z
  found_one k z r x e f = subst (FitsOne k z) e f

  pub many_fit : (m : MapsOf C) (k : ℕ) (ps : List Place) → one_place ps ≡ None → FitTo m k ps → AllFitIn m k ps
  many_fit m k ps e (Inside f) = f
  many_fit m k ps e (Makes f) = absurd (subst (IsNew m) e f)

pub not_one : (ps : List Place) → (length ps ≡ 1 → ⊥) → None ≡ one_place ps
not_one [] h = refl
not_one (p ∷ []) h = absurd (h refl)
not_one (p ∷ q ∷ ps) h = refl

pub just_one : (ps : List Place) (p : Place) (s : Option ℤ) → length ps ≡ 1 → p ≡ get_or ps 0 p → single_of p.1.shape ≡ s → with_target p.0 s ≡ one_place ps
just_one [] p s h e f = absurd (omega arith)
just_one (q ∷ []) p s h e f = ap (with_target p.0) (sym f) ∙ ap (λ (x : Place). with_target x.0 (single_of x.1.shape)) e
just_one (q ∷ r ∷ ps) p s h e f = absurd (omega arith)
