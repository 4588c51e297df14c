-- The join is an upper bound, and the second map where that includes the first.
use Rattle.std.proofs.Common.{◌≡◌, ℕ, zero, suc, ◌+◌, ◌*◌, ◌<◌, ◌≤◌, Bool, true, false, ◌&&◌, List, [], ◌∷◌, ◌++◌, length, take, drop, refl, sym, ap, ◌∙◌, subst, arith, inl, inr, length-take, length-drop}
use Rattle.std.specs.Prelude.{Option, None, Some, ◌==◌}
use Rattle.std.specs.List.{list_all}
use Rattle.std.proofs.lemmas.List.{drop_at, take_at}
use Rattle.std.proofs.lemmas.Bool.{and_parts, and_from, cases_Bool, eqb-true}
use Rattle.cell_laws.specs.Elements.{Element, Place, spread, places, width, AllFine, AllFit}
use Rattle.cell_laws.specs.Cells.{Ops}
use Rattle.cell_laws.specs.Order.{is_admitted, is_bare, known, has_bits, is_known, is_in, is_under, included}
use Rattle.cell_laws.specs.Laws.{FineLaws, OrderLaws, JoinLaws, MergeLaws}
use Rattle.cell_laws.specs.Join.{one_more, cut, whole, more_of, shaded, joined_cell, with_known, with_others, with_whole, with_places, with_all, any_bits, or_any, or_first, join_stretch, join_stretches, joined_from, joined}
use Rattle.cell_laws.proofs.Places.{place, length-spread, length-places, Steady, Steady-drop, Steady-take, Steady-places, run}
use Rattle.cell_laws.proofs.Ordering.{in_from, start, in_leq, in_refl, known_length, AllFit-take, AllFit-drop, AllFit-places, AllFit-spread}
use Rattle.cell_laws.proofs.Cuts.{width-append, places-append, firsts, seconds, AllEven, cut_is, under-append, under-split}

-- z holds what stands at the places, and y
pub record Holds {C H : Type 0} (o : Ops C H) (Fine : ℕ → C → Type 0) (k : ℕ) (y z : C) (ps : List (Place C)) : Type 0 where
  pub places : is_in o k z ps ≡ true
  pub old : o.leq y z ≡ true
  pub fine : Fine k z

-- y with the flags of blank places
pub record IsShaded {C H : Type 0} (o : Ops C H) (Fine : ℕ → C → Type 0) (k : ℕ) (y : C) (ps : List (Place C)) : Type 0 where
  pub old : o.leq y (shaded o y ps) ≡ true
  pub fine : Fine k (shaded o y ps)
  pub bare : is_bare o (shaded o y ps) ps ≡ true

module _ {C : Type 0} where
  -- the first place is that of the whole element
  pub whole_spread : (k : ℕ) (x : C) (ps : List (Place C)) → length ps ≡ k → Steady ps → whole k ps ≡ Some x → ps ≡ spread k x 0 k
  unfolding whole place
  whole_spread k x [] w s h = cc
  whole_spread k x (p ∷ ps) w s h =
      elim (cases_Bool ((p.at == 0) && (p.bits == k))) [
        | inl a ↦
            let b = and_parts (p.at == 0) (p.bits == k) a in
            let at : p.at ≡ 0 = eqb-true p.at 0 b.0 in
            let bits : p.bits ≡ k = eqb-true p.bits k b.1 in
            let g : Some p.cell ≡ Some x = rw a at h in
            let cell : p.cell ≡ x = cc in
            run k x 0 k (p ∷ ps) w (omega arith) s
            (ap (λ (n : ℕ). record { at = n; bits = p.bits; cell = p.cell }) at ∙ ap (λ (n : ℕ). record { at = 0; bits = n; cell = p.cell }) bits
            ∙ ap (λ (c : C). record { at = 0; bits = k; cell = c }) cell)
        | inr a ↦ cc (rw a at h)
      ]

module _ {C : Type 0} (Fine : ℕ → C → Type 0) where
  pub fine_whole : (k : ℕ) (x : C) (ps : List (Place C)) → AllFit Fine ps → 0 < k → ps ≡ spread k x 0 k → Fine k x
  unfolding spread
  fine_whole zero x ps t p i = absurd (omega arith)
  fine_whole (suc k) x [] t p i = cc
  fine_whole (suc k) x (q ∷ ps) t p i =
      let g : q ≡ record { at = 0; bits = suc k; cell = x } = cc in
      subst (λ (r : Place C). Fine r.bits r.cell) g t.0.fine

module _ {C H : Type 0} (o : Ops C H) (Fine : ℕ → C → Type 0) (l : OrderLaws o Fine) (j : JoinLaws o Fine) where
  -- with the flags of blank places it holds these
  shaded_holds : (k : ℕ) (y : C) (ps : List (Place C)) → Fine k y → o.blank y ≡ false → AllFit Fine ps → list_all (λ p. o.blank p.cell) ps ≡ true → IsShaded o Fine k y ps
  unfolding is_bare shaded
  shaded_holds k y [] f n t b = record { old = l.leq_refl k y f; fine = f; bare = refl }
  shaded_holds k y (p ∷ ps) f n t b =
      let a = and_parts (o.blank p.cell) (list_all (λ q. o.blank q.cell) ps) b in
      let h = o.hue p.cell in
      let g = j.shade_fine k y h f n in
      let r = shaded_holds k (o.shade y h) ps g (j.shade_blank k y h f n) t.1 a.1 in
      let here = j.shade_hue p.bits k p.cell y t.0.fine f a.0 in
      let more = l.hue_leq k (o.shade y h) (shaded o (o.shade y h) ps) g r.fine r.old in
      record {
        old = l.leq_trans k y (o.shade y h) (shaded o (o.shade y h) ps) f g r.fine (j.shade_leq k y h f n) r.old;
        fine = r.fine;
        bare = and_from _ _ (and_from _ _ a.0 (l.within_trans h (o.hue (o.shade y h)) (o.hue (shaded o (o.shade y h) ps)) here more)) r.bare;
      }

  known_holds : (k : ℕ) (y z : C) (ps : List (Place C)) (bs : Option (List Bool)) → Fine k y → o.blank y ≡ false → length ps ≡ k → known o ps ≡ bs → with_known o k y bs ≡ Some z → Holds o Fine k y z ps
  unfolding with_known is_known has_bits
  known_holds k y z ps None f n w e g = cc
  known_holds k y z ps (Some bs) f n w e g =
      let s : o.with_bits k y bs ≡ z = cc in
      let m : length bs ≡ k = known_length o ps bs e ∙ w in
      let h : is_known o k (o.with_bits k y bs) ps ≡ true = rw e (j.with_has k y bs f n m) in
      let r : Holds o Fine k y (o.with_bits k y bs) ps =
      record { places = in_from o k (o.with_bits k y bs) ps (inr (inr (inr h))); old = j.with_leq k y bs f n m; fine = j.with_fine k y bs f n m } in
      subst (λ (x : C). Holds o Fine k y x ps) s r

  others_hold : (k : ℕ) (y z : C) (ps : List (Place C)) → Fine k y → AllFit Fine ps → length ps ≡ k → with_others o k y ps ≡ Some z → Holds o Fine k y z ps
  unfolding with_others
  others_hold k y z ps f t w g =
      elim (cases_Bool (o.blank y)) [
        | inl b ↦ cc (rw b at g)
        | inr n ↦ elim (cases_Bool (list_all (λ p. o.blank p.cell) ps)) [
          | inl a ↦
              let s : Some (shaded o y ps) ≡ Some z = rw (n, a) at g in
              let e : shaded o y ps ≡ z = cc in
              let h = shaded_holds k y ps f n t a in
              let r : Holds o Fine k y (shaded o y ps) ps = record { places = in_from o k (shaded o y ps) ps (inr (inr (inl h.bare))); old = h.old; fine = h.fine } in
              subst (λ (x : C). Holds o Fine k y x ps) e r
          | inr a ↦ known_holds k y z ps (known o ps) f n w refl (rw (n, a) at g)
        ]
      ]

-- a map that includes both sides of a stretch
pub record IsAbove {C H : Type 0} (o : Ops C H) (Fine : ℕ → C → Type 0) (ps qs : List (Place C)) (n : ℕ) (r : List (Element C)) : Type 0 where
  pub first : is_under o ps r ≡ true
  pub second : is_under o qs r ≡ true
  pub wide : width r ≡ n
  pub fine : AllFine Fine r

-- two maps of fine cells
pub record AreFine {C : Type 0} (Fine : ℕ → C → Type 0) (xs ys : List (Element C)) : Type 0 where
  pub first : AllFine Fine xs
  pub second : AllFine Fine ys

module _ {C : Type 0} (Fine : ℕ → C → Type 0) where
  pub AllFine-append : (xs ys : List (Element C)) → AllFine Fine xs → AllFine Fine ys → AllFine Fine (xs ++ ys)
  AllFine-append [] ys a b = b
  AllFine-append (x ∷ xs) ys a b = (a.0, AllFine-append xs ys a.1 b)

  pub AllFine-front : (xs ys : List (Element C)) → AllFine Fine (xs ++ ys) → AllFine Fine xs
  AllFine-front [] ys a = tt
  AllFine-front (x ∷ xs) ys a = (a.0, AllFine-front xs ys a.1)

  pub AllFine-rest : (xs ys : List (Element C)) → AllFine Fine (xs ++ ys) → AllFine Fine ys
  AllFine-rest [] ys a = a
  AllFine-rest (x ∷ xs) ys a = AllFine-rest xs ys a.1

  fine_front : (xs vs ys ws : List (Element C)) → AreFine Fine (xs ++ vs) (ys ++ ws) → AreFine Fine xs ys
  fine_front xs vs ys ws f = record { first = AllFine-front xs vs f.first; second = AllFine-front ys ws f.second }

  fine_rest : (xs vs ys ws : List (Element C)) → AreFine Fine (xs ++ vs) (ys ++ ws) → AreFine Fine vs ws
  fine_rest xs vs ys ws f = record { first = AllFine-rest xs vs f.first; second = AllFine-rest ys ws f.second }

-- what `with_all` makes of an element and the others
pub record MoreOf {C H : Type 0} (o : Ops C H) (merge : ℕ → C → C → C) (ps : List (Place C)) (e : Element C) (es r : List (Element C)) : Type 0 where
  pub cell : C
  pub others : List (Element C)
  pub head : with_places o merge e.bits e.cell (take e.bits ps) ≡ Some cell
  pub tail : with_all o merge (drop e.bits ps) es ≡ Some others
  pub is : r ≡ record { bits = e.bits; cell = cell } ∷ others

module _ {C H : Type 0} (o : Ops C H) (merge : ℕ → C → C → C) where
  more_is : (ps : List (Place C)) (e : Element C) (es r : List (Element C)) (c : Option C) (d : Option (List (Element C))) →
      with_places o merge e.bits e.cell (take e.bits ps) ≡ c → with_all o merge (drop e.bits ps) es ≡ d → more_of c e.bits d ≡ Some r → MoreOf o merge ps e es r
  unfolding more_of one_more
  more_is ps e es r None d f g h = cc
  more_is ps e es r (Some c) None f g h = cc
  more_is ps e es r (Some c) (Some d) f g h = record { cell = c; others = d; head = f; tail = g; is = cc }

  all_more : (ps : List (Place C)) (e : Element C) (es r : List (Element C)) → with_all o merge ps (e ∷ es) ≡ Some r → MoreOf o merge ps e es r
  unfolding with_all
  all_more ps e es r h = more_is ps e es r (with_places o merge e.bits e.cell (take e.bits ps)) (with_all o merge (drop e.bits ps) es) refl refl h

module _ {C H : Type 0} (o : Ops C H) (Fine : ℕ → C → Type 0) (merge : ℕ → C → C → C) (n : FineLaws o Fine) (l : OrderLaws o Fine) (j : JoinLaws o Fine) (m : MergeLaws o Fine merge) where
  whole_holds : (k : ℕ) (y z : C) (ps : List (Place C)) (x : Option C) → Fine k y → AllFit Fine ps → length ps ≡ k → 0 < k → Steady ps → whole k ps ≡ x → with_whole o merge k y ps x ≡ Some z → Holds o Fine k y z ps
  unfolding with_whole
  whole_holds k y z ps None f t w p s e g =
      elim (cases_Bool (is_in o k y ps)) [
        | inl a ↦
            let h : Some y ≡ Some z = rw a at g in
            let i : y ≡ z = cc in
            subst (λ (c : C). Holds o Fine k y c ps) i (record { places = a; old = l.leq_refl k y f; fine = f })
        | inr a ↦ others_hold o Fine l j k y z ps f t w (rw a at g)
      ]
  whole_holds k y z ps (Some x) f t w p s e g =
      let i = whole_spread k x ps w s e in
      let h : merge k x y ≡ z = cc in
      let u : Fine k x = fine_whole Fine k x ps t p i in
      let r : Holds o Fine k y (merge k x y) (spread k x 0 k) = record { places = m.merge_first k x y u f; old = m.merge_second k x y u f; fine = m.merge_fine k x y u f } in
      subst (λ (c : C). Holds o Fine k y c ps) h (subst (λ (qs : List (Place C)). Holds o Fine k y (merge k x y) qs) (sym i) r)

  pub places_hold : (k : ℕ) (y z : C) (ps : List (Place C)) → Fine k y → AllFit Fine ps → length ps ≡ k → 0 < k → Steady ps → with_places o merge k y ps ≡ Some z → Holds o Fine k y z ps
  unfolding with_places
  places_hold k y z ps f t w p s g = whole_holds k y z ps (whole k ps) f t w p s refl g

  all_above : (es : List (Element C)) (ps : List (Place C)) (r : List (Element C)) → AllFine Fine es → AllFit Fine ps → width es ≤ length ps → Steady ps →
      with_all o merge ps es ≡ Some r → IsAbove o Fine ps (places es) (width es) r
  unfolding with_all is_under places width
  all_above [] ps r f t w s h =
      let e : [] ≡ r = cc in
      subst (λ (x : List (Element C)). IsAbove o Fine ps [] 0 x) e (record { first = refl; second = refl; wide = refl; fine = tt })
  all_above (e ∷ es) ps r f t w s h =
      let m = all_more o merge ps e es r h in
      let wide : width es ≤ length (drop e.bits ps) = simp length-drop (omega arith) in
      let v : length (take e.bits ps) ≡ e.bits = simp length-take (omega arith) in
      let a = all_above es (drop e.bits ps) m.others f.1 (AllFit-drop Fine e.bits ps t) wide (Steady-drop e.bits ps s) m.tail in
      let c = places_hold e.bits e.cell m.cell (take e.bits ps) f.0 (AllFit-take Fine e.bits ps t) v (n.some_bits e.bits e.cell f.0) (Steady-take e.bits ps s) m.head in
      let u = take_at (spread e.bits e.cell 0 e.bits) (places es) e.bits (length-spread e.bits e.cell 0 e.bits) in
      let d = drop_at (spread e.bits e.cell 0 e.bits) (places es) e.bits (length-spread e.bits e.cell 0 e.bits) in
      let fit = AllFit-spread Fine e.bits e.cell 0 e.bits (omega arith) f.0 in
      let i : is_in o e.bits m.cell (spread e.bits e.cell 0 e.bits) ≡ true =
      in_leq o Fine l e.bits e.cell m.cell (spread e.bits e.cell 0 e.bits) f.0 c.fine fit (length-spread e.bits e.cell 0 e.bits) c.old (in_refl o Fine l e.bits e.cell f.0) in
      let y : is_in o e.bits m.cell (take e.bits (spread e.bits e.cell 0 e.bits ++ places es)) ≡ true = rw u i in
      let z : is_under o (drop e.bits (spread e.bits e.cell 0 e.bits ++ places es)) m.others ≡ true = rw d a.second in
      let w2 = a.wide in
      let g : IsAbove o Fine ps (spread e.bits e.cell 0 e.bits ++ places es) (e.bits + width es) (record { bits = e.bits; cell = m.cell } ∷ m.others) =
      record { first = and_from _ _ c.places a.first; second = and_from _ _ y z; wide = ap (λ (x : ℕ). e.bits + x) w2; fine = (c.fine, a.fine) } in
      subst (λ (x : List (Element C)). IsAbove o Fine ps (spread e.bits e.cell 0 e.bits ++ places es) (e.bits + width es) x) (sym m.is) g

  one_admitted : (h : H) (p : Place C) → o.within (o.hue p.cell) h ≡ true → is_in o 1 (o.any h) (p ∷ []) ≡ true
  unfolding is_admitted
  one_admitted h p w = in_from o 1 (o.any h) (p ∷ []) (inr (inl (and_from _ _ (j.any_admits (o.hue p.cell) h w) refl)))

  any_above : (ps qs : List (Place C)) (n : ℕ) → length ps ≡ n → length qs ≡ n → IsAbove o Fine ps qs n (any_bits o merge ps qs)
  unfolding any_bits is_under width
  any_above [] qs zero a b = record { first = refl; second = refl; wide = refl; fine = tt }
  any_above [] qs (suc n) a b = absurd (omega arith)
  any_above (p ∷ ps) [] n a b = absurd (omega arith)
  any_above (p ∷ ps) (q ∷ qs) zero a b = absurd (omega arith)
  any_above (p ∷ ps) (q ∷ qs) (suc n) a b =
      let r = any_above ps qs n (omega arith) (omega arith) in
      let w = r.wide in
      record {
        first = and_from _ _ (one_admitted (o.unite (o.hue p.cell) (o.hue q.cell)) p (j.unite_left (o.hue p.cell) (o.hue q.cell))) r.first;
        second = and_from _ _ (one_admitted (o.unite (o.hue p.cell) (o.hue q.cell)) q (j.unite_right (o.hue p.cell) (o.hue q.cell))) r.second;
        wide = omega arith;
        fine = (j.any_fine (o.unite (o.hue p.cell) (o.hue q.cell)), r.fine);
      }

  or_any_above : (xs ys : List (Element C)) (r : Option (List (Element C))) → AreFine Fine xs ys → width xs ≡ width ys → with_all o merge (places ys) xs ≡ r →
      IsAbove o Fine (places xs) (places ys) (width ys) (or_any o merge xs ys r)
  unfolding or_any
  or_any_above xs ys None f w e = any_above (places xs) (places ys) (width ys) (length-places xs ∙ w) (length-places ys)
  or_any_above xs ys (Some r) f w e =
      let n = length-places ys in
      let a = all_above xs (places ys) r f.first (AllFit-places Fine ys f.second) (omega arith) (Steady-places ys) e in
      record { first = a.second; second = a.first; wide = a.wide ∙ w; fine = a.fine }

  or_first_above : (xs ys : List (Element C)) (r : Option (List (Element C))) → AreFine Fine xs ys → width xs ≡ width ys → with_all o merge (places xs) ys ≡ r →
      IsAbove o Fine (places xs) (places ys) (width ys) (or_first o merge xs ys r)
  unfolding or_first
  or_first_above xs ys None f w e = or_any_above xs ys (with_all o merge (places ys) xs) f w refl
  or_first_above xs ys (Some r) f w e =
      let n = length-places xs in
      all_above ys (places xs) r f.second (AllFit-places Fine xs f.first) (omega arith) (Steady-places xs) e

  stretch_above : (xs ys : List (Element C)) → AreFine Fine xs ys → width xs ≡ width ys → IsAbove o Fine (places xs) (places ys) (width ys) (join_stretch o merge xs ys)
  unfolding join_stretch
  stretch_above xs ys f w = or_first_above xs ys (with_all o merge (places xs) ys) f w refl

  stretches_above : (ss : List (List (Element C) × List (Element C))) → AreFine Fine (firsts ss) (seconds ss) → AllEven ss →
      IsAbove o Fine (places (firsts ss)) (places (seconds ss)) (width (seconds ss)) (join_stretches o merge ss)
  unfolding join_stretches is_under places width
  stretches_above [] f e = record { first = refl; second = refl; wide = refl; fine = tt }
  stretches_above (s ∷ ss) f e =
      let a = stretch_above s.0 s.1 (fine_front Fine s.0 (firsts ss) s.1 (seconds ss) f) e.0 in
      let b = stretches_above ss (fine_rest Fine s.0 (firsts ss) s.1 (seconds ss) f) e.1 in
      let r = join_stretch o merge s.0 s.1 in
      let f1 : is_under o (places s.0 ++ places (firsts ss)) (r ++ join_stretches o merge ss) ≡ true =
      under-append o r (join_stretches o merge ss) (places s.0) (places (firsts ss)) (length-places s.0 ∙ e.0 ∙ sym a.wide) a.first b.first in
      let g1 : is_under o (places s.1 ++ places (seconds ss)) (r ++ join_stretches o merge ss) ≡ true =
      under-append o r (join_stretches o merge ss) (places s.1) (places (seconds ss)) (length-places s.1 ∙ sym a.wide) a.second b.second in
      let w = width-append r (join_stretches o merge ss) in
      let v = width-append s.1 (seconds ss) in
      let p = a.wide in
      let q = b.wide in
      record {
        first = rw (places-append s.0 (firsts ss)) f1;
        second = rw (places-append s.1 (seconds ss)) g1;
        wide = omega arith;
        fine = AllFine-append Fine r (join_stretches o merge ss) a.fine b.fine;
      }

  -- the join is an upper bound, of the same width, of fine cells
  pub joined_above : (a b : List (Element C)) → AreFine Fine a b → width a ≡ width b → IsAbove o Fine (places a) (places b) (width b) (joined o merge a b)
  unfolding joined joined_from
  joined_above a b f w =
      let c = cut_is (suc (suc (2 * (length a + length b)))) [] [] a b w in
      let ss = cut (suc (suc (2 * (length a + length b)))) [] [] a b in
      let g : AreFine Fine (firsts ss) (seconds ss) =
      subst (λ (x : List (Element C)). AreFine Fine x (seconds ss)) (sym c.firsts) (subst (λ (y : List (Element C)). AreFine Fine a y) (sym c.seconds) f) in
      let s = stretches_above ss g c.even in
      subst (λ (x : List (Element C)). IsAbove o Fine (places x) (places b) (width b) (join_stretches o merge ss)) c.firsts
      (subst (λ (y : List (Element C)). IsAbove o Fine (places (firsts ss)) (places y) (width y) (join_stretches o merge ss)) c.seconds s)

  pub joined_left : (a b : List (Element C)) → AreFine Fine a b → width a ≡ width b → included o a (joined o merge a b) ≡ true
  unfolding included
  joined_left a b f w = (joined_above a b f w).first

  pub joined_right : (a b : List (Element C)) → AreFine Fine a b → width a ≡ width b → included o b (joined o merge a b) ≡ true
  unfolding included
  joined_right a b f w = (joined_above a b f w).second

-- ---- where a map is included in the other, the join is the other

module _ {C H : Type 0} (o : Ops C H) (merge : ℕ → C → C → C) (same : (k : ℕ) (x y : C) → is_in o k y (spread k x 0 k) ≡ true → merge k x y ≡ y) where
  places_same : (k : ℕ) (y : C) (ps : List (Place C)) (x : Option C) → length ps ≡ k → Steady ps → whole k ps ≡ x → is_in o k y ps ≡ true → with_whole o merge k y ps x ≡ Some y
  unfolding with_whole
  places_same k y ps None w s e h = rw h refl
  places_same k y ps (Some x) w s e h =
      let i = whole_spread k x ps w s e in
      let g : is_in o k y (spread k x 0 k) ≡ true = subst (λ (qs : List (Place C)). is_in o k y qs ≡ true) i h in
      ap Some (same k x y g)

  all_same : (es : List (Element C)) (ps : List (Place C)) → width es ≤ length ps → Steady ps → is_under o ps es ≡ true → with_all o merge ps es ≡ Some es
  unfolding with_all is_under more_of one_more with_places width
  all_same [] ps w s h = refl
  all_same (e ∷ es) ps w s h =
      let a = and_parts (is_in o e.bits e.cell (take e.bits ps)) (is_under o (drop e.bits ps) es) h in
      let n : length (take e.bits ps) ≡ e.bits = simp length-take (omega arith) in
      let d : width es ≤ length (drop e.bits ps) = simp length-drop (omega arith) in
      rw (places_same e.bits e.cell (take e.bits ps) (whole e.bits (take e.bits ps)) n (Steady-take e.bits ps s) refl a.0, all_same es (drop e.bits ps) d (Steady-drop e.bits ps s) a.1)

  stretch_same : (xs ys : List (Element C)) → width xs ≡ width ys → is_under o (places xs) ys ≡ true → join_stretch o merge xs ys ≡ ys
  unfolding join_stretch or_first
  stretch_same xs ys w h = let n = length-places xs in rw (all_same ys (places xs) (omega arith) (Steady-places xs) h)

  stretches_same : (ss : List (List (Element C) × List (Element C))) → AllEven ss → is_under o (places (firsts ss)) (seconds ss) ≡ true → join_stretches o merge ss ≡ seconds ss
  unfolding join_stretches
  stretches_same [] e h = refl
  stretches_same (s ∷ ss) e h =
      let a = under-split o s.1 (seconds ss) (places s.0) (places (firsts ss)) (length-places s.0 ∙ e.0) (rw (places-append s.0 (firsts ss)) at h) in
      rw (stretch_same s.0 s.1 e.0 a.0, stretches_same ss e.1 a.1)

  pub joined_same : (a b : List (Element C)) → width a ≡ width b → included o a b ≡ true → joined o merge a b ≡ b
  unfolding joined joined_from included
  joined_same a b w h =
      let c = cut_is (suc (suc (2 * (length a + length b)))) [] [] a b w in
      let s = cut (suc (suc (2 * (length a + length b)))) [] [] a b in
      let g : is_under o (places (firsts s)) (seconds s) ≡ true = rw (c.firsts, c.seconds) h in
      stretches_same s c.even g ∙ c.seconds

-- ---- the join's own cells keep the laws

module _ {C H : Type 0} (o : Ops C H) where
  pub joined_cell_same : (k : ℕ) (x y : C) → is_in o k y (spread k x 0 k) ≡ true → joined_cell o k x y ≡ y
  unfolding joined_cell
  joined_cell_same k x y h = rw h refl

  joined_cell_other : (k : ℕ) (x y : C) → is_in o k y (spread k x 0 k) ≡ false → joined_cell o k x y ≡ o.join x y
  unfolding joined_cell
  joined_cell_other k x y h = rw h refl

module _ {C H : Type 0} (o : Ops C H) (Fine : ℕ → C → Type 0) (n : FineLaws o Fine) (l : OrderLaws o Fine) (j : JoinLaws o Fine) where
  cell_fine : (k : ℕ) (x y : C) → Fine k x → Fine k y → Fine k (joined_cell o k x y)
  cell_fine k x y f g =
      elim (cases_Bool (is_in o k y (spread k x 0 k))) [
        | inl a ↦ subst (Fine k) (sym (joined_cell_same o k x y a)) g
        | inr a ↦ subst (Fine k) (sym (joined_cell_other o k x y a)) (j.join_fine k x y f g)
      ]

  starts_in : (k : ℕ) (x y : C) → 0 < k → o.leq x y ≡ true → is_in o k y (spread k x 0 k) ≡ true
  unfolding spread
  starts_in zero x y p e = absurd (omega arith)
  starts_in (suc k) x y p e =
      in_from o (suc k) y (spread (suc k) x 0 (suc k)) (inl (start o (suc k) y (record { at = 0; bits = suc k; cell = x }) (spread (suc k) x 1 k) (record { at = refl; bits = refl; leq = e })))

  cell_first : (k : ℕ) (x y : C) → Fine k x → Fine k y → is_in o k (joined_cell o k x y) (spread k x 0 k) ≡ true
  cell_first k x y f g =
      elim (cases_Bool (is_in o k y (spread k x 0 k))) [
        | inl a ↦ subst (λ (c : C). is_in o k c (spread k x 0 k) ≡ true) (sym (joined_cell_same o k x y a)) a
        | inr a ↦ subst (λ (c : C). is_in o k c (spread k x 0 k) ≡ true) (sym (joined_cell_other o k x y a))
            (starts_in k x (o.join x y) (n.some_bits k x f) (j.join_left k x y f g))
      ]

  cell_second : (k : ℕ) (x y : C) → Fine k x → Fine k y → o.leq y (joined_cell o k x y) ≡ true
  cell_second k x y f g =
      elim (cases_Bool (is_in o k y (spread k x 0 k))) [
        | inl a ↦ subst (λ (c : C). o.leq y c ≡ true) (sym (joined_cell_same o k x y a)) (l.leq_refl k y g)
        | inr a ↦ subst (λ (c : C). o.leq y c ≡ true) (sym (joined_cell_other o k x y a)) (j.join_right k x y f g)
      ]

  pub joined_cell_laws : MergeLaws o Fine (joined_cell o)
  joined_cell_laws = record { merge_fine = cell_fine; merge_first = cell_first; merge_second = cell_second }
