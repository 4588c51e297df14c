-- The join of two maps of sole cells that have one content is the second map, and so is their widening.
use Rattle.std.proofs.Common.{◌≡◌, ℕ, zero, suc, ◌+◌, ◌-◌, ◌*◌, ◌<◌, ◌≤◌, Bool, true, false, ◌&&◌, List, [], ◌∷◌, ◌++◌, length, take, drop, refl, sym, ap, ◌∙◌, subst, arith, inl, inr, ◌⊎◌, length-take, length-drop}
use Rattle.std.specs.Prelude.{◌==◌, cond, Option, Some, None}
use Rattle.std.proofs.lemmas.List.{drop-drop, take-append-le, drop-append-le}
use Rattle.std.proofs.lemmas.Bool.{cases_Bool, cases_lt, and_from, eq-eqb, eqb-true}
use Rattle.cell_laws.specs.Elements.{Element, Place, spread, places, width, AllFine}
use Rattle.cell_laws.specs.Cells.{Ops}
use Rattle.cell_laws.specs.Order.{known, has_bits, is_known, is_in}
use Rattle.cell_laws.specs.Join.{whole, with_whole, with_places, with_all, more_of, one_more, join_stretch, or_first, join_stretches, joined, joined_from, cut, joined_cell}
use Rattle.cell_laws.specs.Laws.{FineLaws, OrderLaws, MeaningLaws}
use Rattle.cell_laws.specs.Meaning.{Describes, Shows, ShowsAll}
use Rattle.cell_laws.proofs.Places.{place, length-places, length-spread, Steady, Steady-drop, Steady-take, Steady-places, run}
use Rattle.cell_laws.proofs.Cuts.{places-append, firsts, seconds, AllEven, cut_is}
use Rattle.cell_laws.proofs.Ordering.{in_from, start, Bits, known_bits, known_from}
use Rattle.cell_laws.proofs.Joins.{joined_cell_same}
use Rattle.run_merges.specs.Widened.{is_same_number, widened_cell}
use Rattle.exact_laws.specs.Laws.{IsAt, SoleLaws, KeepsSole}
use Rattle.exact_laws.proofs.Closing.{AllSole}
use Rattle.exact_laws.proofs.Showing.{ShownAt, Shown, Goes, shown_drop, places_shown, here, front, shows_at, at_drop, at_take, drop_more, some_left}

-- ---- elements that stay in a join as they are

module _ {C H : Type 0} (o : Ops C H) (merge : ℕ → C → C → C) where
  abbrev pub Stays : List (Place C) → List (Element C) → Type 0
  Stays ps [] = Unit {0}
  Stays ps (e ∷ es) = (with_places o merge e.bits e.cell (take e.bits ps) ≡ Some e.cell) × Stays (drop e.bits ps) es

  all_stay : (es : List (Element C)) (ps : List (Place C)) → Stays ps es → with_all o merge ps es ≡ Some es
  unfolding with_all more_of one_more
  all_stay [] ps s = refl
  all_stay (e ∷ es) ps s = rw (s.0, all_stay es (drop e.bits ps) s.1) refl

  stay_split : (xs ys : List (Element C)) (ps qs : List (Place C)) → length ps ≡ width xs → Stays (ps ++ qs) (xs ++ ys) → Stays ps xs × Stays qs ys
  unfolding width
  stay_split [] ys [] qs w s = (tt, s)
  stay_split [] ys (p ∷ ps) qs w s = absurd (omega arith)
  stay_split (x ∷ xs) ys ps qs w s =
      let t : take x.bits (ps ++ qs) ≡ take x.bits ps = take-append-le x.bits ps qs (omega arith) in
      let d : drop x.bits (ps ++ qs) ≡ drop x.bits ps ++ qs = drop-append-le x.bits ps qs (omega arith) in
      let n : length (drop x.bits ps) ≡ width xs = simp length-drop (omega arith) in
      let r = stay_split xs ys (drop x.bits ps) qs n (subst (λ (l : List (Place C)). Stays l (xs ++ ys)) d s.1) in
      ((subst (λ (l : List (Place C)). with_places o merge x.bits x.cell l ≡ Some x.cell) t s.0, r.0), r.1)

  stretch_stays : (xs ys : List (Element C)) → Stays (places xs) ys → join_stretch o merge xs ys ≡ ys
  unfolding join_stretch or_first
  stretch_stays xs ys s = rw (all_stay ys (places xs) s) refl

  stretches_stay : (ss : List (List (Element C) × List (Element C))) → AllEven ss → Stays (places (firsts ss)) (seconds ss) → join_stretches o merge ss ≡ seconds ss
  unfolding join_stretches
  stretches_stay [] e s = refl
  stretches_stay (t ∷ ss) e s =
      let a = stay_split t.1 (seconds ss) (places t.0) (places (firsts ss)) (length-places t.0 ∙ e.0) (subst (λ (l : List (Place C)). Stays l (t.1 ++ seconds ss)) (places-append t.0 (firsts ss)) s) in
      rw (stretch_stays t.0 t.1 a.0, stretches_stay ss e.1 a.1) refl

  pub joined_stays : (a b : List (Element C)) → width a ≡ width b → Stays (places a) b → joined o merge a b ≡ b
  unfolding joined joined_from
  joined_stays a b w s =
      let c = cut_is (suc (suc (2 * (length a + length b)))) [] [] a b w in
      let ss = cut (suc (suc (2 * (length a + length b)))) [] [] a b in
      let g : Stays (places (firsts ss)) (seconds ss) = subst (λ (x : List (Element C)). Stays (places x) (seconds ss)) (sym c.firsts) (subst (Stays (places a)) (sym c.seconds) s) in
      stretches_stay ss c.even g ∙ c.seconds

  none_in : (k : ℕ) (y : C) (ps : List (Place C)) → whole k ps ≡ None → is_in o k y ps ≡ true → with_places o merge k y ps ≡ Some y
  unfolding with_places with_whole
  none_in k y ps e h = rw (e, h) refl

  some_in : (k : ℕ) (x y : C) (ps : List (Place C)) → whole k ps ≡ Some x → merge k x y ≡ y → with_places o merge k y ps ≡ Some y
  unfolding with_places with_whole
  some_in k x y ps e h = rw e (ap Some h)

  whole_is : (k : ℕ) (p : Place C) (ps : List (Place C)) → p.at ≡ 0 → p.bits ≡ k → whole k (p ∷ ps) ≡ Some p.cell
  unfolding whole
  whole_is k p ps a b = rw (eq-eqb p.at 0 a, eq-eqb p.bits k b) refl

  whole_from : (k : ℕ) (p : Place C) (ps : List (Place C)) (x : C) → whole k (p ∷ ps) ≡ Some x → (p.at ≡ 0) × (p.bits ≡ k) × (p.cell ≡ x)
  unfolding whole
  whole_from k p ps x h = at (p.at == 0) (p.bits == k) refl refl h
    where
      at : (a b : Bool) → (p.at == 0) ≡ a → (p.bits == k) ≡ b → cond (a && b) (Some p.cell) None ≡ Some x → (p.at ≡ 0) × (p.bits ≡ k) × (p.cell ≡ x)
      at true true d e h = (eqb-true p.at 0 d, eqb-true p.bits k e, cc)
      at true false d e h = cc
      at false b d e h = cc

-- ---- the elements of a map of sole cells, over the places of another with the same content

module _ {C H K : Type 0} (o : Ops C H) (Fine : ℕ → C → Type 0) (Tint : H → K → Type 0) (Bare : K → Type 0) (Sure : Bool → K → Type 0) (Alike : K → K → Type 0) (Allows : ℕ → C → List K → Type 0)
    (Bound : K → Type 0) (sole : ℕ → C → Bool) (rigid : C → Bool) (n : FineLaws o Fine) (ol : OrderLaws o Fine) (ml : MeaningLaws o Fine Tint Bare Sure Allows) (l : SoleLaws o Fine Bare Sure Alike Allows Bound sole rigid) where
  -- a rigid element is not begun
  abbrev Aligned : List (Place C) → Type 0
  Aligned [] = Unit {0}
  Aligned (p ∷ ps) = rigid p.cell ≡ true → p.at ≡ 0

  element_shows : (k : ℕ) (y : C) (ks : List K) (i : ℕ) (c : K) → Fine k y → Allows k y ks → IsAt ks i c → Shows o Tint Bare Sure (record { at = i; bits = k; cell = y }) c
  element_shows k y ks i c f a h = let z : 0 + i ≡ i = omega arith in subst (λ (m : ℕ). Shows o Tint Bare Sure (record { at = m; bits = k; cell = y }) c) z (shows_at o Tint Bare Sure k y 0 k i ks c (ml.allows_shows k y ks f a) h)

  -- the bits that an element knows are known at the places that show them
  same_known : (k : ℕ) (y : C) (i m : ℕ) (ys ks : List K) (ps : List (Place C)) (bs : List Bool) → Fine k y → Allows k y ys → drop i ys ≡ take m ks → m ≤ length ps → Shown Fine Allows sole ps ks →
      known o (spread k y i m) ≡ Some bs → known o (take m ps) ≡ Some bs
  unfolding spread
  same_known k y i zero ys ks ps bs f a d h s e = e
  same_known k y i (suc m) ys ks [] bs f a d h s e = absurd (omega arith)
  same_known k y i (suc m) ys [] (p ∷ ps) bs f a d h s e = absurd s
  same_known k y i (suc m) ys (c ∷ ks) (p ∷ ps) bs f a d h s e =
      let b = known_bits o (record { at = i; bits = k; cell = y }) (spread k y (suc i) m) bs e in
      let w = element_shows k y ys i c f a (at_drop ys i c (take m ks) d) in
      let u = w.sure b.first b.here in
      let q = s.0 in
      let v = l.sure_known p.bits p.at p.cell q.content c b.first q.fine q.alone q.allows (here Fine Allows sole p c ks q) u in
      let r = same_known k y (suc i) m ys ks ps b.others f a (drop_more ys i c (take m ks) d) (omega arith) s.2 b.there in
      known_from o p (take m ps) b.first b.others v r ∙ ap Some (sym b.is)

  has_known : (k : ℕ) (y : C) (ps : List (Place C)) (bs : List Bool) → known o ps ≡ Some bs → o.has k y bs ≡ true → is_in o k y ps ≡ true
  unfolding is_known has_bits
  has_known k y ps bs e h = in_from o k y ps (inr (inr (inr (at e))))
    where
      at : known o ps ≡ Some bs → is_known o k y ps ≡ true
      at e = rw e h

  -- an element that begins at the first place has the same content, or the element has what the places show
  element_in : (k : ℕ) (y : C) (p : Place C) (ps : List (Place C)) (c : K) (ks : List K) → Fine k y → sole k y ≡ true → Allows k y (take k (c ∷ ks)) → k ≤ length (p ∷ ps) → Shown Fine Allows sole (p ∷ ps) (c ∷ ks) →
      Aligned (p ∷ ps) → ((p.at ≡ 0) × (p.bits ≡ k)) ⊎ (is_in o k y (take k (p ∷ ps)) ≡ true)
  element_in k y p ps c ks f s a w h g =
      elim (cases_Bool (o.blank y)) [
        | inl b ↦
            let one = n.blank_bits k y f b in
            let q = h.0 in
            let x = l.bare_blank p.bits p.at p.cell q.content c q.fine q.alone q.allows (here Fine Allows sole p c ks q) (first.bare b) in
            let two = n.blank_bits p.bits p.cell q.fine x in
            let i = q.inside in
            inl (omega arith, two ∙ sym one)
        | inr b ↦ elim (cases_Bool (rigid y)) [
          | inl r ↦
              let q = h.0 in
              let t = l.rigid_bound k 0 y (take k (c ∷ ks)) c f s r a at0 in
              let x = l.bound_rigid p.bits p.at p.cell q.content c q.fine q.alone q.allows (here Fine Allows sole p c ks q) t in
              inl (g x, l.rigid_bits p.bits k p.cell y q.fine f q.alone s x r)
          | inr r ↦
              let u = l.sole_known k y f s b r in
              inr (has_known k y (take k (p ∷ ps)) u.0 (same_known k y 0 k (take k (c ∷ ks)) (c ∷ ks) (p ∷ ps) u.0 f a refl w h u.1) u.2)
        ]
      ]
    where
      some : 0 < k
      some = n.some_bits k y f

      at0 : IsAt (take k (c ∷ ks)) 0 c
      at0 = at_take (c ∷ ks) k 0 c some refl

      first : Shows o Tint Bare Sure (record { at = 0; bits = k; cell = y }) c
      first = element_shows k y (take k (c ∷ ks)) 0 c f a at0

  -- places behind one in its element
  within : (j : ℕ) (p : Place C) (ps : List (Place C)) (q : Place C) (qs : List (Place C)) → Steady (p ∷ ps) → p.at + j < p.bits → drop j (p ∷ ps) ≡ q ∷ qs → q ≡ record { at = p.at + j; bits = p.bits; cell = p.cell }
  within zero p ps q qs s h e =
      let z : p.at + zero ≡ p.at = omega arith in
      let i : q ≡ p = cc in
      i ∙ ap (λ (x : ℕ). record { at = x; bits = p.bits; cell = p.cell }) (sym z)
  within (suc j) p [] q qs s h e = absurd (nothing j e)
    where
      nothing : (j : ℕ) → drop (suc j) (p ∷ []) ≡ q ∷ qs → ⊥
      nothing zero e = cc
      nothing (suc j) e = cc
  within (suc j) p (x ∷ ps) q qs s h e =
      let f = s.0 (omega arith) in
      let at : x.at ≡ suc p.at = ap (λ (y : Place C). y.at) f in
      let bits : x.bits ≡ p.bits = ap (λ (y : Place C). y.bits) f in
      let cell : x.cell ≡ p.cell = ap (λ (y : Place C). y.cell) f in
      let r = within j x ps q qs s.1 (omega arith) e in
      let z : x.at + j ≡ p.at + suc j = omega arith in
      r ∙ ap (λ (y : ℕ). record { at = y; bits = x.bits; cell = x.cell }) z ∙ ap (λ (y : ℕ). record { at = p.at + suc j; bits = y; cell = x.cell }) bits
      ∙ ap (λ (y : C). record { at = p.at + suc j; bits = p.bits; cell = y }) cell

  -- behind an element no rigid one is begun
  behind : (k j : ℕ) (y : C) (p : Place C) (ps : List (Place C)) (c : K) (ks : List K) → k ≡ suc j → Fine k y → sole k y ≡ true → Allows k y (take k (c ∷ ks)) → j < length (p ∷ ps) → Shown Fine Allows sole (p ∷ ps) (c ∷ ks) →
      Steady (p ∷ ps) → Aligned (p ∷ ps) → Aligned (drop (suc j) (p ∷ ps))
  behind k j y p ps c ks e f s a w h g u =
      let v = some_left (p ∷ ps) j w in
      subst Aligned (sym (drop_more (p ∷ ps) j v.0 v.1 v.2))
      (at v.0 v.1 v.2 (subst Steady v.2 (Steady-drop j (p ∷ ps) g)) (drop j (c ∷ ks)) refl (subst (λ (l : List (Place C)). Shown Fine Allows sole l (drop j (c ∷ ks))) v.2 (shown_drop Fine Allows sole j (p ∷ ps) (c ∷ ks) h)))
    where
      begun : (q : Place C) (qs : List (Place C)) (d : K) (ds : List K) → drop j (p ∷ ps) ≡ q ∷ qs → drop j (c ∷ ks) ≡ d ∷ ds → ShownAt Fine Allows sole q (d ∷ ds) → rigid q.cell ≡ true → suc q.at < q.bits → ⊥
      begun q qs d ds x z t r i =
          let b = l.rigid_bound q.bits q.at q.cell t.content d t.fine t.alone r t.allows (here Fine Allows sole q d ds t) in
          let m = l.bound_rigid k j y (take k (c ∷ ks)) d f s a (at_take (c ∷ ks) k j d (omega arith) (at_drop (c ∷ ks) j d ds z)) b in
          let o1 = h.0 in
          let t0 = l.rigid_bound k 0 y (take k (c ∷ ks)) c f s m a (at_take (c ∷ ks) k 0 c (omega arith) refl) in
          let x0 = l.bound_rigid p.bits p.at p.cell o1.content c o1.fine o1.alone o1.allows (here Fine Allows sole p c ks o1) t0 in
          let b0 = l.rigid_bits p.bits k p.cell y o1.fine f o1.alone s x0 m in
          let z0 = u x0 in
          let w0 = within j p ps q qs g (omega arith) x in
          let at : q.at ≡ p.at + j = ap (λ (v : Place C). v.at) w0 in
          let bits : q.bits ≡ p.bits = ap (λ (v : Place C). v.bits) w0 in
          omega arith

      at : (q : Place C) (qs : List (Place C)) → drop j (p ∷ ps) ≡ q ∷ qs → Steady (q ∷ qs) → (ds : List K) → drop j (c ∷ ks) ≡ ds → Shown Fine Allows sole (q ∷ qs) ds → Aligned qs
      at q [] x t ds z v = tt
      at q (r ∷ rs) x t [] z v = absurd v
      at q (r ∷ rs) x t (d ∷ ds) z v =
          λ i. elim (cases_lt (suc q.at) q.bits) [
            | inl lt ↦
                let m = t.0 lt in
                let cell : r.cell ≡ q.cell = ap (λ (y : Place C). y.cell) m in
                absurd (begun q (r ∷ rs) d ds x z v.0 (subst (λ (y : C). rigid y ≡ true) cell i) lt)
            | inr ge ↦ v.1 ge
          ]

  take_some : (k : ℕ) (p : Place C) (ps : List (Place C)) → 0 < k → take k (p ∷ ps) ≡ p ∷ take (k - 1) ps
  take_some zero p ps h = absurd (omega arith)
  take_some (suc k) p ps h = let z : k ≡ suc k - 1 = omega arith in ap (λ (x : ℕ). p ∷ take x ps) z

  module _ (merge : ℕ → C → C → C) (ke : KeepsSole Fine Allows sole merge) where
    element_stays : (k : ℕ) (y : C) (p : Place C) (ps : List (Place C)) (c : K) (ks : List K) → Fine k y → sole k y ≡ true → Allows k y (take k (c ∷ ks)) → k ≤ length (p ∷ ps) → Shown Fine Allows sole (p ∷ ps) (c ∷ ks) →
        Aligned (p ∷ ps) → with_places o merge k y (take k (p ∷ ps)) ≡ Some y
    element_stays k y p ps c ks f s a w h g =
        elim (element_in k y p ps c ks f s a w h g) [
          | inl t ↦ begins t.0 t.1
          | inr t ↦ by_whole (whole k (take k (p ∷ ps))) refl t
        ]
      where
        begins : p.at ≡ 0 → p.bits ≡ k → with_places o merge k y (take k (p ∷ ps)) ≡ Some y
        begins z b =
            let q = h.0 in
            let i = take_some k p ps (n.some_bits k y f) in
            let v = front Fine Allows sole p (c ∷ ks) q z in
            let x : Allows k p.cell (take k (c ∷ ks)) = subst (λ (m : ℕ). Allows m p.cell (take m (c ∷ ks))) b v in
            let m = ke.same k p.cell y (take k (c ∷ ks)) (subst (λ (m : ℕ). Fine m p.cell) b q.fine) f (subst (λ (m : ℕ). sole m p.cell ≡ true) b q.alone) s x a in
            some_in o merge k p.cell y (take k (p ∷ ps)) (ap (whole k) i ∙ whole_is o merge k p (take (k - 1) ps) z b) m

        by_whole : (x : Option C) → whole k (take k (p ∷ ps)) ≡ x → is_in o k y (take k (p ∷ ps)) ≡ true → with_places o merge k y (take k (p ∷ ps)) ≡ Some y
        by_whole None e t = none_in o merge k y (take k (p ∷ ps)) e t
        by_whole (Some x) e t =
            let i = take_some k p ps (n.some_bits k y f) in
            let v = whole_from o merge k p (take (k - 1) ps) x (ap (whole k) (sym i) ∙ e) in
            begins v.0 v.1

    stays : (es : List (Element C)) (ps : List (Place C)) (ks : List K) → AllFine Fine es → AllSole sole es → Describes Allows es ks → width es ≤ length ps → Shown Fine Allows sole ps ks → Steady ps → Aligned ps → Stays o merge ps es
    unfolding width
    stays [] ps ks f s d w h g u = tt
    stays (e ∷ es) [] ks f s d w h g u = let p = n.some_bits e.bits e.cell f.0 in absurd (omega arith)
    stays (e ∷ es) (p ∷ ps) [] f s d w h g u = absurd h
    stays (e ∷ es) (p ∷ ps) (c ∷ ks) f s d w h g u =
        let b = n.some_bits e.bits e.cell f.0 in
        let k : e.bits ≡ suc (e.bits - 1) = omega arith in
        let i : width es ≤ length (drop e.bits (p ∷ ps)) = simp length-drop (omega arith) in
        let v : Aligned (drop e.bits (p ∷ ps)) = subst (λ (x : ℕ). Aligned (drop x (p ∷ ps))) (sym k) (behind e.bits (e.bits - 1) e.cell p ps c ks k f.0 s.0 d.0 (omega arith) h g u) in (
          element_stays e.bits e.cell p ps c ks f.0 s.0 d.0 (omega arith) h u,
          stays es (drop e.bits (p ∷ ps)) (drop e.bits (c ∷ ks)) f.1 s.1 d.1 i (shown_drop Fine Allows sole e.bits (p ∷ ps) (c ∷ ks) h) (Steady-drop e.bits (p ∷ ps) g) v,
        )

    aligned_places : (es : List (Element C)) → AllFine Fine es → Aligned (places es)
    unfolding places spread
    aligned_places [] f = tt
    aligned_places (e ∷ es) f = at e.bits (n.some_bits e.bits e.cell f.0)
      where
        at : (m : ℕ) → 0 < m → Aligned (spread e.bits e.cell 0 m ++ places es)
        at zero h = absurd (omega arith)
        at (suc m) h = λ r. refl

    pub sole_joined : (a b : List (Element C)) (ks : List K) → AllFine Fine a → AllFine Fine b → AllSole sole a → AllSole sole b → width a ≡ width b → Describes Allows a ks → Describes Allows b ks → joined o merge a b ≡ b
    sole_joined a b ks f g s t w d e =
        let p = length-places a in
        joined_stays o merge a b w
        (stays b (places a) ks g t e (omega arith) (places_shown Fine Allows sole ml.allows_length n.some_bits a ks f s d) (Steady-places a) (aligned_places a f))

  -- ---- cells of one content

  same_start : (k : ℕ) (x y : C) → 0 < k → Fine k y → x ≡ y → is_in o k y (spread k x 0 k) ≡ true
  unfolding spread
  same_start zero x y p g e = absurd (omega arith)
  same_start (suc k) x y p g e =
      in_from o (suc k) y (spread (suc k) x 0 (suc k)) (inl (start o (suc k) y (record { at = 0; bits = suc k; cell = x }) (spread (suc k) x 1 k)
      (record { at = refl; bits = refl; leq = subst (λ (z : C). o.leq z y ≡ true) (sym e) (ol.leq_refl (suc k) y g) })))

  -- all bits of the first are known, and the second has them
  record Knows (k : ℕ) (x y : C) : Type 0 where
    bits : List Bool
    known_bits : known o (spread k x 0 k) ≡ Some bits
    has : o.has k y bits ≡ true

  own_known : (k : ℕ) (x y : C) (ks : List K) (bs : List Bool) → Fine k x → Fine k y → sole k x ≡ true → Allows k x ks → Allows k y ks → known o (spread k y 0 k) ≡ Some bs → known o (spread k x 0 k) ≡ Some bs
  unfolding spread
  own_known k x y ks bs f g s a b e = at k 0 bs (omega arith) e
    where
      step : (i : ℕ) (v : Bool) → i < k → o.bit k i y ≡ Some v → o.bit k i x ≡ Some v
      step i v h u =
          let w = ml.allows_length k x ks a in
          let z = some_left ks i (omega arith) in
          let p = at_drop ks i z.0 z.1 z.2 in
          l.sure_known k i x ks z.0 v f s a p ((element_shows k y ks i z.0 g b p).sure v u)

      at : (m i : ℕ) (bs : List Bool) → i + m ≡ k → known o (spread k y i m) ≡ Some bs → known o (spread k x i m) ≡ Some bs
      at zero i bs q e = e
      at (suc m) i bs q e =
          let c = known_bits o (record { at = i; bits = k; cell = y }) (spread k y (suc i) m) bs e in
          known_from o (record { at = i; bits = k; cell = x }) (spread k x (suc i) m) c.first c.others (step i c.first (omega arith) c.here) (at m (suc i) c.others (omega arith) c.there) ∙ ap Some (sym c.is)

  -- they are one cell, or have one number
  alone : (k : ℕ) (x y : C) (ks : List K) → Fine k x → Fine k y → sole k x ≡ true → sole k y ≡ true → Allows k x ks → Allows k y ks → (x ≡ y) ⊎ Knows k x y
  alone k x y ks f g s t a b =
      let p = n.some_bits k y g in
      let w = ml.allows_length k x ks a in
      let z = some_left ks 0 (omega arith) in
      let q = at_drop ks 0 z.0 z.1 z.2 in
      elim (cases_Bool (o.blank y)) [
        | inl e ↦
            let one = n.blank_bits k y g e in
            let d = l.bare_blank k 0 x ks z.0 f s a q ((element_shows k y ks 0 z.0 g b q).bare e) in
            inl (l.blank_same x y ks (subst (λ (m : ℕ). Fine m x) one f) (subst (λ (m : ℕ). Fine m y) one g) (subst (λ (m : ℕ). sole m x ≡ true) one s) (subst (λ (m : ℕ). sole m y ≡ true) one t)
            d e (subst (λ (m : ℕ). Allows m x ks) one a) (subst (λ (m : ℕ). Allows m y ks) one b))
        | inr e ↦ elim (cases_Bool (rigid y)) [
          | inl r ↦
              let d = l.bound_rigid k 0 x ks z.0 f s a q (l.rigid_bound k 0 y ks z.0 g t r b q) in
              inl (l.rigid_same k x y ks f g s t d r a b)
          | inr r ↦
              let u = l.sole_known k y g t e r in
              inr (record { bits = u.0; known_bits = own_known k x y ks u.0 f g s a b u.1; has = u.2 })
        ]
      ]

  is_known_by : (k : ℕ) (x y : C) → Knows k x y → is_known o k y (spread k x 0 k) ≡ true
  unfolding is_known has_bits
  is_known_by k x y h = rw h.known_bits h.has

  -- the join of cells makes one of two
  pub join_keeps : KeepsSole Fine Allows sole (joined_cell o)
  join_keeps = record { same = λ k x y ks f g s t a b. joined_cell_same o k x y (together k x y ks f g s t a b) }
    where
      together : (k : ℕ) (x y : C) (ks : List K) → Fine k x → Fine k y → sole k x ≡ true → sole k y ≡ true → Allows k x ks → Allows k y ks → is_in o k y (spread k x 0 k) ≡ true
      together k x y ks f g s t a b =
          elim (alone k x y ks f g s t a b) [
            | inl e ↦ same_start k x y (n.some_bits k y g) g e
            | inr e ↦ has_known k y (spread k x 0 k) e.bits e.known_bits e.has
          ]

  -- so does a widening that keeps each cell with itself
  pub widening_keeps : (widened : ℕ → C → C → C) → ((k : ℕ) (x : C) → Fine k x → sole k x ≡ true → widened k x x ≡ x) → KeepsSole Fine Allows sole (widened_cell o widened)
  unfolding widened_cell is_same_number
  widening_keeps widened keeps = record { same = λ k x y ks f g s t a b. both k x y f s (alone k x y ks f g s t a b) (alone k y x ks g f t s b a) }
    where
      kept : (k : ℕ) (x y : C) → Fine k x → sole k x ≡ true → x ≡ y → (b : Bool) → cond b y (widened k x y) ≡ y
      kept k x y f s e true = refl
      kept k x y f s e false = ap (widened k x) (sym e) ∙ keeps k x f s ∙ e

      both : (k : ℕ) (x y : C) → Fine k x → sole k x ≡ true → (x ≡ y) ⊎ Knows k x y → (y ≡ x) ⊎ Knows k y x → cond (is_known o k y (spread k x 0 k) && is_known o k x (spread k y 0 k)) y (widened k x y) ≡ y
      both k x y f s (inl e) q = kept k x y f s e (is_known o k y (spread k x 0 k) && is_known o k x (spread k y 0 k))
      both k x y f s (inr p) (inl e) = kept k x y f s (sym e) (is_known o k y (spread k x 0 k) && is_known o k x (spread k y 0 k))
      both k x y f s (inr p) (inr q) = ap (λ (b : Bool). cond b y (widened k x y)) (and_from (is_known o k y (spread k x 0 k)) (is_known o k x (spread k y 0 k)) (is_known_by k x y p) (is_known_by k y x q))
